-- Rows of a grid, for any count that is left.
use native.Mathlib.Numerals.{unary_clauses}
use Rattle.std.proofs.Common.{◌≡◌, ℕ, zero, suc, ◌-◌, ◌<◌, List, [], ◌++◌, take, drop, refl, arith}
use Rattle.glk_windows.specs.Resizing.{row_sized, rows_sized}

pub rows_sized-more : (n w old : ℕ) (cells : List ℕ) → 0 < n
    → rows_sized n w old cells
    ≡ row_sized w (take old cells) ++ rows_sized (n - 1) w old (drop old cells)
unfolding rows_sized
rows_sized-more zero w old cells h = absurd (omega arith)
rows_sized-more (suc n) w old cells h = simp unary_clauses

pub rows_sized-none : (n w old : ℕ) (cells : List ℕ) → n ≡ 0 → rows_sized n w old cells ≡ []
unfolding rows_sized
rows_sized-none zero w old cells h = refl
rows_sized-none (suc n) w old cells h = absurd (omega (arith, h))

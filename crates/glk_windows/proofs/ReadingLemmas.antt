-- The way up from a window, for any count of steps that is left.
use native.Mathlib.Numerals.{unary_clauses}
use Rattle.std.proofs.Common.{◌≡◌, ℕ, zero, suc, ◌-◌, ◌<◌, ◌==◌, ◌||◌, List, refl, arith, false}
use Rattle.glk_windows.specs.declared.window.Window.{Window}
use Rattle.glk_windows.specs.Tree.{parent_of}
use Rattle.glk_windows.specs.Reading.{is_below}

pub is_below-more : (d : ℕ) (ws : List Window) (n pair : ℕ) → 0 < d
    → is_below d ws n pair ≡ (parent_of ws n == pair || is_below (d - 1) ws (parent_of ws n) pair)
unfolding is_below
is_below-more zero ws n pair h = absurd (omega arith)
is_below-more (suc d) ws n pair h = simp unary_clauses

pub is_below-none : (d : ℕ) (ws : List Window) (n pair : ℕ) → d ≡ 0 → is_below d ws n pair ≡ false
unfolding is_below
is_below-none zero ws n pair h = refl
is_below-none (suc d) ws n pair h = absurd (omega (arith, h))

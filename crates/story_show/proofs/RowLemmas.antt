-- Rows of a grid, for any count that is left.
use native.Mathlib.Numerals.{unary_clauses}
use Rattle.std.proofs.Common.{◌≡◌, ℕ, zero, suc, ◌+◌, ◌-◌, ◌<◌, List, [], ◌∷◌, take, drop, refl}
use Rattle.std.proofs.Common.{arith}
use Rattle.story_show.specs.declared.show.Part.TheVariants.{GridRow}
use Rattle.story_show.specs.Making.{row_parts}

pub row_parts-more : (n id y w : ℕ) (cells : List ℕ) → 0 < n
    → row_parts n id y w cells ≡ GridRow id y (take w cells) ∷ row_parts (n - 1) id (y + 1) w
    (drop w cells)
unfolding row_parts
row_parts-more zero id y w cells h = absurd (omega arith)
row_parts-more (suc n) id y w cells h = simp unary_clauses

pub row_parts-none : (n id y w : ℕ) (cells : List ℕ) → n ≡ 0 → row_parts n id y w cells ≡ []
unfolding row_parts
row_parts-none zero id y w cells h = refl
row_parts-none (suc n) id y w cells h = absurd (omega (arith, h))

-- The last run of a buffer, by its place.
use native.Mathlib.Numerals.{unary_clauses}
use Rattle.std.proofs.Common.{◌≡◌, ℕ, ◌-◌, ◌<◌, ◌==◌, List, [], ◌∷◌, length}
use Rattle.std.proofs.Common.{refl, arith, slice_set, slice_index_or, false, ap}
use Rattle.glk_windows.specs.declared.text.Run.{Run}
use Rattle.glk_windows.specs.Output.{ends_in_style, last_longer, longer_run}

pub ends_in-none : (rs : List Run) (style : ℕ) → length rs ≡ 0 → false ≡ ends_in_style rs style
unfolding ends_in_style
ends_in-none [] style h = refl
ends_in-none (r ∷ rs) style h = absurd (omega (arith, h))

ends_in-more : (r : Run) (rs : List Run) (style : ℕ) (d : Run)
    → ((slice_index_or (r ∷ rs) (length rs) d).style == style) ≡ ends_in_style (r ∷ rs) style
unfolding ends_in_style
ends_in-more r [] style d = refl
ends_in-more r (s ∷ rs) style d = ends_in-more s rs style d

pub ends_in-last : (rs : List Run) (style : ℕ) (d : Run) → 0 < length rs
    → ((slice_index_or rs (length rs - 1) d).style == style) ≡ ends_in_style rs style
ends_in-last [] style d h = absurd (omega (arith, h))
ends_in-last (r ∷ rs) style d h =
    let e : length (r ∷ rs) - 1 ≡ length rs = simp unary_clauses in
    rw e (ends_in-more r rs style d)

longer-more : (r : Run) (rs : List Run) (code : ℕ) (d v : Run)
    → v ≡ longer_run (slice_index_or (r ∷ rs) (length rs) d) code
    → slice_set (r ∷ rs) (length rs) v ≡ last_longer (r ∷ rs) code
unfolding last_longer
longer-more r [] code d v e = ap (λ x. x ∷ []) e
longer-more r (s ∷ rs) code d v e = ap (λ x. r ∷ x) (longer-more s rs code d v e)

pub longer-last : (rs : List Run) (code : ℕ) (d v : Run) → 0 < length rs
    → v ≡ longer_run (slice_index_or rs (length rs - 1) d) code
    → slice_set rs (length rs - 1) v ≡ last_longer rs code
longer-last [] code d v h e = absurd (omega (arith, h))
longer-last (r ∷ rs) code d v h e =
    let l : length (r ∷ rs) - 1 ≡ length rs = simp unary_clauses in
    rw l (longer-more r rs code d v (rw l at e))

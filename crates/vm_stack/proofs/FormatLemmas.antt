-- The walk over pairs, by the places of a list.
use Rattle.std.proofs.Common.{◌≡◌, ◌≢◌, ℕ, ◌+◌, ◌*◌, ◌<◌, ◌==◌, List, [], ◌∷◌}
use Rattle.std.proofs.Common.{length, drop, slice_index, refl, arith, ◌∙◌, ap, false}
use Rattle.std.proofs.lemmas.Bool.Decides.{nat_tests}
use Rattle.std.proofs.lemmas.List.{drop_more}
use Rattle.vm_stack.specs.Frame.{locals_end, aligned}

pub no_zero : (x : ℕ) → x ≢ 0 → (x == 0) ≡ false
no_zero x h = grind (arith, nat_tests)

-- what the pair at a place gives
pub two : (bytes : List ℕ) (at : ℕ) → at + 1 < length bytes
    → drop at bytes ≡ slice_index bytes at ∷ slice_index bytes (at + 1) ∷ drop (at + 2) bytes
two bytes at h =
    drop_more bytes at 0 (omega (arith, h))
    ∙ ap (λ (ys : List ℕ). slice_index bytes at ∷ ys)
    (drop_more bytes (at + 1) 0 h
    ∙ ap (λ (n : ℕ). slice_index bytes (at + 1) ∷ drop n bytes) (omega arith))

-- a pair is walked; x and y are the code's numbers of its bytes
pub locals_more : (format : List ℕ) (end read x y : ℕ)
    → read + 1 < length format → x ≡ slice_index format read
    → y ≡ slice_index format (read + 1) → x ≢ 0
    → locals_end end (drop read format)
    ≡ locals_end (aligned x end + x * y) (drop (read + 2) format)
locals_more format end read x y h ex ey some =
    ap (λ (ys : List ℕ). locals_end end ys) (two format read h)
    ∙ (rw (← ex, ← ey, no_zero x some) refl)

pub locals_none : (end : ℕ) (xs : List ℕ) → length xs < 2 → locals_end end xs ≡ end
locals_none end [] h = refl
locals_none end (x ∷ []) h = refl
locals_none end (x ∷ y ∷ rest) h = absurd (omega (arith, h))

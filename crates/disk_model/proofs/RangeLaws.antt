-- Laws of lists of ranges: their greatest end, and the places outside them (own).
use Rattle.std.proofs.Common.{◌≡◌, ◌⊎◌, ℕ, ◌<◌, ◌≤◌, max, [], ◌∷◌, ◌++◌, refl, arith}
use Rattle.disk_model.specs.DiskState.{Ranges, greatest_end, Untouched}

-- with one range more
pub greatest_end-push :
    (ranges : Ranges) (r : ℕ × ℕ) (n : ℕ)
    → greatest_end (ranges ++ r ∷ []) n ≡ max r.1 (greatest_end ranges n)
greatest_end-push [] r n = refl
greatest_end-push (x ∷ ranges) r n = omega (arith, greatest_end-push ranges r n)

-- it isn't below the size
pub greatest_end_least : (ranges : Ranges) (n : ℕ) → n ≤ greatest_end ranges n
greatest_end_least [] n = omega arith
greatest_end_least (x ∷ ranges) n = omega (arith, greatest_end_least ranges n)

-- outside the ranges, and outside one more
pub untouched-push :
    (i : ℕ) (ranges : Ranges) (r : ℕ × ℕ)
    → Untouched i ranges → (i < r.0) ⊎ (r.1 ≤ i) → Untouched i (ranges ++ r ∷ [])
untouched-push i [] r old new = (new, tt)
untouched-push i (x ∷ ranges) r old new = (old.0, untouched-push i ranges r old.1 new)

-- outside all of them, so outside all but the last
pub untouched-front :
    (i : ℕ) (ranges : Ranges) (r : ℕ × ℕ) → Untouched i (ranges ++ r ∷ [])
    → Untouched i ranges
untouched-front i [] r all = tt
untouched-front i (x ∷ ranges) r all = (all.0, untouched-front i ranges r all.1)

-- and outside the last
pub untouched-last :
    (i : ℕ) (ranges : Ranges) (r : ℕ × ℕ)
    → Untouched i (ranges ++ r ∷ []) → (i < r.0) ⊎ (r.1 ≤ i)
untouched-last i [] r all = all.0
untouched-last i (x ∷ ranges) r all = untouched-last i ranges r all.1

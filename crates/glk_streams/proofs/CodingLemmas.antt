-- What the codings keep.
use Rattle.std.proofs.Common.{◌≡◌, ◌<◌, ℕ, List, [], ◌∷◌, refl, arith, slice_set, take, length}

-- a first byte that was written
pub take_one_set : (xs : List ℕ) (b : ℕ) → 0 < length xs → take 1 (slice_set xs 0 b) ≡ b ∷ []
take_one_set [] b h = absurd (omega (arith, h))
take_one_set (x ∷ xs) b h = refl

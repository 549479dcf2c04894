-- Texts that a line may hold (own).
use Rattle.std.specs.Prelude.{◌≡◌, ℕ, Bool, true, not, ◌&&◌, nat_le, List, [], ◌∷◌, length}
use Rattle.std.specs.Str.{all_scalars}

-- a character that a text in a line may have: no control character
abbrev pub is_allowed : ℕ → Bool
is_allowed c = nat_le 0x20 c && not (nat_le 0x7F c && nat_le c 0x9F)

-- each character is such a one
abbrev pub are_allowed : List ℕ → Bool
are_allowed [] = true
are_allowed (c ∷ cs) = is_allowed c && are_allowed cs

-- at most 1,024 characters, each allowed
abbrev pub is_short : List ℕ → Bool
is_short cs = nat_le (length cs) 1024 && are_allowed cs

-- a text that a line may hold: Unicode scalar values, at most 1,024, each allowed
pub record IsText (cs : List ℕ) : Type 0 where
  pub scalars : all_scalars cs ≡ true
  pub short : is_short cs ≡ true

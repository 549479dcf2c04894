-- Legal history of a cell: one list of entries, each with a number (own).
use Rattle.std.specs.Prelude.{◌≡◌, ◌⊎◌, ℕ, List, [], ◌∷◌, ◌++◌}

-- the number is one of these
abbrev pub IsAmong : ℕ → List ℕ → Type 0
IsAmong n [] = ⊥
IsAmong n (x ∷ xs) = (x ≡ n) ⊎ IsAmong n xs

-- the entry has none of these numbers
abbrev pub IsForeign : {E : Type 0} → (E → ℕ) → List ℕ → E → Type 0
IsForeign by numbers e = IsAmong (by e) numbers → ⊥

-- no number is among both
abbrev pub AreApart : List ℕ → List ℕ → Type 0
AreApart xs ys = (n : ℕ) → IsAmong n xs → IsAmong n ys → ⊥

module _ {A : Type 0} where
  -- all items meet P
  abbrev pub Each : (A → Type 0) → List A → Type 0
  Each P [] = Unit {0}
  Each P (x ∷ xs) = P x × Each P xs

  -- the history begins with what was seen, and goes on by entries that all meet P
  abbrev pub Continues : (A → Type 0) → List A → List A → Type 0
  Continues P history seen = (rest : List A) × (history ≡ seen ++ rest) × Each P rest

  -- of two beginnings of one list the longer one
  abbrev pub longer_list : List A → List A → List A
  longer_list [] ys = ys
  longer_list (x ∷ xs) [] = x ∷ xs
  longer_list (x ∷ xs) (y ∷ ys) = x ∷ longer_list xs ys

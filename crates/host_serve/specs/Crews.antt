-- What the members of a crew did at once (own).
use Rattle.std.specs.Prelude.{◌≡◌, ◌⊎◌, List, [], ◌∷◌, Option, Some, None}
use Rattle.turn_cell.specs.History.{Each}

module _ {A : Type 0} where
  -- the list has it
  abbrev pub Has : List A → A → Type 0
  Has [] y = ⊥
  Has (x ∷ xs) y = (x ≡ y) ⊎ Has xs y

  -- there is one, and P holds of it
  abbrev pub OfSome : (A → Type 0) → Option A → Type 0
  OfSome P None = ⊥
  OfSome P (Some x) = P x

  -- it is one of two answers, and an end only where both are
  pub record IsOfTwo (IsEnd : A → Type 0) (a b answer : A) : Type 0 where
    pub one : (answer ≡ a) ⊎ (answer ≡ b)
    pub end : IsEnd answer → IsEnd a × IsEnd b

  -- the same where there are two
  abbrev pub OfBoth : (A → Type 0) → Option A → Option A → Option A → Type 0
  OfBoth IsEnd None b answer = Unit {0}
  OfBoth IsEnd (Some a) None answer = Unit {0}
  OfBoth IsEnd (Some a) (Some b) answer = OfSome (IsOfTwo IsEnd a b) answer

module _ {M A : Type 0} where
  -- members as they were, as they are then, and their answers
  abbrev pub EachDid : (M → M → A → Type 0) → List M → List M → List A → Type 0
  EachDid Did [] [] [] = Unit {0}
  EachDid Did [] [] (a ∷ answers) = ⊥
  EachDid Did [] (y ∷ ys) answers = ⊥
  EachDid Did (x ∷ xs) [] answers = ⊥
  EachDid Did (x ∷ xs) (y ∷ ys) [] = ⊥
  EachDid Did (x ∷ xs) (y ∷ ys) (a ∷ answers) = Did x y a × EachDid Did xs ys answers

  -- each member did its work; the answer is one of theirs, and an end only where all of them are
  pub record AllDid (Did : M → M → A → Type 0) (IsEnd : A → Type 0) (old new : List M)
      (answer : A) : Type 0 where
    pub answers : List A
    pub each : EachDid Did old new answers
    pub one : Has answers answer
    pub end : IsEnd answer → Each IsEnd answers

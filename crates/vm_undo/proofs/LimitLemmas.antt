-- The limits of a list.
use Rattle.std.proofs.Common.{◌≡◌, ℕ, suc, ◌-◌, ◌<◌, ◌≤◌, true, false, List, [], ◌∷◌, ◌++◌, length}
use Rattle.std.proofs.Common.{take, refl, ap, ◌∙◌, arith, Some, inl, inr}
use Rattle.std.specs.Prelude.{slice_get, All}
use Rattle.std.specs.List.{sum_by, remove}
use Rattle.std.proofs.lemmas.Bool.{cases_Bool}
use Rattle.std.proofs.lemmas.Bool.Decides.{nat_tests}
use Rattle.std.proofs.lemmas.List.{take_all, length-append}
use Rattle.std.proofs.lemmas.List.Elements.{All-tail}
use Rattle.vm_undo.specs.UndoList.{are_within, within_limits, newest, KeepLimits, weight}
use Rattle.vm_undo.specs.UndoList.{HoldsLimits, KeepsTheNewest}
use Rattle.vm_undo.specs.declared.saved.Saved.{Saved}
use Rattle.vm_undo.specs.declared.undo.TheConstants.{MAX_WEIGHT}

-- the empty list is within the limits
pub some_over : {X : Type 0} (weigh : X → ℕ) (xs : List X) → are_within weigh xs ≡ false
    → 0 < length xs
some_over weigh [] f = cc
some_over weigh (x ∷ xs) f = omega arith

pub shed_one : {X : Type 0} (weigh : X → ℕ) (xs : List X) → are_within weigh xs ≡ false
    → within_limits weigh (remove xs 0) ≡ within_limits weigh xs
shed_one weigh [] f = cc
shed_one weigh (x ∷ xs) f = rw f refl

pub shed_none : {X : Type 0} (weigh : X → ℕ) (xs : List X) → are_within weigh xs ≡ true
    → within_limits weigh xs ≡ xs
shed_none weigh [] t = refl
shed_none weigh (x ∷ xs) t = rw t refl

pub light_all : {X : Type 0} (weigh : X → ℕ) (xs : List X) (n sum : ℕ) → length xs ≤ n
    → sum ≡ sum_by weigh (take n xs) → sum ≡ sum_by weigh xs
light_all weigh xs n sum l e = e ∙ ap (sum_by weigh) (take_all n xs l)

-- both limits hold afterwards
pub holds_within : {X : Type 0} (weigh : X → ℕ) (xs : List X)
    → are_within weigh (within_limits weigh xs) ≡ true
holds_within weigh [] = refl
holds_within weigh (x ∷ xs) = elim (cases_Bool (are_within weigh (x ∷ xs))) [
  | inl t ↦ rw t t
  | inr f ↦ rw f (holds_within weigh xs)
]

pub limits_of : (states : List Saved) → are_within weight states ≡ true → KeepLimits states
limits_of states t = record {
  few = grind (arith, nat_tests, t);
  light = grind (arith, nat_tests, t);
}

pub holds : HoldsLimits
holds states = limits_of (within_limits weight states) (holds_within weight states)

slice_end : {X : Type 0} (xs : List X) (y : X) → slice_get (xs ++ y ∷ []) (length xs) ≡ Some y
slice_end [] y = refl
slice_end (x ∷ xs) y = slice_end xs y

newest_front : {X : Type 0} (xs : List X) (x y : X) → newest (x ∷ (xs ++ y ∷ [])) ≡ Some y
newest_front xs x y =
    let e : length (x ∷ (xs ++ y ∷ [])) - 1 ≡ suc (length xs) = omega
    (arith, length-append xs (y ∷ [])) in
    ap (slice_get (x ∷ (xs ++ y ∷ []))) e ∙ slice_end xs y

one_within : (s : Saved) → weight s ≤ MAX_WEIGHT → are_within weight (s ∷ []) ≡ true
one_within s l = grind (arith, nat_tests, l)

pub keeps_newest : KeepsTheNewest
keeps_newest [] s l = rw (one_within s l) refl
keeps_newest (t ∷ states) s l = elim (cases_Bool (are_within weight (t ∷ (states ++ s ∷ [])))) [
  | inl e ↦ rw e (newest_front states t s)
  | inr f ↦ rw f (keeps_newest states s l)
]

-- the same limits of lists whose things weigh the same
pub all_limits : {X : Type 0} (P : X → Type 0) (weigh : X → ℕ) (xs : List X) → All P xs
    → All P (within_limits weigh xs)
all_limits P weigh [] all = all
all_limits P weigh (x ∷ xs) all = elim (cases_Bool (are_within weigh (x ∷ xs))) [
  | inl t ↦ rw t all
  | inr f ↦ rw f (all_limits P weigh xs (All-tail P x xs all))
]

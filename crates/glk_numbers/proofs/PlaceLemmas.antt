-- What is found, changed and left out where a number stands.
use Rattle.std.proofs.Common.{◌≡◌, ℕ, suc, ◌+◌, List, [], ◌∷◌, refl, sym, Option, Some, None, arith}
use Rattle.std.proofs.Common.{slice_set, slice_index_or}
use Rattle.std.specs.Prelude.{remove, IfNone, IfSome}
use Rattle.std.proofs.lemmas.Grind.{common_steps}
use Rattle.glk_numbers.specs.Numbered.{place_of, changed_at, found, without}
use Rattle.glk_numbers.proofs.NumberedLemmas.{changed_at-some}

pub found-none : {X : Type 0} (number : X → ℕ) (xs : List X) (n : ℕ)
    → None ≡ place_of number xs n → found number xs n ≡ None
unfolding found place_of
found-none number [] n e = refl
found-none number (x ∷ xs) n e = grind (arith, common_steps, found-none number xs n)

pub found-some : {X : Type 0} (number : X → ℕ) (xs : List X) (n i : ℕ) (d : X)
    → Some i ≡ place_of number xs n → found number xs n ≡ Some (slice_index_or xs i d)
unfolding found place_of
found-some number [] n i d e = absurd (grind (arith, e))
found-some number (x ∷ xs) n i d e = grind (arith, common_steps, found-some number xs n)

pub without-none : {X : Type 0} (number : X → ℕ) (xs : List X) (n : ℕ)
    → None ≡ place_of number xs n → without number xs n ≡ xs
unfolding without place_of
without-none number [] n e = refl
without-none number (x ∷ xs) n e = grind (arith, common_steps, without-none number xs n)

pub remove-cons : {X : Type 0} (x : X) (xs : List X) (i : ℕ)
    → remove (x ∷ xs) (1 + i) ≡ x ∷ remove xs i
remove-cons x xs i = let e : 1 + i ≡ suc i = omega arith in rw e refl

pub without-some : {X : Type 0} (number : X → ℕ) (xs : List X) (n i : ℕ)
    → Some i ≡ place_of number xs n → without number xs n ≡ remove xs i
unfolding without place_of
without-some number [] n i e = absurd (grind (arith, e))
without-some number (x ∷ xs) n i e =
    grind (arith, common_steps, without-some number xs n, remove-cons x xs)

-- the same by the result of a search
module _ {X : Type 0} (number : X → ℕ) (xs : List X) (n : ℕ) where
  pub not_found : (r : Option ℕ) → r ≡ place_of number xs n → IfNone r (found number xs n ≡ None)
  not_found None e = found-none number xs n e
  not_found (Some i) e = tt

  pub is_found : (r : Option ℕ) → r ≡ place_of number xs n
      → IfSome r (λ i. (d : X) → found number xs n ≡ Some (slice_index_or xs i d))
  is_found None e = tt
  is_found (Some i) e = λ d. found-some number xs n i d e

  pub is_changed : (r : Option ℕ) → r ≡ place_of number xs n
      → IfSome r (λ i. (v : X) → changed_at number (λ _. v) xs n ≡ slice_set xs i v)
  is_changed None e = tt
  is_changed (Some i) e = λ v. sym (changed_at-some number (λ _. v) xs n i v v e refl)

  pub is_left : (r : Option ℕ) → r ≡ place_of number xs n
      → IfSome r (λ i. without number xs n ≡ remove xs i)
  is_left None e = tt
  is_left (Some i) e = without-some number xs n i e

  pub none_is_left : (r : Option ℕ) → r ≡ place_of number xs n → IfNone r (without number xs n ≡ xs)
  none_is_left None e = without-none number xs n e
  none_is_left (Some i) e = tt

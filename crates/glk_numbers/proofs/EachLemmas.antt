-- What a test tells of each value of a list, it tells after a change; and what holds of each value
-- that is found by its number holds of all.
use Rattle.std.proofs.Common.{◌≡◌, ◌∙◌, ℕ, zero, suc, Bool, true, ◌&&◌, List, [], ◌∷◌, ◌++◌, filter}
use Rattle.std.proofs.Common.{map, Option, Some, None, arith, inl, inr, sym, ap, ◌==◌}
use Rattle.std.proofs.Common.{if◌then◌else◌}
use Rattle.std.specs.List.{AllByRecursion, insert}
use Rattle.std.proofs.lemmas.Bool.{and_from, cases_Bool, eqb-true}
use Rattle.std.proofs.lemmas.Grind.{common_steps}
use Rattle.glk_numbers.specs.Numbered.{ascends, changed_at, found, without}
use Rattle.glk_numbers.proofs.FoundLemmas.{found-low}
use Rattle.glk_numbers.proofs.OrderLemmas.{ascends-first}

module _ {X : Type 0} (number : X → ℕ) where
  found-first : (y : X) (ys : List X) → found number (y ∷ ys) (number y) ≡ Some y
  unfolding found
  found-first y ys = grind (arith, common_steps)

  found-later : (y x : X) (ys : List X) (high : ℕ) → ascends number (number y) high ys ≡ true
      → found number ys (number x) ≡ Some x → found number (y ∷ ys) (number x) ≡ Some x
  unfolding found
  found-later y x ys high a h = elim (cases_Bool (number y == number x)) [
    | inl k ↦
        let same = eqb-true (number y) (number x) k in
        let none = found-low number ys (number y) high (number x) a (omega (arith, same)) in
        let c : ◌≡◌ {A = Option X} None (Some x) = sym none ∙ h in absurd cc
    | inr k ↦ ap (λ b. if b then Some y else found number ys (number x)) k ∙ h
  ]

  pub each-by-number : (P : X → Type 0) (xs : List X) (low high : ℕ)
      → ascends number low high xs ≡ true
      → ((x : X) → found number xs (number x) ≡ Some x → P x) → AllByRecursion P xs
  each-by-number P [] low high a h = tt
  each-by-number P (y ∷ ys) low high a h =
      let rest = (ascends-first number y ys low high a).2 in (
        h y (found-first y ys),
        each-by-number P ys (number y) high rest (λ x e. h x (found-later y x ys high rest e)),
      )

module _ {X : Type 0} (number : X → ℕ) (all : List X → Bool) (each : X → Bool)
    (none : all [] ≡ true) (more : (x : X) (xs : List X) → all (x ∷ xs) ≡ (each x && all xs)) where
  pub all-changed : (f : X → X) → ((x : X) → each x ≡ true → each (f x) ≡ true) → (xs : List X)
      (n : ℕ) → all xs ≡ true → all (changed_at number f xs n) ≡ true
  unfolding changed_at
  all-changed f k [] n e = e
  all-changed f k (x ∷ xs) n e =
      let here = more (f x) xs in
      let later = more x (changed_at number f xs n) in
      grind (arith, common_steps, e, more x xs, here, later, k x, all-changed f k xs n)

  pub all-mapped : (f : X → X) → ((x : X) → each x ≡ true → each (f x) ≡ true) → (xs : List X)
      → all xs ≡ true → all (map f xs) ≡ true
  all-mapped f k [] e = e
  all-mapped f k (x ∷ xs) e =
      let here = more (f x) (map f xs) in
      grind (arith, common_steps, e, more x xs, here, k x, all-mapped f k xs)

  pub all-without : (xs : List X) (n : ℕ) → all xs ≡ true → all (without number xs n) ≡ true
  unfolding without
  all-without [] n e = e
  all-without (x ∷ xs) n e =
      let later = more x (without number xs n) in
      grind (arith, common_steps, e, more x xs, later, all-without xs n)

  pub all-kept : (p : X → Bool) (xs : List X) → all xs ≡ true → all (filter p xs) ≡ true
  all-kept p [] e = e
  all-kept p (x ∷ xs) e =
      grind (arith, common_steps, e, more x xs, more x (filter p xs), all-kept p xs)

  pub all-joined : (xs ys : List X) → all xs ≡ true → all ys ≡ true → all (xs ++ ys) ≡ true
  all-joined [] ys e f = f
  all-joined (x ∷ xs) ys e f =
      grind (arith, common_steps, e, f, more x xs, more x (xs ++ ys), all-joined xs ys)

  pub all-more : (xs : List X) (x : X) → all xs ≡ true → each x ≡ true → all (xs ++ x ∷ []) ≡ true
  all-more xs x e h = all-joined xs (x ∷ []) e (grind (arith, common_steps, h, none, more x []))

  pub all-inserted : (xs : List X) (i : ℕ) (x : X) → each x ≡ true → all xs ≡ true
      → all (insert xs i x) ≡ true
  all-inserted [] zero x h e = grind (arith, common_steps, h, none, more x [])
  all-inserted [] (suc i) x h e = grind (arith, common_steps, h, none, more x [])
  all-inserted (y ∷ ys) zero x h e = grind (arith, common_steps, h, e, more x (y ∷ ys))
  all-inserted (y ∷ ys) (suc i) x h e =
      let later = more y (insert ys i x) in
      grind (arith, common_steps, e, more y ys, later, all-inserted ys i x h)

  pub each-found : (xs : List X) (n : ℕ) (x : X) → found number xs n ≡ Some x → all xs ≡ true
      → each x ≡ true
  unfolding found
  each-found [] n x h e = absurd cc
  each-found (y ∷ ys) n x h e =
      grind (arith, common_steps, h, e, more y ys, each-found ys n x)

  all-of : (xs : List X) → AllByRecursion (λ x. each x ≡ true) xs → all xs ≡ true
  all-of [] a = none
  all-of (x ∷ xs) a = more x xs ∙ and_from (each x) (all xs) a.0 (all-of xs a.1)

  pub all-by-number : (xs : List X) (low high : ℕ) → ascends number low high xs ≡ true
      → ((x : X) → found number xs (number x) ≡ Some x → each x ≡ true) → all xs ≡ true
  all-by-number xs low high a h =
      all-of xs (each-by-number number (λ x. each x ≡ true) xs low high a h)

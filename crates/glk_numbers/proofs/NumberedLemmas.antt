-- A change of the value with a number is a change at its place; the next number is the least.
use Rattle.std.proofs.Common.{◌≡◌, ℕ, ◌<◌, ◌≤◌, List, [], ◌∷◌, refl, Some, None, arith, slice_set}
use Rattle.std.proofs.Common.{slice_index_or, true, false}
use Rattle.std.proofs.lemmas.Grind.{common_steps}
use Rattle.glk_numbers.specs.Numbered.{place_of, changed_at, number_above}
use Rattle.glk_numbers.specs.Numbered.{ascends, has, IsLeastAbove}
use Rattle.glk_numbers.proofs.OrderLemmas.{ascends-above}

pub changed_at-none : {X : Type 0} (number : X → ℕ) (f : X → X) (xs : List X) (n : ℕ)
    → None ≡ place_of number xs n → xs ≡ changed_at number f xs n
unfolding changed_at place_of
changed_at-none number f [] n e = refl
changed_at-none number f (x ∷ xs) n e = grind (arith, common_steps, changed_at-none number f xs n)

pub changed_at-some : {X : Type 0} (number : X → ℕ) (f : X → X) (xs : List X) (n i : ℕ) (d v : X)
    → Some i ≡ place_of number xs n → v ≡ f (slice_index_or xs i d)
    → slice_set xs i v ≡ changed_at number f xs n
unfolding changed_at place_of
changed_at-some number f [] n i d v e h = absurd (grind (arith, e))
changed_at-some number f (x ∷ xs) n i d v e h =
    grind (arith, common_steps, changed_at-some number f xs n)

after-none : {X : Type 0} (number : X → ℕ) (low high : ℕ) (xs : List X) (n m : ℕ)
    → ascends number low high xs ≡ true
    → number_above number xs n ≡ 0 → n < m
    → has number xs m ≡ false
unfolding ascends has number_above
after-none number low high [] n m a e l = refl
after-none number low high (x ∷ xs) n m a e l =
    grind (arith, common_steps, after-none number (number x) high xs n m)

after-above : {X : Type 0} (number : X → ℕ) (xs : List X) (n : ℕ)
    → 0 < number_above number xs n → n < number_above number xs n
unfolding number_above
after-above number [] n l = absurd (grind (arith, l))
after-above number (x ∷ xs) n l = grind (arith, common_steps, after-above number xs n)

after-there : {X : Type 0} (number : X → ℕ) (xs : List X) (n : ℕ)
    → 0 < number_above number xs n → has number xs (number_above number xs n) ≡ true
unfolding number_above has
after-there number [] n l = absurd (grind (arith, l))
after-there number (x ∷ xs) n l = grind (arith, common_steps, after-there number xs n)

after-first : {X : Type 0} (number : X → ℕ) (low high : ℕ) (xs : List X) (n m : ℕ)
    → ascends number low high xs ≡ true → n < m
    → has number xs m ≡ true → number_above number xs n ≤ m
unfolding number_above has ascends
after-first number low high [] n m a l h = absurd cc
after-first number low high (x ∷ xs) n m a l h =
    grind (
      arith,
      common_steps,
      ascends-above number xs (number x) high m,
      after-first number
          (number x) high xs n m,
    )

pub after_is_least : {X : Type 0} (number : X → ℕ) (high : ℕ) (xs : List X) (n : ℕ)
    → ascends number 0 high xs ≡ true → IsLeastAbove number xs n (number_above number xs n)
after_is_least number high xs n a = record {
  none = λ e m l. after-none number 0 high xs n m a e l;
  above = λ l. after-above number xs n l;
  there = λ l. after-there number xs n l;
  first = λ p m l h. after-first number 0 high xs n m a l h;
}

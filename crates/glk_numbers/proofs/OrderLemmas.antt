-- What the order of numbers tells, and what keeps it.
use Rattle.std.proofs.Common.{◌≡◌, ℕ, ◌+◌, ◌<◌, ◌≤◌, Bool, true, List, [], ◌∷◌, ◌++◌, filter, map}
use Rattle.std.proofs.Common.{refl, arith, nat_lt}
use Rattle.std.proofs.lemmas.Bool.{and_parts, ltb-true}
use Rattle.std.proofs.lemmas.Grind.{common_steps}
use Rattle.glk_numbers.specs.Numbered.{ascends, changed_at, has, without}

module _ {X : Type 0} (number : X → ℕ) where
  pub ascends-first : (x : X) (xs : List X) (low high : ℕ)
      → ascends number low high (x ∷ xs) ≡ true
      → (low < number x) × (number x < high) × (ascends number (number x) high xs ≡ true)
  unfolding ascends
  ascends-first x xs low high a =
      let all = and_parts _ (ascends number (number x) high xs) a in
      let bounds = and_parts (nat_lt low (number x)) _ all.0 in
      (ltb-true low (number x) bounds.0, ltb-true (number x) high bounds.1, all.1)

  pub ascends-above : (xs : List X) (low high m : ℕ) → ascends number low high xs ≡ true
      → has number xs m ≡ true → low < m
  unfolding ascends has
  ascends-above [] low high m a h = absurd cc
  ascends-above (x ∷ xs) low high m a h =
      grind (arith, common_steps, ascends-above xs (number x) high m)

  pub ascends-below : (xs : List X) (low high m : ℕ) → ascends number low high xs ≡ true
      → has number xs m ≡ true → m < high
  unfolding ascends has
  ascends-below [] low high m a h = absurd cc
  ascends-below (x ∷ xs) low high m a h =
      grind (arith, common_steps, ascends-below xs (number x) high m)

  pub ascends-mapped : (f : X → X) → ((x : X) → number (f x) ≡ number x) → (xs : List X)
      (low high : ℕ) → ascends number low high (map f xs) ≡ ascends number low high xs
  unfolding ascends
  ascends-mapped f k [] low high = refl
  ascends-mapped f k (x ∷ xs) low high =
      grind (arith, common_steps, k x, ascends-mapped f k xs (number x) high)

  pub ascends-changed : (f : X → X) (n : ℕ) → ((x : X) → number x ≡ n → number (f x) ≡ n)
      → (xs : List X) (low high : ℕ)
      → ascends number low high (changed_at number f xs n) ≡ ascends number low high xs
  unfolding ascends changed_at
  ascends-changed f n k [] low high = refl
  ascends-changed f n k (x ∷ xs) low high =
      grind (arith, common_steps, k x, ascends-changed f n k xs (number x) high)

  pub ascends-joined : (xs ys : List X) (low mid high : ℕ) → low < mid → mid ≤ high
      → ascends number low mid xs ≡ true
      → ((last : ℕ) → last < mid → ascends number last high ys ≡ true)
      → ascends number low high (xs ++ ys) ≡ true
  unfolding ascends
  ascends-joined [] ys low mid high l k a h = h low l
  ascends-joined (x ∷ xs) ys low mid high l k a h =
      let here = ascends-first x xs low mid a in
      let rest = ascends-joined xs ys (number x) mid high here.1 k here.2 h in
      let above = here.0 in
      let below = here.1 in
      grind (arith, common_steps, above, below, k, rest)

  pub ascends-more : (xs : List X) (low high : ℕ) (v : X) → low < high → number v ≡ high
      → ascends number low high xs ≡ true → ascends number low (high + 1) (xs ++ v ∷ []) ≡ true
  unfolding ascends
  ascends-more xs low high v l e a =
      ascends-joined xs (v ∷ []) low high (high + 1) l (omega arith) a
      (λ last k. grind (arith, common_steps, e, k))

  pub ascends-lower : (xs : List X) (low lower high : ℕ) → lower ≤ low
      → ascends number low high xs ≡ true
      → ascends number lower high xs ≡ true
  unfolding ascends
  ascends-lower [] low lower high l a = refl
  ascends-lower (x ∷ xs) low lower high l a = grind (arith, common_steps, a, l)

  pub ascends-without : (xs : List X) (low high n : ℕ) → ascends number low high xs ≡ true
      → ascends number low high (without number xs n) ≡ true
  unfolding ascends without
  ascends-without [] low high n a = refl
  ascends-without (x ∷ xs) low high n a =
      let lower = ascends-lower xs (number x) low high in
      grind (arith, common_steps, a, ascends-without xs (number x) high n, lower)

  pub ascends-kept : (p : X → Bool) (xs : List X) (low high : ℕ)
      → ascends number low high xs ≡ true → ascends number low high (filter p xs) ≡ true
  unfolding ascends
  ascends-kept p [] low high a = refl
  ascends-kept p (x ∷ xs) low high a =
      let lower = ascends-lower (filter p xs) (number x) low high in
      grind (arith, common_steps, a, ascends-kept p xs (number x) high, lower)

-- What is found by its number in a list that was changed.
use Rattle.std.proofs.Common.{◌≡◌, ◌≢◌, ℕ, ◌≤◌, ◌==◌, true, List, [], ◌∷◌, ◌++◌, map, refl, arith}
use Rattle.std.proofs.Common.{Some, None, option_map, is_some, if◌then◌else◌, length}
use Rattle.std.proofs.lemmas.Grind.{common_steps}
use Rattle.glk_numbers.specs.Numbered.{ascends, changed_at, found, has, without}

module _ {X : Type 0} (number : X → ℕ) where
  pub number-found : (xs : List X) (n : ℕ) (x : X) → found number xs n ≡ Some x → number x ≡ n
  unfolding found
  number-found [] n x e = absurd cc
  number-found (y ∷ ys) n x e = grind (arith, common_steps, e, number-found ys n x)

  -- one value in the place of that with its number
  pub found-same : (xs : List X) (n : ℕ) (x y : X) → found number xs n ≡ Some x → number y ≡ n
      → found number (changed_at number (λ _. y) xs n) n ≡ Some y
  unfolding found changed_at
  found-same [] n x y e k = absurd cc
  found-same (z ∷ xs) n x y e k = grind (arith, common_steps, e, k, found-same xs n x y)

  pub found-other : (xs : List X) (n m : ℕ) (y : X) → number y ≡ n → m ≢ n
      → found number (changed_at number (λ _. y) xs n) m ≡ found number xs m
  unfolding found changed_at
  found-other [] n m y k a = refl
  found-other (x ∷ xs) n m y k a = grind (arith, common_steps, k, a, found-other xs n m y k a)

  pub changed-again : (xs : List X) (n : ℕ) (x y : X) → number x ≡ n
      → changed_at number (λ _. y) (changed_at number (λ _. x) xs n) n
      ≡ changed_at number (λ _. y) xs n
  unfolding changed_at
  changed-again [] n x y e = refl
  changed-again (z ∷ xs) n x y e = grind (arith, common_steps, e, changed-again xs n x y e)

  pub has-changed : (f : X → X) (n : ℕ) → ((x : X) → number x ≡ n → number (f x) ≡ n)
      → (xs : List X) (m : ℕ) → has number (changed_at number f xs n) m ≡ has number xs m
  unfolding has changed_at
  has-changed f n k [] m = refl
  has-changed f n k (x ∷ xs) m = grind (arith, common_steps, k x, has-changed f n k xs m)

  pub has-without : (xs : List X) (n m : ℕ) → m ≢ n
      → has number (without number xs n) m ≡ has number xs m
  unfolding has without
  has-without [] n m h = refl
  has-without (x ∷ xs) n m h = grind (arith, common_steps, h, has-without xs n m h)

  pub has-more : (xs : List X) (v : X) (m : ℕ) → has number xs m ≡ true
      → has number (xs ++ v ∷ []) m ≡ true
  unfolding has
  has-more [] v m h = absurd cc
  has-more (x ∷ xs) v m h = grind (arith, common_steps, h, has-more xs v m)

  pub length-left : (xs : List X) (n : ℕ) → length (without number xs n) ≤ length xs
  unfolding without
  length-left [] n = omega arith
  length-left (x ∷ xs) n = grind (arith, common_steps, length-left xs n)

  pub length-changed : (f : X → X) (xs : List X) (n : ℕ)
      → length (changed_at number f xs n) ≡ length xs
  unfolding changed_at
  length-changed f [] n = refl
  length-changed f (x ∷ xs) n = grind (arith, common_steps, length-changed f xs n)

  pub found-changed : (f : X → X) → ((x : X) → number (f x) ≡ number x) → (xs : List X) (n m : ℕ)
      → found number (changed_at number f xs n) m
      ≡ (if m == n then option_map f (found number xs m) else found number xs m)
  unfolding found changed_at
  found-changed f k [] n m = grind (arith, common_steps)
  found-changed f k (x ∷ xs) n m = grind (arith, common_steps, k x, found-changed f k xs n m)

  pub found-map : (f : X → X) → ((x : X) → number (f x) ≡ number x) → (xs : List X) (m : ℕ)
      → found number (map f xs) m ≡ option_map f (found number xs m)
  unfolding found
  found-map f k [] m = refl
  found-map f k (x ∷ xs) m = grind (arith, common_steps, k x, found-map f k xs m)

  pub found-low : (xs : List X) (low high m : ℕ) → ascends number low high xs ≡ true → m ≤ low
      → found number xs m ≡ None
  unfolding found ascends
  found-low [] low high m a l = refl
  found-low (x ∷ xs) low high m a l =
      grind (arith, common_steps, a, l, found-low xs (number x) high m)

  pub found-high : (xs : List X) (low high m : ℕ) → ascends number low high xs ≡ true → high ≤ m
      → found number xs m ≡ None
  unfolding found ascends
  found-high [] low high m a l = refl
  found-high (x ∷ xs) low high m a l =
      grind (arith, common_steps, a, l, found-high xs (number x) high m)

  pub found-without : (xs : List X) (low high n m : ℕ) → ascends number low high xs ≡ true
      → found number (without number xs n) m ≡ (if m == n then None else found number xs m)
  unfolding found ascends without
  found-without [] low high n m a = grind (arith, common_steps)
  found-without (x ∷ xs) low high n m a =
      grind (
        arith,
        common_steps,
        a,
        found-without xs (number x) high n m,
        found-low xs (number x)
            high m,
      )

  pub has-found : (xs : List X) (n : ℕ) → has number xs n ≡ is_some (found number xs n)
  unfolding found has
  has-found [] n = refl
  has-found (x ∷ xs) n = grind (arith, common_steps, has-found xs n)

-- a part of what is found stays, where a change of a value keeps it
pub part-changed : {X A : Type 0} (number : X → ℕ) (of : X → A) (f : X → X)
    → ((x : X) → number (f x) ≡ number x) → ((x : X) → of (f x) ≡ of x)
    → (xs : List X) (n m : ℕ) → option_map of (found number (changed_at number f xs n) m)
    ≡ option_map of (found number xs m)
unfolding found changed_at
part-changed number of f k e [] n m = refl
part-changed number of f k e (x ∷ xs) n m =
    grind (arith, common_steps, k x, e x, part-changed number of f k e xs n m)

pub part-map : {X A : Type 0} (number : X → ℕ) (of : X → A) (f : X → X)
    → ((x : X) → number (f x) ≡ number x) → ((x : X) → of (f x) ≡ of x)
    → (xs : List X) (m : ℕ) → option_map of (found number (map f xs) m)
    ≡ option_map of (found number xs m)
unfolding found
part-map number of f k e [] m = refl
part-map number of f k e (x ∷ xs) m =
    grind (arith, common_steps, k x, e x, part-map number of f k e xs m)

-- the same of one value that takes the place of the one with its number
pub part-replaced : {X A : Type 0} (number : X → ℕ) (of : X → A) (xs : List X) (n m : ℕ) (x y : X)
    → found number xs n ≡ Some x → number y ≡ number x → of y ≡ of x
    → option_map of (found number (changed_at number (λ _. y) xs n) m)
    ≡ option_map of (found number xs m)
unfolding found changed_at
part-replaced number of [] n m x y e k h = absurd cc
part-replaced number of (z ∷ xs) n m x y e k h = grind
    (arith, common_steps, e, k, h, part-replaced number of xs n m x y)

-- one value more at the end, with a new number
pub found-added : {X : Type 0} (number : X → ℕ) (xs : List X) (x : X) (m : ℕ)
    → found number xs (number x) ≡ None
    → found number (xs ++ x ∷ []) m ≡ (if m == number x then Some x else found number xs m)
unfolding found
found-added number [] x m e = grind (arith, common_steps)
found-added number (y ∷ xs) x m e = grind (arith, common_steps, e, found-added number xs x m)

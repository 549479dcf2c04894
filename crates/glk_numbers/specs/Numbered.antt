-- Values by number: a class of objects as a list (Glk 0.7.5, "Opaque Objects").
use Rattle.std.specs.Prelude.{◌≡◌, ℕ, ◌+◌, ◌<◌, ◌≤◌, ◌==◌, ◌||◌, ◌&&◌, nat_lt, if◌then◌else◌, Bool}
use Rattle.std.specs.Prelude.{true, false, List, [], ◌∷◌, Option, Some, None}

-- one of the values has this number
unfoldable pub has : {X : Type 0} → (X → ℕ) → List X → ℕ → Bool
has number [] n = false
has number (x ∷ xs) n = number x == n || has number xs n

-- the first number above this one, or 0
unfoldable pub number_above : {X : Type 0} → (X → ℕ) → List X → ℕ → ℕ
number_above number [] n = 0
number_above number (x ∷ xs) n = if nat_lt n (number x) then number x else number_above number xs n

-- the first value with this number
unfoldable pub found : {X : Type 0} → (X → ℕ) → List X → ℕ → Option X
found number [] n = None
found number (x ∷ xs) n = if number x == n then Some x else found number xs n

-- a place in what lies behind the first k values
abbrev pub behind : ℕ → Option ℕ → Option ℕ
behind k None = None
behind k (Some i) = Some (k + i)

-- where the first value with this number is
unfoldable pub place_of : {X : Type 0} → (X → ℕ) → List X → ℕ → Option ℕ
place_of number [] n = None
place_of number (x ∷ xs) n = if number x == n then Some 0 else behind 1 (place_of number xs n)

-- the values, that with this number changed
unfoldable pub changed_at : {X : Type 0} → (X → ℕ) → (X → X) → List X → ℕ → List X
changed_at number f [] n = []
changed_at number f (x ∷ xs) n =
    if number x == n then f x ∷ xs else x ∷ changed_at number f xs n

-- the values without that with this number
unfoldable pub without : {X : Type 0} → (X → ℕ) → List X → ℕ → List X
without number [] n = []
without number (x ∷ xs) n = if number x == n then xs else x ∷ without number xs n

-- the numbers ascend, each above low and below high
unfoldable pub ascends : {X : Type 0} → (X → ℕ) → ℕ → ℕ → List X → Bool
ascends number low high [] = true
ascends number low high (x ∷ xs) =
    nat_lt low (number x) && nat_lt (number x) high && ascends number (number x) high xs

-- the least number above n, or 0 where no number is above it
pub record IsLeastAbove {X : Type 0} (number : X → ℕ) (xs : List X) (n least : ℕ) : Type 0 where
  pub none : least ≡ 0 → (m : ℕ) → n < m → has number xs m ≡ false
  pub above : 0 < least → n < least
  pub there : 0 < least → has number xs least ≡ true
  pub first : 0 < least → (m : ℕ) → n < m → has number xs m ≡ true → least ≤ m

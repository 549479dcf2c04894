-- Calls that are to fail, by their numbers (own).
use Rattle.std.specs.Prelude.{◌≡◌, ℕ, ◌+◌, ◌-◌, ◌^◌, ◌==◌, ◌||◌, ◌⊎◌, min, List, Bool, true}
use Rattle.std.specs.Prelude.{false, Option, None, Some}
use Rattle.std.specs.List.{list_any}

-- the number of the next call, counted from 0, and the numbers of those that are to fail
pub record Failing : Type 0 where
  pub next : ℕ
  pub listed : List ℕ

-- the next call is to fail
abbrev pub is_to_fail : Failing → Bool
is_to_fail calls = list_any (λ call. call == calls.next) calls.listed

-- with one call more; the number stands still at its type's end
abbrev pub one_call_more : Failing → Failing
one_call_more calls = record calls { next = min (calls.next + 1) (2 ^ 64 - 1) }

-- where it is told which calls are to fail, a call is counted, and fails exactly where it is to, or
-- for another cause
abbrev pub FailsAsListed : Option Failing → Option Failing → Bool → Bool → Type 0
FailsAsListed None now cause failed = Unit {0}
FailsAsListed (Some calls) now cause failed =
    (now ≡ Some (one_call_more calls)) × (failed ≡ (cause || is_to_fail calls))

-- the same of a call that may find no memory, which then fails and isn't counted
abbrev pub FailsOrWants : Option Failing → Option Failing → Bool → Type 0
FailsOrWants calls now failed =
    FailsAsListed calls now false failed ⊎ (failed ≡ true) × (now ≡ calls)

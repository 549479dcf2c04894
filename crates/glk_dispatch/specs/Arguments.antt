-- The arguments of a Glk call (Glulx 3.1.3, "Miscellaneous").
use Rattle.std.specs.Prelude.{ℕ, zero, suc, ◌+◌, ◌==◌, nat_lt, Bool, true, if◌then◌else◌, List}
use Rattle.std.specs.Prelude.{replicate, slice_set, Option, Some, None, Result, Ok, Err}
use Rattle.vm_memory.specs.Chaining.{◌>>=◌}
use Rattle.vm_stack.specs.StackState.{StackState}
use Rattle.vm_stack.specs.Values as stack
use Rattle.glk_dispatch.specs.Fault.{stacked}

-- the stack without its top value, and that value, or fault 4
abbrev pub argument_popped : StackState → Result (StackState × ℕ) ℕ
argument_popped s = stacked (stack.popped s)

-- so many values are taken into the places from i on, the top first; there are five places, and
-- no call uses more
unfoldable pub arguments_taken : ℕ → StackState → ℕ → List ℕ
    → Result (StackState × List ℕ) ℕ
arguments_taken zero s i args = Ok (s, args)
arguments_taken (suc n) s i args =
    argument_popped s >>= (λ p. arguments_taken n p.0 (i + 1) (slice_set args i p.1))

-- the call takes that many; one without a count takes any
abbrev pub takes_count : Option ℕ → ℕ → Bool
takes_count None given = true
takes_count (Some count) given = given == count

-- the arguments of a call: too few values come first, and then a wrong count
abbrev pub call_arguments : StackState → Option ℕ → ℕ → Result (StackState × List ℕ) ℕ
call_arguments s count given =
    if nat_lt (stack.value_count s) given then Err 4
    else (if takes_count count given then arguments_taken given s 0 (replicate 5 0) else Err 22)

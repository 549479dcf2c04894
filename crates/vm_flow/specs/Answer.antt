-- What a call answers and leaves (own).
use Rattle.std.specs.Prelude.{◌≡◌, ℕ, List, Vec, Result, Ok, Err}
use Rattle.vm_memory.specs.declared.fault.MemFault.{MemFault}
use Rattle.vm_stack.specs.StackState.{StackState}
use Rattle.vm_stack.specs.declared.fault.StackFault.{StackFault}
use Rattle.vm_flow.specs.declared.stop.FlowStop.{FlowStop}
use Rattle.vm_flow.specs.declared.stop.FlowStop.TheVariants as stop

-- what a call on the stack gives, with its fault as a stop
abbrev pub from_stack : {A : Type 0} → Result A StackFault → Result A FlowStop
from_stack (Ok x) = Ok x
from_stack (Err f) = Err (stop.Stack f)

-- what a call on memory gives, with its fault as a stop
abbrev pub from_memory : {A : Type 0} → Result A MemFault → Result A FlowStop
from_memory (Ok x) = Ok x
from_memory (Err f) = Err (stop.Memory f)

-- the next work on what a work gave; the first stop is the answer
abbrev pub and_then : {A B : Type 0}
    → Result A FlowStop → (A → Result B FlowStop) → Result B FlowStop
and_then (Ok x) f = f x
and_then (Err e) f = Err e

-- the call answered the value and left the stack, or answered the stop, that it should; nothing is
-- said of the stack after a stop
abbrev pub GivesOrStops : {A : Type 0}
    → Result (StackState × A) FlowStop → StackState → Result A FlowStop → Type 0
GivesOrStops should new (Ok x) = should ≡ Ok (new, x)
GivesOrStops should new (Err e) = should ≡ Err e

-- the same for a call that answers no value
abbrev pub LeavesOrStops : {A : Type 0}
    → Result StackState FlowStop → StackState → Result A FlowStop → Type 0
LeavesOrStops should new (Ok x) = should ≡ Ok new
LeavesOrStops should new (Err e) = should ≡ Err e

-- the same as Gives, unless memory was wanting
abbrev pub GivesWithRoom : {A : Type 0}
    → Result (StackState × A) FlowStop → StackState → Result A FlowStop → Type 0
GivesWithRoom should new (Ok x) = should ≡ Ok (new, x)
GivesWithRoom should new (Err stop.NoMemory) = Unit {0}
GivesWithRoom should new (Err e) = should ≡ Err e

-- the call answered the bytes that it should, unless memory was wanting
abbrev pub GivesBytes : {Z : Type 0}
    → Result (List ℕ) FlowStop → Result (Vec ℕ Z) FlowStop → Type 0
GivesBytes should (Ok v) = should ≡ Ok v.items
GivesBytes should (Err stop.NoMemory) = Unit {0}
GivesBytes should (Err e) = should ≡ Err e

-- What a call answers and leaves (own).
use Rattle.std.specs.Prelude.{◌≡◌, Result, Ok, Err}
use Rattle.vm_stack.specs.StackState.{StackState}
use Rattle.vm_stack.specs.declared.fault.StackFault.{StackFault}

-- the call answered the value and left the stack, or answered the fault, that it should
abbrev pub GivesFromStack : {A : Type 0}
    → Result (StackState × A) StackFault → StackState → Result A StackFault → Type 0
GivesFromStack should new (Ok x) = should ≡ Ok (new, x)
GivesFromStack should new (Err e) = should ≡ Err e

-- the same for a call that answers no value
abbrev pub LeavesStack : {A : Type 0}
    → Result StackState StackFault → StackState → Result A StackFault → Type 0
LeavesStack should new (Ok x) = should ≡ Ok new
LeavesStack should new (Err e) = should ≡ Err e

-- The faults of the stack and of streams by their numbers (own).
use Rattle.std.specs.Prelude.{ℕ, Result, Ok, Err}
use Rattle.vm_memory.specs.Fault.{code_of}
use Rattle.vm_memory.specs.declared.fault.Trap.{Trap}
use Rattle.vm_memory.specs.declared.fault.Trap.TheVariants as trap
use Rattle.vm_stack.specs.declared.fault.StackFault.{StackFault}
use Rattle.vm_stack.specs.declared.fault.StackFault.TheVariants.{Overflow, Underflow, BadLocal}
use Rattle.glk_streams.specs.declared.fault.StreamStop.{StreamStop}
use Rattle.glk_streams.specs.declared.fault.StreamStop.TheVariants as stop

abbrev pub stack_code : StackFault → ℕ
stack_code Overflow = 3
stack_code Underflow = 4
stack_code BadLocal = 5

-- what a call of the stack gives, with its fault as a number
abbrev pub stacked : {A : Type 0} → Result A StackFault → Result A ℕ
stacked (Ok x) = Ok x
stacked (Err f) = Err (stack_code f)

abbrev pub stream_trap : StreamStop → Trap
stream_trap (stop.Memory f) = trap.Fault (code_of f)
stream_trap stop.BadObject = trap.Fault 21
stream_trap stop.BadArgument = trap.Fault 22
stream_trap stop.NoMemory = trap.NoMemory

abbrev pub stream_code : StreamStop → ℕ
stream_code (stop.Memory f) = code_of f
stream_code stop.BadObject = 21
stream_code stop.BadArgument = 22
stream_code stop.NoMemory = 0

-- what a call of streams gives, with its fault as a number
abbrev pub streams_coded : {A : Type 0} → Result A StreamStop → Result A ℕ
streams_coded (Ok x) = Ok x
streams_coded (Err f) = Err (stream_code f)

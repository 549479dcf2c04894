-- The faults of the stack and of calls by their numbers (own).
use Rattle.std.specs.Prelude.{ℕ, Result, Ok, Err}
use Rattle.vm_memory.specs.Fault.{code_of}
use Rattle.vm_memory.specs.declared.faults.TheConstants as fault
use Rattle.vm_memory.specs.declared.fault.Trap.{Trap}
use Rattle.vm_memory.specs.declared.fault.Trap.TheVariants as trap
use Rattle.vm_stack.specs.declared.fault.StackFault.{StackFault}
use Rattle.vm_stack.specs.declared.fault.StackFault.TheVariants.{Overflow, Underflow, BadLocal}
use Rattle.vm_flow.specs.declared.stop.FlowStop.{FlowStop}
use Rattle.vm_flow.specs.declared.stop.FlowStop.TheVariants as stop

abbrev pub stack_code : StackFault → ℕ
stack_code Overflow = fault.STACK_OVERFLOW
stack_code Underflow = fault.STACK_UNDERFLOW
stack_code BadLocal = fault.BAD_LOCAL

-- what a call of the stack gives, with its fault as a number
abbrev pub stacked : {A : Type 0} → Result A StackFault → Result A ℕ
stacked (Ok x) = Ok x
stacked (Err f) = Err (stack_code f)

-- the trap of a call, a return or a throw
abbrev pub flow_trap : FlowStop → Trap
flow_trap (stop.Memory f) = trap.Fault (code_of f)
flow_trap (stop.Stack f) = trap.Fault (stack_code f)
flow_trap (stop.BadFunction at) = trap.Fault fault.BAD_FUNCTION
flow_trap (stop.BadStub kind) = trap.Fault fault.BAD_STUB
flow_trap (stop.BadToken token) = trap.Fault fault.BAD_TOKEN
flow_trap stop.NoMemory = trap.NoMemory

abbrev pub flow_code : FlowStop → ℕ
flow_code (stop.Memory f) = code_of f
flow_code (stop.Stack f) = stack_code f
flow_code (stop.BadFunction at) = fault.BAD_FUNCTION
flow_code (stop.BadStub kind) = fault.BAD_STUB
flow_code (stop.BadToken token) = fault.BAD_TOKEN
flow_code stop.NoMemory = 0

-- what a call, a return or a throw gives, with its fault as a number
abbrev pub flowed : {A : Type 0} → Result A FlowStop → Result A ℕ
flowed (Ok x) = Ok x
flowed (Err f) = Err (flow_code f)

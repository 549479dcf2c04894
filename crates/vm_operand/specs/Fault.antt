-- The faults of instructions by their numbers (own).
use Rattle.std.specs.Prelude.{ℕ, Result, Ok, Err}
use Rattle.vm_memory.specs.Fault as memory
use Rattle.vm_memory.specs.declared.faults.TheConstants as f
use Rattle.vm_operand.specs.declared.fault.OpFault.{OpFault}
use Rattle.vm_operand.specs.declared.fault.OpFault.TheVariants.{Read, BadOpcode, Unsupported}
use Rattle.vm_operand.specs.declared.fault.OpFault.TheVariants.{BadMode, DivideByZero}
use Rattle.vm_operand.specs.declared.fault.OpFault.TheVariants.{DivideOverflow}

-- a memory's fault keeps its number
abbrev pub operation_fault_code : OpFault → ℕ
operation_fault_code (Read fault) = memory.code_of fault
operation_fault_code (BadOpcode n) = f.BAD_OPCODE
operation_fault_code (Unsupported n) = f.UNSUPPORTED_OPCODE
operation_fault_code (BadMode n) = f.BAD_MODE
operation_fault_code DivideByZero = f.DIVISION_BY_ZERO
operation_fault_code DivideOverflow = f.DIVISION_OVERFLOW

-- what a call gives, with its fault as a number
abbrev pub operation_coded : {A : Type 0} → Result A OpFault → Result A ℕ
operation_coded (Ok x) = Ok x
operation_coded (Err f) = Err (operation_fault_code f)

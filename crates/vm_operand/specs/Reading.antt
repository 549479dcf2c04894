-- Steps that may fail (own).
use Rattle.std.specs.Prelude.{Result, Ok, Err}
use Rattle.vm_operand.specs.declared.fault.OpFault.{OpFault}
use Rattle.vm_operand.specs.declared.fault.OpFault.TheVariants.{Read}
use Rattle.vm_memory.specs.declared.fault.MemFault.{MemFault}

-- a read of memory, with its fault as one of an instruction
abbrev pub instruction_read : {A : Type 0} → Result A MemFault → Result A OpFault
instruction_read (Ok x) = Ok x
instruction_read (Err e) = Err (Read e)

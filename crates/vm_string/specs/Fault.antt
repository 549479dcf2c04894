-- The faults of strings, and their numbers (own).
use Rattle.std.specs.Prelude.{ℕ, Result, Ok, Err}
use Rattle.vm_memory.specs.Fault as memory
use Rattle.vm_memory.specs.declared.faults.TheConstants as f
use Rattle.vm_memory.specs.declared.fault.MemFault.{MemFault}
use Rattle.vm_string.specs.declared.stop.StringStop.{StringStop}
use Rattle.vm_string.specs.declared.stop.StringStop.TheVariants.{Read, BadString, NoTable}

-- a read of memory, with its fault as one of strings
abbrev pub string_read : {A : Type 0} → Result A MemFault → Result A StringStop
string_read (Ok x) = Ok x
string_read (Err e) = Err (Read e)

-- a memory's fault keeps its number
abbrev pub string_fault_code : StringStop → ℕ
string_fault_code (Read fault) = memory.code_of fault
string_fault_code (BadString at) = f.BAD_STRING
string_fault_code NoTable = f.NO_TABLE

-- what a call gives, with its fault as a number
abbrev pub string_coded : {A : Type 0} → Result A StringStop → Result A ℕ
string_coded (Ok x) = Ok x
string_coded (Err e) = Err (string_fault_code e)

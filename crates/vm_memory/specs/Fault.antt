-- The faults of memory by their numbers (own).
use Rattle.std.specs.Prelude.{ℕ, Result, Ok, Err}
use Rattle.vm_memory.specs.declared.fault.MemFault.{MemFault}
use Rattle.vm_memory.specs.declared.fault.MemFault.TheVariants.{BadRead, BadWrite}
use Rattle.vm_memory.specs.declared.fault.MemStop.{MemStop}
use Rattle.vm_memory.specs.declared.fault.MemStop.TheVariants as stop
use Rattle.vm_memory.specs.declared.faults.TheConstants.{BAD_READ, BAD_WRITE}
use Rattle.vm_memory.specs.declared.fault.Trap.{Trap}
use Rattle.vm_memory.specs.declared.fault.Trap.TheVariants as trap

-- the fault's number
abbrev pub code_of : MemFault → ℕ
code_of (BadRead at) = BAD_READ
code_of (BadWrite at) = BAD_WRITE

abbrev pub trap_of : MemStop → Trap
trap_of (stop.Fault f) = trap.Fault (code_of f)
trap_of stop.NoMemory = trap.NoMemory

-- what a call of memory gives, with its fault as a number
abbrev pub coded : {A : Type 0} → Result A MemFault → Result A ℕ
coded (Ok x) = Ok x
coded (Err f) = Err (code_of f)

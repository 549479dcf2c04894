-- The faults of searches by their numbers (own).
use Rattle.std.specs.Prelude.{ℕ}
use Rattle.vm_memory.specs.Fault as memory
use Rattle.vm_memory.specs.declared.faults.TheConstants as f
use Rattle.vm_search.specs.declared.fault.SearchStop.{SearchStop}
use Rattle.vm_search.specs.declared.fault.SearchStop.TheVariants.{Read, BadSearch, Spent}

-- a memory's fault keeps its number
abbrev pub search_fault_code : SearchStop → ℕ
search_fault_code (Read fault) = memory.code_of fault
search_fault_code BadSearch = f.BAD_SEARCH
search_fault_code Spent = f.BUDGET_SPENT

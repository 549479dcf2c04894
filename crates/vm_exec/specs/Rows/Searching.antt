-- Searches of structures in memory (Glulx 3.1.3, "Searching").
use Rattle.std.specs.Prelude.{ℕ, ◌^◌, if◌then◌else◌, Option, Some, None, Result, Ok, Err}
use Rattle.vm_memory.specs.Chaining.{◌>>=◌}
use Rattle.vm_memory.specs.Fault.{coded}
use Rattle.vm_search.specs.Binary.{binary_ends}
use Rattle.vm_search.specs.Ending.{Ending, first_ending}
use Rattle.vm_search.specs.Fault.{search_fault_code}
use Rattle.vm_search.specs.Key.{is_search}
use Rattle.vm_search.specs.Linear.{linear_ends}
use Rattle.vm_search.specs.Linked.{linked_ends}
use Rattle.vm_search.specs.declared.fault.SearchStop.{SearchStop}
use Rattle.vm_search.specs.declared.query.Found.{Found}
use Rattle.vm_search.specs.declared.query.Query.{Query}
use Rattle.vm_operand.specs.declared.operand.Dest as d
use Rattle.vm_exec.specs.Rows.Work.{Work, Free, Costs, budgeted}
use Rattle.vm_exec.specs.Rules.{puts}
use Rattle.vm_memory.specs.declared.faults.TheConstants.{BAD_SEARCH, BUDGET_SPENT}
use Rattle.vm_exec.specs.declared.step.Done.{Done}
use Rattle.vm_exec.specs.declared.machine.Machine.{Machine}

-- what the loads of a linear or a binary search ask, with so many ticks left
abbrev pub query_of : (ℕ → ℕ) → ℕ → Query
query_of l left = record {
  key = l 0;
  key_size = l 1;
  start = l 2;
  struct_size = l 3;
  count = l 4;
  key_offset = l 5;
  next_offset = 0;
  options = l 6;
  left = left;
}

-- what those of a linked search ask
abbrev pub linked_query : (ℕ → ℕ) → ℕ → Query
linked_query l left = record {
  key = l 0;
  key_size = l 1;
  start = l 2;
  struct_size = 0;
  count = 0;
  key_offset = l 3;
  next_offset = l 4;
  options = l 5;
  left = left;
}

-- a tick for each structure, and then the answer is stored; one without an end takes all ticks
abbrev pub search_answered : Machine → d.Dest → Option Ending → Work
search_answered m to None = Free (Err BUDGET_SPENT)
search_answered m to (Some e) = Costs e.looked (coded e.answer >>= puts m to)

-- a search whose steps end so
abbrev pub searched : Machine → d.Dest → Query → (ℕ → Option Ending) → Work
searched m to q ends =
    if is_search q then search_answered m to (first_ending ends 0 (2 ^ 32))
    else Free (Err BAD_SEARCH)

-- the three searches; no step of theirs asks for the ticks
abbrev pub linear_work : Machine → (ℕ → ℕ) → d.Dest → Work
linear_work m l to = searched m to (query_of l 0) (linear_ends m.memory (query_of l 0))

abbrev pub binary_work : Machine → (ℕ → ℕ) → d.Dest → Work
binary_work m l to = searched m to (query_of l 0) (binary_ends m.memory (query_of l 0))

abbrev pub linked_work : Machine → (ℕ → ℕ) → d.Dest → Work
linked_work m l to = searched m to (linked_query l 0) (linked_ends m.memory (linked_query l 0))

-- what a search that told this comes to
abbrev pub found_in : ℕ → Machine → d.Dest → Result Found SearchStop
    → Result (Machine × Done) ℕ
found_in left m to (Ok f) = budgeted left (Costs f.looked (puts m to f.answer))
found_in left m to (Err stop) = Err (search_fault_code stop)

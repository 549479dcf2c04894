-- Binary search: the index at which the halving meets the key (Glulx 3.1.3, "Searching").
use Rattle.std.specs.Prelude.{ℕ, zero, suc, ◌+◌, ◌/◌, false, ◌==◌}
use Rattle.std.specs.Prelude.{if◌then◌else◌, Option, Some, Result, Ok}
use Rattle.std.specs.declared.cmp.Ordering.TheVariants.{Greater}
use Rattle.std.specs.declared.cmp.Ordering.{Ordering}
use Rattle.vm_memory.specs.MemoryMap.{MemoryMap}
use Rattle.vm_memory.specs.declared.fault.MemFault.{MemFault}
use Rattle.vm_search.specs.Key.{compared}
use Rattle.vm_search.specs.Ending.{Ending, ending, failure, at_structure}
use Rattle.vm_search.specs.Linear.{structure_at, found_at}
use Rattle.vm_search.specs.declared.query.Query.{Query}
use Rattle.vm_search.specs.declared.binary_search.Interval.{Interval}

-- the index in the middle
abbrev pub middle : Interval → ℕ
middle i = (i.low + i.high) / 2

-- the half in which the key is: behind the middle if it is greater, else before it
abbrev pub half : Interval → Result Ordering MemFault → Interval
half i (Ok Greater) = record { low = middle i + 1; high = i.high }
half i other = record { low = i.low; high = middle i }

-- the interval after so many halvings
unfoldable pub interval_at : MemoryMap → Query → ℕ → Interval
interval_at m q zero = record { low = 0; high = q.count }
interval_at m q (suc k) =
    half (interval_at m q k) (compared m q (structure_at q (middle (interval_at m q k))))

-- whether the search ends at an interval, with which so many structures were looked at before
abbrev pub ends_at_interval : MemoryMap → Query → ℕ → Interval → Option Ending
ends_at_interval m q k i =
    if i.low == i.high then Some (ending k (Ok (failure q)))
    else at_structure (k + 1) (found_at q (middle i)) (failure q) false
    (compared m q (structure_at q (middle i)))

-- whether the search ends after so many halvings
abbrev pub binary_ends : MemoryMap → Query → ℕ → Option Ending
binary_ends m q k = ends_at_interval m q k (interval_at m q k)

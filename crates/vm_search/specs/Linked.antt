-- Linked search: the first place of the chain whose key equals (Glulx 3.1.3, "Searching").
use Rattle.std.specs.Prelude.{ℕ, zero, suc, ◌+◌, ◌%◌, ◌^◌, ◌&&◌, ◌==◌}
use Rattle.std.specs.Prelude.{if◌then◌else◌, Option, Some, None, Result, Ok, Err}
use Rattle.vm_memory.specs.MemoryMap.{MemoryMap, number_at}
use Rattle.vm_memory.specs.Access.{read}
use Rattle.vm_memory.specs.declared.fault.MemFault.{MemFault}
use Rattle.vm_search.specs.Key.{ends_at_zero, compared, is_zero}
use Rattle.vm_search.specs.Ending.{Ending, ending, at_structure}
use Rattle.vm_search.specs.declared.query.Query.{Query}

-- where the address of the next place stands
abbrev pub next_link : Query → ℕ → ℕ
next_link q at = (at + q.next_offset) % 2 ^ 32

-- the places of the chain, from the start on by the word at the next offset
unfoldable pub chain_place : MemoryMap → Query → ℕ → ℕ
chain_place m q zero = q.start
chain_place m q (suc k) = number_at 4 m.bytes (next_link q (chain_place m q k))

-- whether the search ends here, or else at the next place, which can't be read
abbrev pub or_at_link : ℕ → Option Ending → Result ℕ MemFault → Option Ending
or_at_link looked (Some e) next = Some e
or_at_link looked None (Ok at) = None
or_at_link looked None (Err fault) = Some (ending looked (Err fault))

-- whether the search ends at a place of the chain, before which so many structures were looked at:
-- place 0 is the chain's end
abbrev pub ends_at : MemoryMap → Query → ℕ → ℕ → Option Ending
ends_at m q k at =
    if at == 0 then Some (ending k (Ok 0))
    else or_at_link (k + 1)
    (at_structure (k + 1) at 0 (ends_at_zero q && is_zero m q at) (compared m q at))
    (read 4 m (next_link q at))

-- whether the search ends at the place with a number
abbrev pub linked_ends : MemoryMap → Query → ℕ → Option Ending
linked_ends m q k = ends_at m q k (chain_place m q k)

-- Linear search: the least index whose key equals (Glulx 3.1.3, "Searching").
use Rattle.std.specs.Prelude.{ℕ, ◌+◌, ◌-◌, ◌*◌, ◌%◌, ◌^◌, Bool, not, ◌&&◌}
use Rattle.std.specs.Prelude.{◌==◌, if◌then◌else◌, Option, Some, Ok}
use Rattle.vm_memory.specs.MemoryMap.{MemoryMap}
use Rattle.vm_search.specs.Key.{gives_index, ends_at_zero, compared, is_zero}
use Rattle.vm_search.specs.Ending.{Ending, ending, failure, at_structure}
use Rattle.vm_search.specs.declared.query.Query.{Query}

-- the address of the structure with an index
abbrev pub structure_at : Query → ℕ → ℕ
structure_at q index = (q.start + index * q.struct_size) % 2 ^ 32

-- the answer for the structure with an index
abbrev pub found_at : Query → ℕ → ℕ
found_at q index = if gives_index q then index else structure_at q index

-- whether the index is past the last structure; a count of -1 is no limit
abbrev pub is_past : Query → ℕ → Bool
is_past q index = not (q.count == 2 ^ 32 - 1) && q.count == index

-- whether the search ends at the structure with an index
abbrev pub at_index : MemoryMap → Query → ℕ → Option Ending
at_index m q index =
    at_structure (index + 1) (found_at q index) (failure q)
    (ends_at_zero q && is_zero m q (structure_at q index))
    (compared m q (structure_at q index))

-- whether the search ends at an index
abbrev pub linear_ends : MemoryMap → Query → ℕ → Option Ending
linear_ends m q index =
    if is_past q index then Some (ending index (Ok (failure q))) else at_index m q index

-- Keys: the one that is sought, and those of structures (Glulx 3.1.3, "Searching").
use Rattle.std.specs.Prelude.{ℕ, ◌≤◌, ◌+◌, ◌%◌, ◌^◌, Bool, not, ◌||◌}
use Rattle.std.specs.Prelude.{◌==◌, if◌then◌else◌, bit_and, length, Result, Ok, Err}
use Rattle.std.specs.Ordering.{nat_cmp}
use Rattle.std.specs.declared.cmp.Ordering.{Ordering}
use Rattle.vm_memory.specs.MemoryMap.{MemoryMap, number_at}
use Rattle.vm_memory.specs.Access.{read}
use Rattle.vm_memory.specs.declared.memory.TheConstants.{MAX_SIZE}
use Rattle.vm_memory.specs.declared.fault.MemFault.{MemFault}
use Rattle.vm_search.specs.declared.query.Query.{Query}

-- whether an option is set
abbrev pub has_option : Query → ℕ → Bool
has_option q option = not (bit_and q.options option == 0)

-- KeyIndirect: the key is at an address
abbrev pub is_indirect : Query → Bool
is_indirect q = has_option q 1

-- ZeroKeyTerminates
abbrev pub ends_at_zero : Query → Bool
ends_at_zero q = has_option q 2

-- ReturnIndex
abbrev pub gives_index : Query → Bool
gives_index q = has_option q 4

-- whether there is a search: a key at an address has some size, any other one of 1, 2 or 4
abbrev pub is_search : Query → Bool
is_search q =
    if is_indirect q then not (q.key_size == 0)
    else (q.key_size == 1 || q.key_size == 2 || q.key_size == 4)

-- the key that is sought, a number of so many bytes
abbrev pub sought : MemoryMap → Query → Result ℕ MemFault
sought m q = if is_indirect q then read q.key_size m q.key else Ok (q.key % 256 ^ q.key_size)

-- where the key of the structure at an address stands
abbrev pub key_place : Query → ℕ → ℕ
key_place q at = (at + q.key_offset) % 2 ^ 32

-- how two keys compare; the first is read first
abbrev pub order_of : Result ℕ MemFault → Result ℕ MemFault → Result Ordering MemFault
order_of (Ok key) (Ok own) = Ok (nat_cmp key own)
order_of (Ok key) (Err fault) = Err fault
order_of (Err fault) own = Err fault

-- how the key that is sought compares with that of the structure at an address
abbrev pub compared : MemoryMap → Query → ℕ → Result Ordering MemFault
compared m q at = order_of (sought m q) (read q.key_size m (key_place q at))

-- the key of the structure at an address
abbrev pub key_in_memory : MemoryMap → Query → ℕ → ℕ
key_in_memory m q at = number_at q.key_size m.bytes (key_place q at)

-- whether it is zero
abbrev pub is_zero : MemoryMap → Query → ℕ → Bool
is_zero m q at = key_in_memory m q at == 0

-- so many bytes at an address lie in memory, which has its limit
pub record LiesIn (m : MemoryMap) (size at : ℕ) : Type 0 where
  pub inside : at + size ≤ length m.bytes
  pub limit : length m.bytes ≤ MAX_SIZE

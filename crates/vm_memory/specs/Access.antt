-- Reads and writes of numbers and of blocks, with their faults (Glulx 3.1.3, "The Memory Map").
use Rattle.std.specs.Prelude.{◌≡◌, ℕ, List, ◌+◌, ◌==◌, ◌&&◌, nat_le, replicate}
use Rattle.std.specs.Prelude.{if◌then◌else◌, length, take, drop, Result, Ok, Err}
use Rattle.byteorder.specs.Endian.{big_bytes}
use Rattle.vm_memory.specs.MemoryMap.{MemoryMap, number_at, replaced}
use Rattle.vm_memory.specs.declared.fault.MemFault.{MemFault}
use Rattle.vm_memory.specs.declared.fault.MemFault.TheVariants.{BadRead, BadWrite}
use Rattle.vm_memory.specs.declared.fault.MemStop.{MemStop}
use Rattle.vm_memory.specs.declared.fault.MemStop.TheVariants.{Fault, NoMemory}

-- the number of n bytes at an address
abbrev pub read : ℕ → MemoryMap → ℕ → Result ℕ MemFault
read n m at =
    if nat_le (at + n) (length m.bytes) then Ok (number_at n m.bytes at) else Err (BadRead at)

-- memory with these bytes at an address
abbrev pub with_bytes : MemoryMap → ℕ → List ℕ → MemoryMap
with_bytes m at new = record m { bytes = replaced m.bytes at new }

-- memory with a number of n bytes written at an address
abbrev pub written : ℕ → MemoryMap → ℕ → ℕ → Result MemoryMap MemFault
written n m at x =
    if nat_le m.ramstart at && nat_le (at + n) (length m.bytes)
    then Ok (with_bytes m at (big_bytes n x))
    else Err (BadWrite at)

-- memory with a block of n zeros; an empty block is nowhere
abbrev pub zeroed : MemoryMap → ℕ → ℕ → Result MemoryMap MemFault
zeroed m at n =
    if n == 0 then Ok m
    else (if nat_le m.ramstart at && nat_le (at + n) (length m.bytes)
    then Ok (with_bytes m at (replicate n 0))
    else Err (BadWrite at))

-- memory with a block of n bytes copied, which are those of before though the blocks overlap; the
-- block is read first
abbrev pub copied : MemoryMap → ℕ → ℕ → ℕ → Result MemoryMap MemFault
copied m n from to =
    if n == 0 then Ok m
    else (if nat_le (from + n) (length m.bytes)
    then (if nat_le m.ramstart to && nat_le (to + n) (length m.bytes)
    then Ok (with_bytes m to (take n (drop from m.bytes)))
    else Err (BadWrite to))
    else Err (BadRead from))

-- memory with a block of n bytes that stands at the same address in another; an empty block is
-- nowhere, and the block is read first
abbrev pub copied_from : MemoryMap → MemoryMap → ℕ → ℕ → Result MemoryMap MemFault
copied_from m other at n =
    if n == 0 then Ok m
    else (if nat_le (at + n) (length other.bytes)
    then (if nat_le m.ramstart at && nat_le (at + n) (length m.bytes)
    then Ok (with_bytes m at (take n (drop at other.bytes)))
    else Err (BadWrite at))
    else Err (BadRead at))

-- A call that changes memory answered this and left new, as it should, unless room was wanting.
abbrev pub LeavesMemory : {A : Type 0} → Result MemoryMap MemFault → MemoryMap → Result A MemStop
    → Type 0
LeavesMemory should new (Ok x) = should ≡ Ok new
LeavesMemory should new (Err (Fault f)) = should ≡ Err f
LeavesMemory should new (Err NoMemory) = Unit {0}

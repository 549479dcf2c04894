-- The protected range of memory (Glulx 3.1.3, "Game State").
use Rattle.std.specs.Prelude.{ℕ, ◌+◌, ◌-◌, nat_lt, max, min, if◌then◌else◌, length, take, drop}
use Rattle.vm_memory.specs.MemoryMap.{MemoryMap, replaced}

-- the first address of the range of n bytes that lies in RAM of both memories
abbrev pub protection_start : MemoryMap → MemoryMap → ℕ → ℕ
protection_start kept into start = max start (max kept.ramstart into.ramstart)

-- the address behind the last
abbrev pub protection_end : MemoryMap → MemoryMap → ℕ → ℕ → ℕ
protection_end kept into start n = min (start + n) (min (length kept.bytes) (length into.bytes))

-- a memory, with the bytes of the range of n bytes that lie in RAM of both as another keeps them
abbrev pub protected : MemoryMap → MemoryMap → ℕ → ℕ → MemoryMap
protected kept into start n =
    let from = protection_start kept into start in
    let to = protection_end kept into start n in
    if nat_lt from to
    then record into { bytes = replaced into.bytes from (take (to - from) (drop from kept.bytes)) }
    else into

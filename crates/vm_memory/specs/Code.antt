-- Code below RAMSTART, which no story changes (Glulx 3.1.3, "The Memory Map").
use Rattle.std.specs.Prelude.{◌≡◌, ◌≤◌, ℕ, ◌+◌, List, length, take, drop}
use Rattle.vm_memory.specs.MemoryMap.{MemoryMap}

-- these are the 32 bytes at an address below RAMSTART
pub record IsCode (m : MemoryMap) (at : ℕ) (code : List ℕ) : Type 0 where
  pub bytes : code ≡ take 32 (drop at m.bytes)
  pub below : at + 32 ≤ m.ramstart
  pub inside : at + 32 ≤ length m.bytes

-- The memory map (Glulx 3.1.3, "The Memory Map").
use Rattle.std.specs.Prelude.{◌≡◌, ◌≤◌, ℕ, ◌+◌, ◌-◌, List, ◌++◌, length}
use Rattle.std.specs.Prelude.{◌≢◌, ◌<◌, take, drop, replicate, slice_index}
use Rattle.byteorder.specs.Endian.{big_number}

-- the bytes of memory, those from RAMSTART on writable; and the original list, which is the file's
-- bytes up to EXTSTART and then zeros up to ENDMEM
pub record MemoryMap : Type 0 where
  pub bytes : List ℕ
  pub ramstart : ℕ
  pub rom : List ℕ
  pub endmem : ℕ

-- the bytes of a file, and then zeros up to the end of memory
abbrev pub original : List ℕ → ℕ → List ℕ
original rom endmem = rom ++ replicate (endmem - length rom) 0

-- the byte of the original list at an address, and 0 past its end
abbrev pub original_byte : MemoryMap → ℕ → ℕ
original_byte m at = slice_index (original m.rom m.endmem) at

-- the memory of a file as a story begins
abbrev pub memory_of : List ℕ → ℕ → ℕ → MemoryMap
memory_of rom ramstart endmem =
    record { bytes = original rom endmem; ramstart = ramstart; rom = rom; endmem = endmem }

-- the number in the n bytes at an address, the most significant first
abbrev pub number_at : ℕ → List ℕ → ℕ → ℕ
number_at n bytes at = big_number n (drop at bytes)

-- the bytes with these in place of those at an address
abbrev pub replaced : List ℕ → ℕ → List ℕ → List ℕ
replaced bytes at new = take at bytes ++ new ++ drop (at + length new) bytes

-- memory of another size: bytes past it are gone, new ones are zero
abbrev pub resized : MemoryMap → ℕ → MemoryMap
resized m size =
    record m { bytes = take size m.bytes ++ replicate (size - length m.bytes) 0 }

-- the original memory again
abbrev pub reset : MemoryMap → MemoryMap
reset m = record m { bytes = original m.rom m.endmem }

-- what RAM holds
abbrev pub ram_of : MemoryMap → List ℕ
ram_of m = drop m.ramstart m.bytes

-- memory with these bytes in RAM
abbrev pub with_ram : MemoryMap → List ℕ → MemoryMap
with_ram m ram = record m { bytes = take m.ramstart m.bytes ++ ram }

-- below RAMSTART stand the file's bytes
pub record KeepsRom (ramstart : ℕ) (rom bytes : List ℕ) : Type 0 where
  pub within : ramstart ≤ length rom
  pub same : take ramstart bytes ≡ take ramstart rom

-- what memory has of its image
pub record Origin : Type 0 where
  pub ramstart : ℕ
  pub rom : List ℕ
  pub endmem : ℕ

abbrev pub origin_of : MemoryMap → Origin
origin_of m = record { ramstart = m.ramstart; rom = m.rom; endmem = m.endmem }

-- a change of bytes alone: memory of the same image, and of the same size
pub record KeepsMap (old new : MemoryMap) : Type 0 where
  pub origin : origin_of old ≡ origin_of new
  pub size : length old.bytes ≡ length new.bytes

-- the first address from one on at which memory isn't as it was at first, or its end
pub record IsNextChange (m : MemoryMap) (from at : ℕ) : Type 0 where
  pub least : from ≤ at
  pub within : at ≤ length m.bytes
  pub same : (i : ℕ) → from ≤ i → i < at → slice_index m.bytes i ≡ original_byte m i
  pub other : at < length m.bytes → slice_index m.bytes at ≢ original_byte m at

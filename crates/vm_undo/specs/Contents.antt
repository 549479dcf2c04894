-- Memory as the contents of a CMem chunk: its size, and RAM against the original list (Quetzal 1.4,
-- "Content of dynamic memory"; Glulx 3.1.3, "Saving and Restoring").
use Rattle.std.specs.Prelude.{◌≡◌, ◌≤◌, ℕ, ◌-◌, ◌%◌, Bool, false, ◌&&◌, ◌==◌, nat_le}
use Rattle.std.specs.Prelude.{if◌then◌else◌, List, ◌++◌, length, take, drop, slice_index, IsTrue, ◌<◌}
use Rattle.std.specs.Prelude.{Option, Some, None, Result, Ok, Err}
use Rattle.std.specs.Int.{w32, to_be_bytes}
use Rattle.vm_memory.specs.MemoryMap.{MemoryMap, Origin, KeepsRom, number_at, original, origin_of}
use Rattle.vm_memory.specs.MemoryMap.{ram_of}
use Rattle.vm_memory.specs.declared.memory.TheConstants.{MAX_SIZE}
use Rattle.vm_undo.specs.Runs.{differences, runs_coded, runs_decoded}
use Rattle.vm_undo.specs.RunsTest.{are_runs}
use Rattle.vm_undo.specs.SavedState.{IsSize}
use Rattle.vm_undo.specs.declared.runs.RunsFault.{RunsFault}
use Rattle.vm_undo.specs.declared.runs.RunsFault.TheVariants.{BadRuns, NoMemory}

-- ---- a memory's contents, and the memory that contents give

-- RAM as it was at first, in memory of this size: the file's bytes, and zeros
abbrev pub first_ram : Origin → ℕ → List ℕ
first_ram o size = drop o.ramstart (original o.rom size)

-- each byte of RAM by exclusive or with what it was
abbrev pub changes : MemoryMap → List ℕ
changes m = differences (first_ram (origin_of m) (length m.bytes)) (ram_of m)

-- the one contents of a memory
abbrev pub contents : MemoryMap → List ℕ
contents m = to_be_bytes w32 (length m.bytes) ++ runs_coded 0 (changes m)

-- memory of this image with these bytes in RAM
abbrev pub memory_with : Origin → List ℕ → MemoryMap
memory_with o ram = record {
  bytes = take o.ramstart o.rom ++ ram;
  ramstart = o.ramstart;
  rom = o.rom;
  endmem = o.endmem;
}

-- whether memory may have this size
abbrev pub is_size : ℕ → ℕ → Bool
is_size endmem size = size % 256 == 0 && (nat_le endmem size && nat_le size MAX_SIZE)

-- whether contents begin with a size that memory may have
abbrev pub has_size : ℕ → List ℕ → Bool
has_size endmem bytes = nat_le 4 (length bytes) && is_size endmem (number_at 4 bytes 0)

abbrev pub memory_over : Origin → Option (List ℕ) → Option MemoryMap
memory_over o None = None
memory_over o (Some ram) = Some (memory_with o ram)

-- the memory that contents give, where they give one; any coding will do
abbrev pub memory_of_contents : Origin → List ℕ → Option MemoryMap
memory_of_contents o bytes =
    if has_size o.endmem bytes
    then memory_over o (runs_decoded false (first_ram o (number_at 4 bytes 0)) (drop 4 bytes))
    else None

-- a call gave this memory, or BadRuns where there is none; nothing is said of want of memory
abbrev pub GivesMemory : Option MemoryMap → Result MemoryMap RunsFault → Type 0
GivesMemory should (Ok m) = should ≡ Some m
GivesMemory should (Err BadRuns) = should ≡ None
GivesMemory should (Err NoMemory) = Unit {0}

-- ---- which bytes are contents

-- an image: RAM begins in the file, which isn't longer than memory
pub record IsOrigin (o : Origin) : Type 0 where
  pub ram : o.ramstart ≤ length o.rom
  pub extent : length o.rom ≤ o.endmem

-- memory of this image, of a size that it may have
pub record IsMemoryOf (o : Origin) (m : MemoryMap) : Type 0 where
  pub image : origin_of m ≡ o
  pub rom : KeepsRom o.ramstart o.rom m.bytes
  pub extent : length o.rom ≤ o.endmem
  pub size : IsSize o.endmem (length m.bytes)

-- the contents of some memory of this image
pub record IsContents (o : Origin) (bytes : List ℕ) : Type 0 where
  pub memory : MemoryMap
  pub is : IsMemoryOf o memory
  pub spelled : contents memory ≡ bytes

-- the same as a test, which needs no byte of the image
abbrev pub is_contents : ℕ → ℕ → List ℕ → Bool
is_contents ramstart endmem bytes =
    has_size endmem bytes && are_runs (number_at 4 bytes 0 - ramstart) (drop 4 bytes)

-- each number of the list is a byte
abbrev pub AreBytes : List ℕ → Type 0
AreBytes bytes = (k : ℕ) → slice_index bytes k < 256

-- ---- laws

-- memory is what its contents give
abbrev pub GivesMemoryBack : Type 0
GivesMemoryBack = (o : Origin) (m : MemoryMap) → IsMemoryOf o m
    → memory_of_contents o (contents m) ≡ Some m

-- contents are those of the memory that they give
abbrev pub GivesContentsBack : Type 0
GivesContentsBack = (o : Origin) (bytes : List ℕ) (m : MemoryMap) → IsContents o bytes
    → memory_of_contents o bytes ≡ Some m → contents m ≡ bytes

-- the test tells the contents of memory of an image, whatever its bytes, from all else
pub record TellsContents : Type 0 where
  pub only : (o : Origin) (bytes : List ℕ) → IsOrigin o → AreBytes bytes
      → IsTrue (is_contents o.ramstart o.endmem bytes) → IsContents o bytes
  pub found : (o : Origin) (bytes : List ℕ) → IsContents o bytes
      → IsTrue (is_contents o.ramstart o.endmem bytes)

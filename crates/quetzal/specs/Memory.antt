-- The memory that the contents of a CMem or UMem chunk give (Quetzal 1.4, "Content of dynamic
-- memory").
use Rattle.std.specs.Prelude.{ℕ, ◌+◌, ◌-◌, Bool, ◌&&◌, ◌==◌, if◌then◌else◌, List, length, drop}
use Rattle.std.specs.Prelude.{Option, Some, None, Result}
use Rattle.vm_memory.specs.MemoryMap.{MemoryMap, Origin, number_at}
use Rattle.vm_undo.specs.Contents.{has_size, memory_of_contents, memory_with}
use Rattle.quetzal.specs.Fault.{or_else}
use Rattle.quetzal.specs.declared.fault.SaveFault.{SaveFault}
use Rattle.quetzal.specs.declared.fault.SaveFault.TheVariants.{BadRuns}

-- memory of this image, whose RAM stands as it is behind its size
abbrev pub plain_memory : Origin → List ℕ → Option MemoryMap
plain_memory o contents =
    if has_size o.endmem contents
    && length contents == 4 + (number_at 4 contents 0 - o.ramstart)
    then Some (memory_with o (drop 4 contents)) else None

-- the memory that a chunk gives, of CMem by its runs
unfoldable pub memory_in_chunk : Origin → List ℕ → Bool → Result MemoryMap SaveFault
memory_in_chunk o contents compressed =
    or_else BadRuns
    (if compressed then memory_of_contents o contents else plain_memory o contents)

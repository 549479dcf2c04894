-- The numbers of faults, and the edges of a memory of 512 bytes whose RAM begins at 256.
use Rattle.std.proofs.Common.{◌≡◌, refl, [], ◌∷◌, replicate, Ok, Err}
use Rattle.vm_memory.specs.MemoryMap.{MemoryMap, memory_of}
use Rattle.vm_memory.specs.Access.{read, written}
use Rattle.vm_memory.specs.declared.faults.TheConstants as f
use Rattle.vm_memory.specs.declared.memory.TheConstants.{MAX_SIZE}
use Rattle.vm_memory.specs.declared.fault.MemFault.TheVariants.{BadRead, BadWrite}

-- 16 MiB
the_greatest_size : MAX_SIZE ≡ 16777216
the_greatest_size = refl

abbrev example : MemoryMap
example = memory_of (replicate 256 7) 256 512

ram_begins_at_256 : written 1 example 255 1 ≡ Err (BadWrite 255)
ram_begins_at_256 = refl

a_write_past_the_end : written 4 example 509 1 ≡ Err (BadWrite 509)
a_write_past_the_end = refl

the_last_word : read 4 example 508 ≡ Ok 0
the_last_word = refl

a_read_past_the_end : read 4 example 509 ≡ Err (BadRead 509)
a_read_past_the_end = refl

-- in the order of the table
the_numbers_of_faults :
    f.BAD_READ ∷ f.BAD_WRITE ∷ f.STACK_OVERFLOW ∷ f.STACK_UNDERFLOW ∷ f.BAD_LOCAL ∷ f.BAD_OPCODE
    ∷ f.BAD_MODE ∷ f.DIVISION_BY_ZERO ∷ f.DIVISION_OVERFLOW ∷ f.BAD_SEARCH ∷ f.BAD_BLOCK
    ∷ f.BAD_FUNCTION ∷ f.BAD_STUB ∷ f.BAD_TOKEN ∷ f.BAD_STRING ∷ f.NO_TABLE ∷ f.UNSUPPORTED_OPCODE
    ∷ f.DEBUG_TRAP ∷ f.BAD_SIZE ∷ f.BAD_SELECTOR ∷ f.BAD_OBJECT ∷ f.BAD_ARGUMENT
    ∷ f.TOO_MUCH_OUTPUT ∷ f.BUDGET_SPENT ∷ []
    ≡ 1 ∷ 2 ∷ 3 ∷ 4 ∷ 5 ∷ 6 ∷ 7 ∷ 8 ∷ 9 ∷ 10 ∷ 11 ∷ 12 ∷ 13 ∷ 14 ∷ 15 ∷ 16 ∷ 17 ∷ 18 ∷ 19 ∷ 20
    ∷ 21 ∷ 22 ∷ 23 ∷ 24 ∷ []
the_numbers_of_faults = refl

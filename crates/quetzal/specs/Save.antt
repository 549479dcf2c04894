-- A save, and the state of a story that it spells (Quetzal 1.4, "Overall Structure").
use Rattle.std.specs.Prelude.{ℕ, ◌≤◌, nat_le, Bool, ◌&&◌, if◌then◌else◌, List, length}
use Rattle.std.specs.Prelude.{take, Ok, Err, Result}
use Rattle.std.specs.Str.{bytes_eq}
use Rattle.glulx_image.specs.Header.{ramstart, extstart, endmem, stack_size}
use Rattle.vm_memory.specs.Chaining.{◌>>=◌}
use Rattle.vm_memory.specs.MemoryMap.{MemoryMap, Origin, memory_of as original_of, origin_of}
use Rattle.vm_stack.specs.SavedTest.{is_saved_stack}
use Rattle.vm_undo.specs.Contents.{contents}
use Rattle.vm_undo.specs.SavedState.{IsSavedOf}
use Rattle.vm_undo.specs.declared.saved.Saved.{Saved}
use Rattle.quetzal.specs.Chunks.{Pieces, parts_of}
use Rattle.quetzal.specs.Heap.{heap_in, print_heap}
use Rattle.quetzal.specs.Memory.{memory_in_chunk}
use Rattle.quetzal.specs.Printing.{print_save}
use Rattle.quetzal.specs.declared.fault.SaveFault.{SaveFault}
use Rattle.quetzal.specs.declared.fault.SaveFault.TheVariants.{OtherStory, BadStack}

-- the file's bytes that memory begins with
abbrev pub rom : List ℕ → List ℕ
rom image = take (extstart image) image

-- the memory of a story as it begins
abbrev pub image_memory : List ℕ → MemoryMap
image_memory image = original_of (rom image) (ramstart image) (endmem image)

-- the story's first 128 bytes, by which its saves are known
abbrev pub identity : List ℕ → List ℕ
identity image = take 128 image

-- the file's bytes, RAMSTART and ENDMEM
abbrev pub origin : List ℕ → Origin
origin image = origin_of (image_memory image)

-- the memory of a story, by a save's memory chunk
abbrev pub memory_in : List ℕ → Pieces → Result MemoryMap SaveFault
memory_in image p = memory_in_chunk (origin image) p.memory p.compressed

-- frames with a stub on top, which the story's stack holds
abbrev pub is_stack_of : List ℕ → List ℕ → Bool
is_stack_of image bytes = nat_le (length bytes) (stack_size image) && is_saved_stack bytes

-- the state of the story that the bytes spell, or the first cause against them, looked for in the
-- form, the story's bytes, memory, stack and heap
unfoldable pub save_in : List ℕ → List ℕ → Result Saved SaveFault
save_in image bytes = do
  parts ← parts_of bytes
  own ← (if bytes_eq parts.header (identity image) then Ok parts.header else Err OtherStory)
  memory ← memory_in image parts
  stack ← (if is_stack_of image parts.stack then Ok parts.stack else Err BadStack)
  heap ← heap_in (endmem image) (length memory.bytes) parts.heap
  Ok (record { memory = memory; stack = stack; heap = heap.blocks; heap_start = heap.start })

-- ---- the writer's one spelling

-- a state of the story, whose stack isn't larger than the story's
pub record IsStateOf (image : List ℕ) (s : Saved) : Type 0 where
  pub saved : IsSavedOf (origin image) s
  pub size : length s.stack ≤ stack_size image

abbrev pub canon : List ℕ → Saved → List ℕ
canon image s = print_save
    (identity image)
    (contents s.memory)
    s.stack
    (print_heap s.heap_start s.heap)

-- Saved states: memory, stack and heap (Glulx 3.1.3, "Saving and Restoring").
use Rattle.std.specs.Prelude.{ℕ, ◌≡◌, ◌≤◌, ◌<◌, ◌%◌, List, length, IsTrue}
use Rattle.vm_memory.specs.MemoryMap.{Origin, origin_of}
use Rattle.vm_memory.specs.declared.memory.TheConstants.{MAX_SIZE}
use Rattle.vm_stack.specs.Saved.{SavedStack}
use Rattle.vm_heap.specs.HeapMap.{is_heap, heap_end}
use Rattle.vm_heap.specs.declared.block.Block.{Block}
use Rattle.vm_undo.specs.declared.saved.Saved.{Saved}

-- a size that memory may have: whole pages of 256 bytes, from ENDMEM to 16,777,216
pub record IsSize (endmem size : ℕ) : Type 0 where
  pub pages : size % 256 ≡ 0
  pub least : endmem ≤ size
  pub limit : size ≤ MAX_SIZE

-- a heap over memory of this size: a heap by its own rules, which begins at a page from ENDMEM on,
-- and behind whose last block memory ends
pub record IsHeapOver (endmem size start : ℕ) (blocks : List Block) : Type 0 where
  pub heap : IsTrue (is_heap start blocks)
  pub page : start % 256 ≡ 0
  pub least : 0 < start → endmem ≤ start
  pub ends : 0 < start → size ≡ heap_end blocks

-- a saved state: its memory has a size that it may have, its stack is call frames with a stub on
-- top, and its heap is one over its memory
pub record IsSaved (s : Saved) : Type 0 where
  pub size : IsSize s.memory.endmem (length s.memory.bytes)
  pub stack : SavedStack s.stack
  pub heap : IsHeapOver s.memory.endmem (length s.memory.bytes) s.heap_start s.heap

-- a saved state of the story with this image
pub record IsSavedOf (origin : Origin) (s : Saved) : Type 0 where
  pub image : origin_of s.memory ≡ origin
  pub saved : IsSaved s

-- the same with a stack of at most so many bytes
abbrev pub IsSavedWithin : Origin → ℕ → Saved → Type 0
IsSavedWithin origin size s = IsSavedOf origin s × (length s.stack ≤ size)

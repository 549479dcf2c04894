-- What malloc and mfree do (Glulx 3.1.3, "Memory Allocation Heap").
use Rattle.std.specs.Prelude.{◌≡◌, ℕ, ◌+◌, Bool, false, ◌||◌, ◌==◌, nat_lt, nat_le, if◌then◌else◌}
use Rattle.std.specs.Prelude.{List, [], ◌∷◌, Option, Some, None, Result, Ok, Err}
use Rattle.vm_heap.specs.HeapMap.{HeapMap}
use Rattle.vm_heap.specs.FirstFit.{first_fit}
use Rattle.vm_heap.specs.declared.block.Block.{Block}
use Rattle.vm_heap.specs.declared.block.TheConstants.{MAX_SIZE}
use Rattle.vm_heap.specs.declared.fault.HeapFault.{HeapFault}
use Rattle.vm_heap.specs.declared.fault.HeapFault.TheVariants.{BadBlock}

-- where the heap begins once it has a block: where it began, or at memory's end
abbrev pub start_from : HeapMap → ℕ → ℕ
start_from h end = if h.start == 0 then end else h.start

-- the blocks with one more, in its place by its address
abbrev pub with_block : Block → List Block → List Block
with_block new [] = new ∷ []
with_block new (b ∷ bs) = if nat_lt new.at b.at then new ∷ b ∷ bs else b ∷ with_block new bs

-- the address of a new block and the heap with it; none, and the heap as it was, where the block
-- would pass 16,777,216
abbrev pub block_placed : HeapMap → ℕ → ℕ → ℕ → Option ℕ × HeapMap
block_placed h start size at =
    if nat_le (at + size) MAX_SIZE
    then (
      Some at,
      record {
        start = start;
        blocks = with_block (record { at = at; length = size }) h.blocks;
      },
    )
    else (None, h)

-- a new block of this size where memory ends here: at the least address at which it fits
abbrev pub malloced : HeapMap → ℕ → ℕ → Option ℕ × HeapMap
malloced h size end =
    let start = start_from h end in block_placed h start size (first_fit start h.blocks size)

-- whether a block begins at the address
abbrev pub begins : ℕ → List Block → Bool
begins at [] = false
begins at (b ∷ bs) = b.at == at || begins at bs

-- the blocks without the one that begins at the address
abbrev pub blocks_without : ℕ → List Block → List Block
blocks_without at [] = []
blocks_without at (b ∷ bs) = if b.at == at then bs else b ∷ blocks_without at bs

-- a heap of this start with these blocks, which is none where there is no block
abbrev pub heap_of : ℕ → List Block → HeapMap
heap_of start [] = record { start = 0; blocks = [] }
heap_of start (b ∷ bs) = record { start = start; blocks = b ∷ bs }

-- the heap without the block that begins at the address
abbrev pub freed : HeapMap → ℕ → Result HeapMap HeapFault
freed h at =
    if begins at h.blocks then Ok (heap_of h.start (blocks_without at h.blocks))
    else Err (BadBlock at)

-- A call that changes a heap answered this and left new, as it should; after a fault all is as
-- before.
abbrev pub LeavesHeap : {A : Type 0} → Result HeapMap HeapFault → HeapMap → HeapMap
    → Result A HeapFault → Type 0
LeavesHeap should old new (Ok x) = should ≡ Ok new
LeavesHeap should old new (Err f) = (should ≡ Err f) × (new ≡ old)

-- The heap's chunk MAll (Glulx 3.1.3, "Saving and Restoring").
use Rattle.std.specs.Prelude.{ℕ, zero, suc, ◌+◌, ◌*◌, ◌%◌, Bool, ◌&&◌, ◌||◌, ◌==◌, nat_le}
use Rattle.std.specs.Prelude.{if◌then◌else◌, List, [], ◌∷◌, ◌++◌, length as size, drop, Vec, Option}
use Rattle.std.specs.Prelude.{Some, None, Result, Ok, Err}
use Rattle.std.specs.Int.{w32, to_be_bytes}
use Rattle.glulx_image.specs.Header.{word}
use Rattle.vm_heap.specs.Allocation.{with_block}
use Rattle.vm_heap.specs.HeapMap.{is_heap, heap_end}
use Rattle.vm_heap.specs.declared.block.Block.{Block}
use Rattle.vm_memory.specs.Chaining.{◌>>=◌}
use Rattle.quetzal.specs.Fault.{or_else}
use Rattle.quetzal.specs.declared.fault.SaveFault.{SaveFault}
use Rattle.quetzal.specs.declared.fault.SaveFault.TheVariants.{BadHeap}
use Rattle.quetzal.specs.declared.heap.SavedHeap.{SavedHeap}

-- so many pairs of an address and a length
unfoldable pub blocks_in : ℕ → List ℕ → List Block
blocks_in zero bytes = []
blocks_in (suc n) bytes =
    record { at = word bytes 0; length = word bytes 4 } ∷ blocks_in n (drop 8 bytes)

-- start and count are both 0
abbrev pub is_without : List ℕ → Bool
is_without bytes = nat_le 8 (size bytes) && (word bytes 0 == 0 && word bytes 4 == 0)

-- the heap's start and its blocks as they are listed: no bytes, or 0 and 0, are no heap; else the
-- blocks end where the bytes do
abbrev pub listed_in : List ℕ → Option (ℕ × List Block)
listed_in bytes =
    if size bytes == 0 || is_without bytes then Some (0, [])
    else (if nat_le 8 (size bytes) && size bytes == 8 + 8 * word bytes 4
    then Some (word bytes 0, blocks_in (word bytes 4) (drop 8 bytes)) else None)

-- a save without the chunk has no heap
abbrev pub heap_listed : Option (List ℕ) → Option (ℕ × List Block)
heap_listed None = Some (0, [])
heap_listed (Some bytes) = listed_in bytes

-- a heap starts at a page from ENDMEM on, and memory ends where the heap does
abbrev pub is_placed : ℕ → ℕ → ℕ → ℕ → Bool
is_placed endmem length start end = start % 256 == 0 && (nat_le endmem start && length == end)

-- a heap that a memory of this size may have
abbrev pub heap_fits : ℕ → ℕ → ℕ → List Block → Bool
heap_fits endmem length start [] = start == 0
heap_fits endmem length start (b ∷ bs) =
    is_heap start (b ∷ bs) && is_placed endmem length start (heap_end (b ∷ bs))

-- the blocks by their addresses
abbrev pub by_address : List Block → List Block
by_address [] = []
by_address (b ∷ bs) = with_block b (by_address bs)

-- the heap of these blocks, if memory of this size may have it
abbrev pub heap_of : ℕ → ℕ → ℕ → List Block → Result SavedHeap SaveFault
heap_of endmem length start blocks =
    if heap_fits endmem length start blocks
    then Ok (record { start = start; blocks = blocks }) else Err BadHeap

-- the heap that a chunk spells, its blocks listed in any order
abbrev pub heap_in : ℕ → ℕ → Option (List ℕ) → Result SavedHeap SaveFault
heap_in endmem length chunk =
    or_else BadHeap (heap_listed chunk) >>= (λ l. heap_of endmem length l.0 (by_address l.1))

-- ---- as it is written

abbrev pub block_bytes : List Block → List ℕ
block_bytes [] = []
block_bytes (b ∷ bs) = to_be_bytes w32 b.at ++ (to_be_bytes w32 b.length ++ block_bytes bs)

-- no heap, no chunk; else its start, the number of its blocks, and each
abbrev pub print_heap : ℕ → List Block → Option (List ℕ)
print_heap start [] = None
print_heap start (b ∷ bs) = Some
    (to_be_bytes w32 start ++ (to_be_bytes w32 (size (b ∷ bs)) ++ block_bytes (b ∷ bs)))

-- the bytes that were written, where some were
abbrev pub written_bytes : {Z : Type 0} → Option (Vec ℕ Z) → Option (List ℕ)
written_bytes None = None
written_bytes (Some v) = Some v.items

-- The heap: its start and its blocks (Glulx 3.1.3, "Memory Allocation Heap").
use Rattle.std.specs.Prelude.{ℕ, ◌+◌, ◌*◌, ◌/◌, Bool, ◌&&◌, ◌==◌, nat_lt, nat_le, List, [], ◌∷◌}
use Rattle.vm_heap.specs.declared.block.Block.{Block}
use Rattle.vm_heap.specs.declared.block.TheConstants.{MAX_SIZE}

-- where the heap begins, 0 where it has no block, and its blocks by their addresses
pub record HeapMap : Type 0 where
  pub start : ℕ
  pub blocks : List Block

-- where a block ends
abbrev pub block_end : Block → ℕ
block_end b = b.at + b.length

-- blocks in order from this address on: none is empty, each begins at the end of the one before
-- it or behind, and none passes 16,777,216
abbrev pub in_order : ℕ → List Block → Bool
in_order from [] = nat_le from MAX_SIZE
in_order from (b ∷ bs) = nat_le from b.at && nat_lt 0 b.length && in_order (block_end b) bs

-- what a heap may be: it starts at 0 without a block, and elsewhere with blocks in order from there
abbrev pub is_heap : ℕ → List Block → Bool
is_heap start [] = start == 0
is_heap start (b ∷ bs) = nat_lt 0 start && in_order start (b ∷ bs)

-- a number rounded up to 256
abbrev pub rounded_up : ℕ → ℕ
rounded_up n = (n + 255) / 256 * 256

-- where memory ends while the heap is active: the last block's end rounded up to 256
abbrev pub heap_end : List Block → ℕ
heap_end [] = 0
heap_end (b ∷ []) = rounded_up (block_end b)
heap_end (b ∷ c ∷ bs) = heap_end (c ∷ bs)

-- Addresses of blocks where memory ends at 0x1000, said of the definitions.
use Rattle.std.proofs.Common.{arith, ◌≡◌, refl, ℕ, [], ◌∷◌, true, false}
use Rattle.vm_heap.specs.HeapMap.{heap_end, is_heap}
use Rattle.vm_heap.specs.FirstFit.{first_fit}
use Rattle.vm_heap.specs.declared.block.Block.{Block}
use Rattle.vm_heap.proofs.FitLemmas.{walk-first_fit}
use Rattle.vm_heap.specs.declared.block.TheConstants.{MAX_SIZE}

abbrev block : ℕ → ℕ → Block
block at length = record { at = at; length = length }

-- the first block stands at memory's end, the second behind it
pub first : first_fit 0x1000 [] 16 ≡ 0x1000
first = walk-first_fit [] 16 0x1000 (omega arith) refl

pub second : first_fit 0x1000 (block 0x1000 16 ∷ []) 32 ≡ 0x1010
second = walk-first_fit (block 0x1000 16 ∷ []) 32 0x1000 (omega arith) refl

-- a gap takes a block of its very size, and none that is longer
pub in_the_gap : first_fit 0x1000 (block 0x1010 32 ∷ []) 16 ≡ 0x1000
in_the_gap = walk-first_fit (block 0x1010 32 ∷ []) 16 0x1000 (omega arith) refl

pub behind_the_gap : first_fit 0x1000 (block 0x1010 32 ∷ []) 17 ≡ 0x1030
behind_the_gap = walk-first_fit (block 0x1010 32 ∷ []) 17 0x1000 (omega arith) refl

-- memory ends at the next multiple of 256
pub ends : heap_end (block 0x1000 16 ∷ block 0x1010 32 ∷ []) ≡ 0x1100
ends = refl

-- no start without a block, and no blocks that meet
pub heaps :
    is_heap 0 [] ∷ is_heap 0x100 [] ∷ is_heap 0x100 (block 0x100 4 ∷ block 0x103 4 ∷ [])
    ∷ is_heap 0x100 (block 0x100 4 ∷ block 0x104 4 ∷ []) ∷ []
    ≡ true ∷ false ∷ false ∷ true ∷ []
heaps = refl

-- 16 MiB, which no block passes
pub the_greatest_size : MAX_SIZE ≡ 16777216
the_greatest_size = refl

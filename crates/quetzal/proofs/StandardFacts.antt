-- Values that the formats give, so that a wrong rule in the specs doesn't check.
use Rattle.std.specs.Prelude.{◌≡◌, refl, [], ◌∷◌, codes, Some, None}
use Rattle.quetzal.specs.Chunks.{name}
use Rattle.quetzal.specs.Heap.{heap_listed}
use Rattle.quetzal.specs.Printing.{chunk}

pub letters : name (codes "CMem") ≡ 0x434D656D
letters = refl

pub no_chunk_is_no_heap : heap_listed None ≡ Some (0, [])
no_chunk_is_no_heap = refl

-- the chunk of a memory of 512 bytes that differs from its story's by `go` at 0x100 and by an event
-- at 0x120
pub the_chunk_of_a_memory : chunk (name (codes "CMem"))
    (0 ∷ 0 ∷ 2 ∷ 0 ∷ 0x67 ∷ 0x6F ∷ 0 ∷ 0x20 ∷ 3 ∷ 0 ∷ 2 ∷ 1 ∷ 0 ∷ 2 ∷ 2 ∷ [])
    ≡ 0x43 ∷ 0x4D ∷ 0x65 ∷ 0x6D ∷ 0 ∷ 0 ∷ 0 ∷ 0x0F ∷ 0 ∷ 0 ∷ 2 ∷ 0 ∷ 0x67 ∷ 0x6F ∷ 0 ∷ 0x20
    ∷ 3 ∷ 0 ∷ 2 ∷ 1 ∷ 0 ∷ 2 ∷ 2 ∷ 0 ∷ []
unfolding chunk
the_chunk_of_a_memory = refl

-- What a save's chunks, runs, stack and heap are (Quetzal 1.4, "Overall structure", "Content of
-- dynamic memory"; Glulx 3.1.3, "Saving and Restoring").
use Rattle.std.specs.Prelude.{◌≡◌, ◌≢◌, ◌<◌, ◌≤◌, ◌^◌, ◌+◌, ◌==◌, ℕ, true, false, List, []}
use Rattle.std.specs.Prelude.{◌∷◌, ◌++◌, length, if◌then◌else◌, Option, Some, None, All, Ok, IfOk}
use Rattle.std.specs.Bool.{Decides}
use Rattle.std.specs.Int.RustNames.{bit_xor}
use Rattle.std.specs.List.Sorted.{IsPermutation}
use Rattle.glulx_image.specs.Header.{IsLaidOut, stack_size}
use Rattle.vm_heap.specs.declared.block.Block.{Block}
use Rattle.vm_stack.specs.Saved.{SavedStack}
use Rattle.vm_undo.specs.Runs.{runs_decoded}
use Rattle.quetzal.specs.Chunks.{are_chunks, first_named}
use Rattle.quetzal.specs.Heap.{heap_fits, heap_in, heap_listed}
use Rattle.quetzal.specs.Printing.{chunk}
use Rattle.quetzal.specs.Save.{is_stack_of}
use Rattle.quetzal.specs.declared.heap.SavedHeap.{SavedHeap}

-- a chunk's name and contents, each told in four bytes
pub record IsChunk (c : ℕ × List ℕ) : Type 0 where
  pub name : c.0 < 2 ^ 32
  pub size : length c.1 < 2 ^ 32

-- chunks one after the other
abbrev pub bytes_of_chunks : List (ℕ × List ℕ) → List ℕ
bytes_of_chunks [] = []
bytes_of_chunks (c ∷ cs) = chunk c.0 c.1 ++ bytes_of_chunks cs

-- the contents of the first of a name
abbrev pub first_contents : ℕ → List (ℕ × List ℕ) → Option (List ℕ)
first_contents name [] = None
first_contents name (c ∷ cs) = if c.0 == name then Some c.1 else first_contents name cs

-- bytes that spell chunks are read as the first of each name
pub record ReadsFirst (cs : List (ℕ × List ℕ)) : Type 0 where
  pub whole : are_chunks (length (bytes_of_chunks cs)) (bytes_of_chunks cs) ≡ true
  pub first : (name : ℕ)
      → first_named name (length (bytes_of_chunks cs)) (bytes_of_chunks cs) ≡ first_contents name cs

abbrev pub ReadsFirstOfEachName : Type 0
ReadsFirstOfEachName = (cs : List (ℕ × List ℕ)) → All IsChunk cs → ReadsFirst cs

-- a coding's pieces: n + 1 bytes stay, or one byte is another
pub data Piece : Type 0 where
  Same : ℕ → Piece
  Changed : ℕ → Piece

-- a difference isn't 0
abbrev pub IsPiece : Piece → Type 0
IsPiece (Same n) = Unit {0}
IsPiece (Changed d) = d ≢ 0

abbrev pub coding_of_pieces : List Piece → List ℕ
coding_of_pieces [] = []
coding_of_pieces (Same n ∷ ps) = 0 ∷ n ∷ coding_of_pieces ps
coding_of_pieces (Changed d ∷ ps) = d ∷ coding_of_pieces ps

-- new bytes are these pieces over the old ones, whose rest stays
abbrev pub IsMadeOfPieces : List Piece → List ℕ → List ℕ → Type 0
IsMadeOfPieces [] old new = new ≡ old
IsMadeOfPieces (Same n ∷ ps) old new =
    (front : List ℕ) × (rest : List ℕ) × (after : List ℕ) × (length front ≡ n + 1)
    × (old ≡ front ++ rest) × (new ≡ front ++ after) × IsMadeOfPieces ps rest after
IsMadeOfPieces (Changed d ∷ ps) old new =
    (byte : ℕ) × (rest : List ℕ) × (after : List ℕ)
    × (old ≡ byte ∷ rest) × (new ≡ bit_xor byte d ∷ after) × IsMadeOfPieces ps rest after

-- what pieces make of the old bytes is what their coding restores
abbrev pub RestoresPieces : Type 0
RestoresPieces =
    (ps : List Piece) (old new : List ℕ) → All IsPiece ps → IsMadeOfPieces ps old new
    → runs_decoded false old (coding_of_pieces ps) ≡ Some new

-- frames with a stub on top, no more bytes than the story's stack holds
pub record IsStackOf (image bytes : List ℕ) : Type 0 where
  pub frames : SavedStack bytes
  pub size : length bytes ≤ stack_size image

-- these are the stacks that are taken
abbrev pub TakesStacksOfFrames : Type 0
TakesStacksOfFrames =
    (image bytes : List ℕ) → IsLaidOut image
    → Decides (is_stack_of image bytes) (IsStackOf image bytes)

-- a chunk lists a heap's start and its blocks in some order, which memory of this size may have
pub record IsHeapIn (endmem size : ℕ) (chunk : Option (List ℕ)) (heap : SavedHeap) : Type 0 where
  pub blocks : List Block
  pub listed : heap_listed chunk ≡ Some (heap.start, blocks)
  pub order : IsPermutation blocks heap.blocks
  pub fits : heap_fits endmem size heap.start heap.blocks ≡ true

-- in whichever order its blocks are listed, such a heap is what is read; no other is
pub record ReadsBlocksInAnyOrder : Type 0 where
  pub any : (endmem size : ℕ) (chunk : Option (List ℕ)) (heap : SavedHeap)
      → IsHeapIn endmem size chunk heap → heap_in endmem size chunk ≡ Ok heap
  pub only : (endmem size : ℕ) (chunk : Option (List ℕ))
      → IfOk (heap_in endmem size chunk) (IsHeapIn endmem size chunk)

-- What is written of a state fits a form, and is read as that state alone.
use Rattle.std.proofs.Common.{◌≡◌, ℕ, zero, suc, ◌+◌, ◌*◌, ◌/◌, ◌%◌, ◌^◌, ◌<◌, ◌≤◌, Bool, true}
use Rattle.std.proofs.Common.{false, ◌&&◌, ◌==◌, nat_le, cond, List, [], ◌∷◌, ◌++◌, length, Some}
use Rattle.std.proofs.Common.{Ok, refl, ap, sym, subst, ◌∙◌, arith, IsTrue}
use Rattle.std.proofs.lemmas.Bool.Decides.{nat_tests}
use Rattle.std.proofs.lemmas.List.{length-append, length-take, length-drop}
use Rattle.std.proofs.lemmas.List.Sorted.{IsPermutation-refl}
use Rattle.std.proofs.lemmas.Slice.Eq.{bytes_eq-Decides}
use Rattle.std.specs.Int.{w32, to_be_bytes}
use Rattle.std.specs.Str.{bytes_eq}
use Rattle.vm_heap.specs.HeapMap.{in_order, is_heap, heap_end, block_end}
use Rattle.vm_heap.specs.declared.block.Block.{Block}
use Rattle.vm_heap.proofs.HeapLemmas.{Next, next_of, in_order-limit, is_heap-order, positive}
use Rattle.glulx_image.specs.Header.{word, IsLaidOut, extstart, endmem}
use Rattle.vm_memory.specs.MemoryMap.{MemoryMap, Origin, origin_of, ram_of}
use Rattle.vm_undo.specs.Contents.{IsMemoryOf, changes, contents, first_ram}
use Rattle.vm_undo.specs.Runs.{differences, pairs, last_run, zeros, runs_coded}
use Rattle.vm_undo.specs.SavedState.{IsHeapOver, IsSize}
use Rattle.vm_undo.specs.declared.saved.Saved.{Saved}
use Rattle.vm_undo.proofs.ContentsLemmas.{given_back}
use Rattle.vm_undo.proofs.UndoLemmas.{memory_of_image}
use Rattle.quetzal.specs.Chunks.{Pieces, parts_of}
use Rattle.quetzal.specs.Fault.{or_else}
use Rattle.quetzal.specs.Heap.{block_bytes, blocks_in, heap_fits, heap_in, heap_listed}
use Rattle.quetzal.specs.Heap.{is_without, print_heap}
use Rattle.quetzal.specs.Memory.{memory_in_chunk}
use Rattle.quetzal.specs.Printing.{chunk, heap_chunk, chunks_of}
use Rattle.quetzal.specs.Save.{rom, identity, memory_in, origin}
use Rattle.quetzal.specs.Save.{IsStateOf, canon, is_stack_of, save_in}
use Rattle.quetzal.specs.Returns.{GivesStateBack, HasRom}
use Rattle.quetzal.specs.declared.fault.SaveFault.TheVariants.{BadRuns}
use Rattle.quetzal.proofs.MemoryLemmas.{word_again}
use Rattle.quetzal.proofs.OrderLemmas.{heap_is}
use Rattle.quetzal.proofs.PrintLemmas.{reads_printed}
use Rattle.quetzal.proofs.ReadLemmas.{stacks_of_frames}

-- ---- lengths

length-pairs : (n : ℕ) → length (pairs n) ≡ 2 * n
length-pairs zero = refl
length-pairs (suc n) = let rest = length-pairs n in omega (arith, rest)

length-last_run : (n : ℕ) → length (last_run n) ≤ 2 * n
length-last_run zero = omega arith
length-last_run (suc n) = omega arith

length-zeros : (n : ℕ) → length (zeros n) ≤ 2 * n
unfolding zeros
length-zeros n =
    omega (
      arith,
      length-append (pairs (n / 256)) (last_run (n % 256)),
      length-pairs (n / 256),
      length-last_run (n % 256),
    )

pub length-coded : (n : ℕ) (ds : List ℕ) → length (runs_coded n ds) ≤ 2 * n + 2 * length ds
length-coded n [] = omega arith
length-coded n (d ∷ ds) = by (d == 0) (length-coded (n + 1) ds) (length-coded 0 ds) where
  by : (t : Bool)
      → length (runs_coded (n + 1) ds) ≤ 2 * (n + 1) + 2 * length ds
      → length (runs_coded 0 ds) ≤ 2 * 0 + 2 * length ds
      → length (cond t (runs_coded (n + 1) ds) (zeros n ++ (d ∷ runs_coded 0 ds)))
      ≤ 2 * n + 2 * length (d ∷ ds)
  by true skips goes = omega (arith, skips)
  by false skips goes =
      omega (arith, goes, length-append (zeros n) (d ∷ runs_coded 0 ds), length-zeros n)

pub length-differences : (os rs : List ℕ) → length (differences os rs) ≤ length rs
length-differences [] rs = omega arith
length-differences (o ∷ os) [] = omega arith
length-differences (o ∷ os) (r ∷ rs) = let rest = length-differences os rs in omega (arith, rest)

-- blocks in order are no more than the addresses below the limit
pub in_order-count : (from : ℕ) (bs : List Block)
    → IsTrue (in_order from bs) → from + length bs ≤ 16777216
in_order-count from [] h = omega (arith, in_order-limit from [] h)
in_order-count from (b ∷ bs) h =
    let x : Next from b bs = next_of from b bs h in
    let rest = in_order-count (block_end b) bs x.rest in omega (arith, x.above, x.filled, rest)

-- ---- the heap that is written is listed again

length-block_bytes : (bs : List Block) → length (block_bytes bs) ≡ 8 * length bs
length-block_bytes [] = refl
length-block_bytes (b ∷ bs) = let rest = length-block_bytes bs in omega (arith, rest)

blocks_again : (from : ℕ) (bs : List Block) → IsTrue (in_order from bs)
    → blocks_in (length bs) (block_bytes bs) ≡ bs
unfolding blocks_in
blocks_again from [] h = refl
blocks_again from (b ∷ bs) h =
    let x : Next from b bs = next_of from b bs h in
    let limit : block_end b ≤ 16777216 = in_order-limit (block_end b) bs x.rest in
    let one : length (b ∷ bs) ≡ suc (length bs) = omega arith in
    let first : word (block_bytes (b ∷ bs)) 0 ≡ b.at =
    word_again b.at (to_be_bytes w32 b.length ++ block_bytes bs) (omega (arith, limit)) in
    let second : word (block_bytes (b ∷ bs)) 4 ≡ b.length =
    word_again b.length (block_bytes bs) (omega (arith, limit)) in
    let rest : blocks_in (length bs) (block_bytes bs) ≡ bs = blocks_again (block_end b) bs x.rest in
    ap (λ (k : ℕ). blocks_in k (block_bytes (b ∷ bs))) one
    ∙ rw (first, second, rest) refl

pub listed_again : (start : ℕ) (bs : List Block) → start < 2 ^ 32 → IsTrue (is_heap start bs)
    → heap_listed (print_heap start bs) ≡ Some (start, bs)
listed_again start [] fits h =
    let zero-start : start ≡ 0 = grind (arith, nat_tests, h) in rw zero-start refl
listed_again start (b ∷ bs) fits h =
    let order = is_heap-order start (b ∷ bs) h in
    let count = in_order-count start (b ∷ bs) order in
    let n = length (b ∷ bs) in
    let tail = block_bytes (b ∷ bs) in
    let bytes = to_be_bytes w32 start ++ (to_be_bytes w32 n ++ tail) in
    let len : length bytes ≡ 8 + 8 * n = omega (arith, length-block_bytes (b ∷ bs)) in
    let first : word bytes 0 ≡ start = word_again start (to_be_bytes w32 n ++ tail) fits in
    let second : word bytes 4 ≡ n = word_again n tail (omega (arith, count)) in
    let some : (length bytes == 0) ≡ false = grind (arith, nat_tests, len) in
    let filled : (n == 0) ≡ false = grind (arith, nat_tests) in
    let long : nat_le 8 (length bytes) ≡ true = grind (arith, nat_tests, len) in
    let exact : (length bytes == 8 + 8 * n) ≡ true = grind (arith, nat_tests, len) in
    let with : is_without bytes ≡ false =
    no_zero (nat_le 8 (length bytes)) (word bytes 0 == 0) (word bytes 4 == 0) (rw second filled) in
    rw (some, with, long, second, exact, first, blocks_again start (b ∷ bs) order) refl where
      no_zero : (a c d : Bool) → d ≡ false → (a && (c && d)) ≡ false
      no_zero true true d e = e
      no_zero true false d e = refl
      no_zero false c d e = refl

-- ---- the state that is written is the one that is read

abbrev written_parts : List ℕ → Saved → Pieces
written_parts image s = record {
  header = identity image;
  memory = contents s.memory;
  compressed = true;
  stack = s.stack;
  heap = print_heap s.heap_start s.heap;
}

length-padding : (n : ℕ) (t : Bool) → length {A = ℕ} (cond t (0 ∷ []) []) ≤ 1
length-padding n true = omega arith
length-padding n false = omega arith

chunk-most : (name : ℕ) (contents : List ℕ) → length (chunk name contents) ≤ 9 + length contents
unfolding chunk
chunk-most name contents =
    let n = length contents in
    omega (arith, length-append {A = ℕ}, length-padding n (n % 2 == 1))

heap-most : (start : ℕ) (bs : List Block) → IsTrue (is_heap start bs)
    → length (heap_chunk (print_heap start bs)) ≤ 134217800
heap-most start [] h = omega arith
heap-most start (b ∷ bs) h =
    let count = in_order-count start (b ∷ bs) (is_heap-order start (b ∷ bs) h) in
    omega (
      arith,
      count,
      length-block_bytes (b ∷ bs),
      chunk-most 0x4D416C6C
          (to_be_bytes w32 start ++ (to_be_bytes w32 (length (b ∷ bs)) ++ block_bytes (b ∷ bs))),
    )

pub save_fits : (image : List ℕ) (s : Saved) → IsLaidOut image → IsStateOf image s
    → 4 + length (chunks_of (identity image) (contents s.memory) s.stack
    (print_heap s.heap_start s.heap))
    < 2 ^ 32
save_fits image s laid is =
    let m = s.memory in
    let coding = length-coded 0 (changes m) in
    let differ = length-differences (first_ram (origin_of m) (length m.bytes)) (ram_of m) in
    let ram = length-drop m.ramstart m.bytes in
    let limit : length m.bytes ≤ 16777216 = is.saved.saved.size.limit in
    omega (
      arith,
      length-append {A = ℕ},
      chunk-most,
      heap-most s.heap_start s.heap is.saved.saved.heap.heap,
      length-take 128 image,
      coding,
      differ,
      ram,
      limit,
      is.size,
      laid.stack_limit,
    )

-- memory of the story
pub memory_of_story : (image : List ℕ) (m : MemoryMap) → IsLaidOut image → origin_of m ≡ origin image
    → IsSize m.endmem (length m.bytes) → HasRom m → IsMemoryOf (origin image) m
memory_of_story image m laid same size kept =
    let rom-length : length (rom image) ≡ extstart image =
    omega (arith, length-take (extstart image) image, laid.ext_inside) in
    let below : length (rom image) ≤ endmem image = omega (arith, rom-length, laid.ext_below) in
    memory_of_image (origin image) m same kept
    (subst (λ (o : Origin). length o.rom ≤ o.endmem) (sym same) below) size

memory_back : (image : List ℕ) (s : Saved)
    → IsLaidOut image → IsStateOf image s → HasRom s.memory
    → memory_in image (written_parts image s) ≡ Ok s.memory
unfolding memory_in_chunk
memory_back image s laid is kept =
    ap (or_else BadRuns) (given_back (origin image) s.memory
    (memory_of_story image s.memory laid is.saved.image is.saved.saved.size kept))

fits_from : (end size start : ℕ) (bs : List Block)
    → IsHeapOver end size start bs
    → heap_fits end size start bs ≡ true
fits_from end size start [] h = h.heap
fits_from end size start (b ∷ bs) h =
    let some : 0 < start = positive start b bs h.heap in
    let page : (start % 256 == 0) ≡ true = grind (arith, nat_tests, h.page) in
    let least : nat_le end start ≡ true = (let le = h.least some in grind (arith, nat_tests, le)) in
    let ends : (size == heap_end (b ∷ bs)) ≡ true =
    (let e = h.ends some in grind (arith, nat_tests, e)) in
    let heap : is_heap start (b ∷ bs) ≡ true = h.heap in
    rw (heap, page, least, ends) refl

small_start : (start : ℕ) (bs : List Block) → IsTrue (is_heap start bs) → start < 2 ^ 32
small_start start [] h = let none : start ≡ 0 = grind (arith, nat_tests, h) in omega (arith, none)
small_start start (b ∷ bs) h =
    let limit : start ≤ 16777216 = in_order-limit start (b ∷ bs) (is_heap-order start (b ∷ bs) h) in
    omega (arith, limit)

heap_back : (image : List ℕ) (s : Saved)
    → IsStateOf image s
    → heap_in (endmem image) (length s.memory.bytes) (print_heap s.heap_start s.heap)
    ≡ Ok (record { start = s.heap_start; blocks = s.heap })
heap_back image s is =
    let end : s.memory.endmem ≡ endmem image = ap (λ (o : Origin). o.endmem) is.saved.image in
    let heap = is.saved.saved.heap.heap in
    heap_is (endmem image) (length s.memory.bytes) (print_heap s.heap_start s.heap)
    (record { start = s.heap_start; blocks = s.heap }) (record {
      blocks = s.heap;
      listed = listed_again s.heap_start s.heap (small_start s.heap_start s.heap heap) heap;
      order = IsPermutation-refl s.heap;
      fits = fits_from (endmem image) (length s.memory.bytes) s.heap_start s.heap
          (subst (λ (e : ℕ). IsHeapOver e (length s.memory.bytes) s.heap_start s.heap) end
          is.saved.saved.heap);
    })

pub state_given_back : GivesStateBack
unfolding save_in
state_given_back image s laid is kept =
    let parts : parts_of (canon image s) ≡ Ok (written_parts image s) =
    reads_printed (identity image) (contents s.memory)
    s.stack (print_heap s.heap_start s.heap) (save_fits image s laid is) in
    let own : bytes_eq (identity image) (identity image) ≡ true =
    (bytes_eq-Decides (identity image) (identity image)).1 refl in
    let memory : memory_in image (written_parts image s) ≡ Ok s.memory =
    memory_back image s laid is kept in
    let stack : is_stack_of image s.stack ≡ true =
    (stacks_of_frames image s.stack laid).1
    (record { frames = is.saved.saved.stack; size = is.size }) in
    rw (parts, own, memory, stack, heap_back image s is) refl

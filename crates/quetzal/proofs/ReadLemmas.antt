-- What is read is a state of the story.
use Rattle.std.proofs.Common.{◌≡◌, ℕ, ◌%◌, ◌≤◌, Bool, true, nat_le, List, [], ◌∷◌, length, Option}
use Rattle.std.proofs.Common.{Ok, ap, sym, subst, refl, ◌∙◌, arith}
use Rattle.std.proofs.lemmas.Bool.{and_parts}
use Rattle.std.proofs.lemmas.Bool.Decides.{nat_tests}
use Rattle.std.specs.Bool.{Decides, one_answer}
use Rattle.std.specs.Result.{IfOk}
use Rattle.glulx_image.specs.Header.{IsLaidOut, endmem, stack_size}
use Rattle.vm_heap.specs.HeapMap.{is_heap, heap_end}
use Rattle.vm_heap.specs.declared.block.Block.{Block}
use Rattle.vm_memory.specs.MemoryMap.{MemoryMap, Origin}
use Rattle.vm_stack.specs.Saved.{SavedStack}
use Rattle.vm_stack.specs.SavedTest.{is_saved_stack}
use Rattle.vm_stack.proofs.SavedTests.{saved_decided}
use Rattle.vm_undo.specs.Contents.{IsMemoryOf}
use Rattle.vm_undo.specs.SavedState.{IsHeapOver, IsSize}
use Rattle.quetzal.specs.Heap.{heap_fits, heap_in, is_placed}
use Rattle.quetzal.specs.Laws.{IsHeapIn, IsStackOf, TakesStacksOfFrames}
use Rattle.quetzal.specs.Save.{IsStateOf, is_stack_of, origin}
use Rattle.quetzal.specs.declared.heap.SavedHeap.{SavedHeap}
use Rattle.quetzal.proofs.OrderLemmas.{heap_read}

-- ---- the stack

stack_yes : (image bytes : List ℕ)
    → IsLaidOut image → is_stack_of image bytes ≡ true
    → IsStackOf image bytes
stack_yes image bytes laid e =
    let both = and_parts (nat_le (length bytes) (stack_size image)) (is_saved_stack bytes) e in
    let within : nat_le (length bytes) (stack_size image) ≡ true = both.0 in
    let size : length bytes ≤ stack_size image = grind (arith, nat_tests, within) in
    let most = laid.stack_limit in
    record { frames = (saved_decided bytes (omega (arith, size, most))).0 both.1; size = size }

stack_found : (image bytes : List ℕ)
    → IsLaidOut image → IsStackOf image bytes
    → is_stack_of image bytes ≡ true
stack_found image bytes laid s =
    let most = laid.stack_limit in
    let within = s.size in
    let size : nat_le (length bytes) (stack_size image) ≡ true = grind (arith, nat_tests, within) in
    let test : is_saved_stack bytes ≡ true =
    (saved_decided bytes (omega (arith, within, most))).1 s.frames in
    rw (size, test) refl

pub stacks_of_frames : TakesStacksOfFrames
stacks_of_frames image bytes laid = (stack_yes image bytes laid, stack_found image bytes laid)

-- what no more bytes than the story's stack holds are, by a test of frames
pub stack_tested : (image bytes : List ℕ) (t : Bool)
    → IsLaidOut image → length bytes ≤ stack_size image → Decides t (SavedStack bytes)
    → t ≡ is_stack_of image bytes
stack_tested image bytes t laid within tells =
    one_answer t (is_stack_of image bytes) tells (
      λ e. (stack_yes image bytes laid e).frames,
      λ s. stack_found image bytes laid
          (record { frames = s; size = within }),
    )

-- ---- the state

over_of : (end size start : ℕ) (bs : List Block)
    → end % 256 ≡ 0 → heap_fits end size start bs ≡ true
    → IsHeapOver end size start bs
over_of end size start [] page h =
    let none : start ≡ 0 = grind (arith, nat_tests, h) in
    rw none (record {
      heap = refl;
      page = refl;
      least = λ l. absurd (omega arith);
      ends = λ l. absurd (omega arith);
    })
over_of end size start (b ∷ bs) page h =
    let both =
    and_parts (is_heap start (b ∷ bs)) (is_placed end size start (heap_end (b ∷ bs))) h in
    let placed : is_placed end size start (heap_end (b ∷ bs)) ≡ true = both.1 in
    record {
      heap = both.0;
      page = grind (arith, nat_tests, placed);
      least = λ l. grind (arith, nat_tests, placed);
      ends = λ l. grind (arith, nat_tests, placed);
    }

pub state_of : (image bytes stack : List ℕ) (m : MemoryMap) (heap : SavedHeap)
    (chunk : Option (List ℕ)) (end size : ℕ) → IsLaidOut image
    → IsMemoryOf (origin image) m → is_stack_of image bytes ≡ true → stack ≡ bytes
    → end ≡ endmem image → size ≡ length m.bytes → heap_in end size chunk ≡ Ok heap
    → IsStateOf image
    (record { memory = m; stack = stack; heap = heap.blocks; heap_start = heap.start })
state_of image bytes stack m heap chunk end size laid of taken same end-is size-is is =
    let frames : IsStackOf image stack =
    stack_yes image stack laid (ap (is_stack_of image) same ∙ taken) in
    let its : m.endmem ≡ endmem image = ap (λ (o : Origin). o.endmem) of.image in
    let read : IsHeapIn end size chunk heap =
    subst (λ r. IfOk r (IsHeapIn end size chunk)) is (heap_read end size chunk) in
    let over : IsHeapOver end size heap.start heap.blocks =
    over_of end size heap.start heap.blocks (ap (λ n. n % 256) end-is ∙ laid.end_page) read.fits in
    record {
      saved = record {
        image = of.image;
        saved = record {
          size = subst (λ (e : ℕ). IsSize e (length m.bytes)) (sym its) of.size;
          stack = frames.frames;
          heap = subst (λ (e : ℕ). IsHeapOver e (length m.bytes) heap.start heap.blocks)
              (end-is ∙ sym its)
              (subst (λ (n : ℕ). IsHeapOver end n heap.start heap.blocks) size-is over);
        };
      };
      size = frames.size;
    }

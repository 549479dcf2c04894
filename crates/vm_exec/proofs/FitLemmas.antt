-- A machine whose heap, memory or undo list changes stays fit.
use Rattle.std.proofs.Common.{◌≡◌, ◌≤◌, ◌<◌, ℕ, ◌+◌, ◌-◌, ◌%◌, ◌⊎◌, inl, inr, true, false, nat_le}
use Rattle.std.proofs.Common.{Bool, nat_eq, cond, max, List, [], ◌∷◌, length, take, replicate}
use Rattle.std.proofs.Common.{Option, Some, None, Result, Ok, Err, IsTrue, refl, arith, ap, sym}
use Rattle.std.proofs.Common.{◌∙◌, subst}
use Rattle.std.specs.Prelude.{All, OnOk}
use Rattle.std.proofs.lemmas.List.{length-append, length-replicate, length-take}
use Rattle.std.proofs.lemmas.Grind.{common_steps}
use Rattle.vm_memory.specs.declared.fault.Trap.{Trap}
use Rattle.vm_exec.specs.Answer.{Changes}
use Rattle.vm_memory.specs.MemoryMap.{MemoryMap, Origin, KeepsMap, origin_of, resized}
use Rattle.vm_heap.specs.HeapMap.{HeapMap, is_heap, heap_end}
use Rattle.vm_heap.specs.FirstFit.{first_fit}
use Rattle.vm_heap.specs.Allocation.{malloced, start_from, freed, begins, blocks_without, heap_of}
use Rattle.vm_heap.specs.declared.block.Block.{Block}
use Rattle.vm_heap.specs.declared.fault.HeapFault.TheVariants.{BadBlock}
use Rattle.vm_heap.proofs.HeapLemmas.{heap_end-page, start-below}
use Rattle.vm_stack.specs.StackState.{StackState}
use Rattle.vm_stack.specs.Frame.{stack_loaded, in_named_frame}
use Rattle.vm_stack.specs.declared.fault.StackFault.TheVariants.{Overflow}
use Rattle.vm_stack.specs.Chain.{Chain, HasFrame, IsReady}
use Rattle.vm_stack.specs.Saved.{LinkedFrames}
use Rattle.vm_stack.proofs.SavedLemmas.{ready_saved}
use Rattle.vm_undo.specs.SavedState.{IsSize, IsHeapOver, IsSavedOf}
use Rattle.vm_undo.specs.UndoList.{UndoList, saved, without_newest}
use Rattle.vm_undo.specs.declared.saved.Saved.{Saved}
use Rattle.vm_exec.specs.Machine.{IsMapped, IsFit, IsSaving, WaitsForNoSave}
use Rattle.vm_exec.specs.declared.machine.Machine.{Machine}
use Rattle.vm_exec.specs.declared.text.Text.TheVariants.{Off}
use Rattle.vm_exec.specs.Rows.Undo.{saved_state}
use Rattle.vm_undo.proofs.ListLemmas.{before_all, saved_all, saved_origin}
use Rattle.vm_exec.specs.Rows.Heap.{memory_end}

-- a heap that starts at a page from ENDMEM on, and memory that ends where it does
over : (o : Origin) (n : ℕ) (h new : HeapMap) (states : UndoList)
    → IsMapped o n h states
    → IsTrue (is_heap new.start new.blocks)
    → heap_end new.blocks ≤ 16777216
    → new.start % 256 ≡ 0 → o.endmem ≤ new.start
    → IsMapped o (max o.endmem (heap_end new.blocks)) new states
over o n h new states m heap limit page least =
    let above : new.start ≤ heap_end new.blocks = start-below new.start new.blocks heap in
    let is : max o.endmem (heap_end new.blocks) ≡ heap_end new.blocks =
    omega (arith, above, least) in
    record {
      page = m.page;
      size = record {
        pages = rw is (heap_end-page new.blocks);
        least = omega (arith, is, above, least);
        limit = omega (arith, is, limit);
      };
      heap = record { heap = heap; page = page; least = λ p. least; ends = λ p. is };
      image = m.image;
      undo = m.undo;
    }

-- a choice that gave a block, or a value, took its first way
some_is : (t : Bool) (at x : ℕ) (a b new : HeapMap)
    → ◌≡◌ {A = Option ℕ × HeapMap} (cond t (Some at, a) (None, b)) (Some x, new) → new ≡ a
some_is true at x a b new e = sym (ap (λ (p : Option ℕ × HeapMap). p.1) e)
some_is false at x a b new e =
    let none : ◌≡◌ {A = Option ℕ} None (Some x) = ap (λ (p : Option ℕ × HeapMap). p.0) e in
    absurd cc

ok_is : {A E : Type 0} (t : Bool) (a b : A) (f : E)
    → ◌≡◌ {A = Result A E} (cond t (Ok a) (Err f)) (Ok b) → a ≡ b
ok_is true a b f e = cc
ok_is false a b f e = cc

-- where a heap starts, or would start
start-mapped : (o : Origin) (n : ℕ) (h : HeapMap) (states : UndoList)
    → IsMapped o n h states → (start_from h n % 256 ≡ 0) × (o.endmem ≤ start_from h n)
start-mapped o n h states m =
    elim (nat_eq h.start 0) as (λ t. nat_eq h.start 0 ≡ t
    → (cond t n h.start % 256 ≡ 0) × (o.endmem ≤ cond t n h.start)) [
      | true ↦ (λ e. (m.size.pages, m.size.least))
      | false ↦ (λ e. (m.heap.page, m.heap.least (grind (arith, common_steps))))
    ] refl

-- a block more
pub malloced-mapped : (o : Origin) (n size x : ℕ) (h new : HeapMap) (states : UndoList)
    → malloced h size n ≡ (Some x, new)
    → IsTrue (is_heap new.start new.blocks)
    → heap_end new.blocks ≤ 16777216
    → IsMapped o n h states → IsMapped o (max o.endmem (heap_end new.blocks)) new states
malloced-mapped o n size x h new states e heap limit m =
    let start = start_from h n in
    let at = first_fit start h.blocks size in
    let same : new.start ≡ start =
    ap (λ (h : HeapMap). h.start) (some_is (nat_le (at + size) 16777216) at x _ h new e) in
    let there = start-mapped o n h states m in
    over o n h new states m heap limit (rw same there.0) (rw same there.1)

heap_of-start : (start : ℕ) (bs : List Block)
    → ((heap_of start bs).start ≡ 0) ⊎ ((heap_of start bs).start ≡ start)
heap_of-start start [] = inl refl
heap_of-start start (b ∷ bs) = inr refl

freed-start : (h new : HeapMap) (at : ℕ)
    → freed h at ≡ Ok new
    → (new.start ≡ 0) ⊎ (new.start ≡ h.start)
freed-start h new at e =
    subst (λ (x : HeapMap). (x.start ≡ 0) ⊎ (x.start ≡ h.start))
    (ok_is (begins at h.blocks) _ new (BadBlock at) e)
    (heap_of-start h.start (blocks_without at h.blocks))

smaller : (o : Origin) (n : ℕ) (h new : HeapMap) (states : UndoList)
    → h.start ≤ 16777216 → IsTrue (is_heap new.start new.blocks)
    → IsMapped o n h states → new.start ≡ 0
    → IsMapped o (max o.endmem h.start) new states
smaller o n h new states limit heap m none =
    let size : o.endmem ≤ 16777216 = omega (arith, m.size.least, m.size.limit) in
    record {
      page = m.page;
      size = record {
        pages = omega (arith, m.page, m.heap.page);
        least = omega arith;
        limit = omega (arith, size, limit);
      };
      heap = record {
        heap = heap;
        page = rw none refl;
        least = λ p. absurd (omega (arith, p, none));
        ends = λ p. absurd (omega (arith, p, none));
      };
      image = m.image;
      undo = m.undo;
    }

same_start : (h new : HeapMap)
    → 0 < new.start → (new.start ≡ 0) ⊎ (new.start ≡ h.start)
    → new.start ≡ h.start
same_start h new p (inl e) = absurd (omega (arith, p, e))
same_start h new p (inr e) = e

-- a block less
pub freed-mapped : (o : Origin) (n at : ℕ) (h new : HeapMap) (states : UndoList)
    → freed h at ≡ Ok new
    → IsTrue (is_heap new.start new.blocks)
    → heap_end new.blocks ≤ 16777216 → h.start ≤ 16777216
    → IsMapped o n h states → IsMapped o (max o.endmem (memory_end h.start new)) new states
freed-mapped o n at h new states e heap limit below m =
    elim (nat_eq new.start 0) as (λ t. nat_eq new.start 0 ≡ t
    → IsMapped o (max o.endmem (cond t h.start (heap_end new.blocks))) new states) [
      | true ↦ (λ s. smaller o n h new states below heap m (grind (arith, common_steps)))
      | false ↦ (λ s.
          let some : 0 < new.start = grind (arith, common_steps) in
          let same : new.start ≡ h.start = same_start h new some (freed-start h new at e) in
          over o n h new states m heap limit (rw same m.heap.page)
          (rw same (m.heap.least (omega (arith, some, same)))))
    ] refl

-- no heap
pub none_over : (endmem n : ℕ) → IsHeapOver endmem n 0 []
none_over endmem n = record {
  heap = refl;
  page = refl;
  least = λ p. absurd (omega (arith, p));
  ends = λ p. absurd (omega (arith, p));
}

-- a state of the story in place of memory and heap
pub resumed-mapped : (o : Origin) (n : ℕ) (h : HeapMap) (states : UndoList) (s : Saved)
    → IsMapped o n h states → IsSavedOf o s
    → IsMapped o (length s.memory.bytes) (record { start = s.heap_start; blocks = s.heap }) states
resumed-mapped o n h states s m saved =
    let endmem : s.memory.endmem ≡ o.endmem = ap Origin.endmem saved.image in
    record {
      page = m.page;
      size = subst (λ e. IsSize e (length s.memory.bytes)) endmem saved.saved.size;
      heap =
          subst (λ e. IsHeapOver e (length s.memory.bytes) s.heap_start s.heap)
          endmem saved.saved.heap;
      image = m.image;
      undo = m.undo;
    }

-- what is saved of a machine with a stub on top
pub saved_of : (m : Machine)
    → IsMapped (origin_of m.memory) (length m.memory.bytes) m.heap m.undo
    → Chain m.stack → HasFrame m.stack → IsReady m.stack
    → IsSavedOf (origin_of m.memory) (saved_state m)
saved_of m map frames frame ready = record {
  image = refl;
  saved = record {
    size = map.size;
    stack = ready_saved m.stack frames frame ready;
    heap = map.heap;
  };
}

-- what is saved of one that waits for a save
pub saving_saved : (m : Machine) (s : Saved)
    → s ≡ saved_state m → IsSaving m
    → IsSavedOf (origin_of m.memory) s
saving_saved m s is saving =
    subst (IsSavedOf (origin_of m.memory)) (sym is)
    (saved_of m saving.map saving.frames saving.frame saving.ready)

resized-size : (m : MemoryMap) (n : ℕ) → length (resized m n).bytes ≡ n
resized-size m n =
    let front = length-take n m.bytes in
    let zeros : length (replicate {A = ℕ} (n - length m.bytes) 0) ≡ n - length m.bytes =
    length-replicate {A = ℕ} (n - length m.bytes) 0 in
    length-append (take n m.bytes) (replicate (n - length m.bytes) 0) ∙ omega (arith, front, zeros)

loaded-there : (s t : StackState) (bytes : List ℕ)
    → stack_loaded s bytes ≡ Ok t → 0 < length bytes
    → HasFrame t
loaded-there s t bytes e some =
    subst HasFrame (ok_is (nat_le (length bytes) s.limit) (in_named_frame s bytes) t Overflow e)
    some

-- a state of the story in place of memory, stack and heap
pub state-fit : (m : Machine) (s : Saved) (memory : MemoryMap) (stack : StackState)
    (heap : HeapMap) (bytes : List ℕ) (blocks : List Block)
    → bytes ≡ s.stack → blocks ≡ s.heap
    → KeepsMap s.memory memory → heap ≡ record { start = s.heap_start; blocks = blocks }
    → stack_loaded m.stack bytes ≡ Ok stack
    → (LinkedFrames bytes → Chain stack) → IsFit m
    → IsSavedOf (origin_of m.memory) s
    → IsFit (record m { memory = memory; stack = stack; heap = heap })
state-fit m s memory stack heap bytes blocks bytes_are blocks_are keeps is load chain fit saved =
    let map : IsMapped (origin_of m.memory) (length s.memory.bytes)
    (record { start = s.heap_start; blocks = s.heap }) m.undo =
    resumed-mapped (origin_of m.memory) (length m.memory.bytes) m.heap m.undo s fit.map saved in
    let origin : origin_of m.memory ≡ origin_of memory = sym saved.image ∙ keeps.origin in
    record {
      map = subst (λ o. IsMapped o (length memory.bytes) heap m.undo) origin
          (subst (λ n. IsMapped (origin_of m.memory) n heap m.undo) keeps.size
          (subst (λ h. IsMapped (origin_of m.memory) (length s.memory.bytes) h m.undo)
          (sym (is
          ∙ ap (λ (bs : List Block). record { start = s.heap_start; blocks = bs }) blocks_are))
          map));
      frames = chain (subst LinkedFrames (sym bytes_are) saved.saved.stack.linked);
      frame =
          loaded-there m.stack stack bytes load
          (subst (λ (xs : List ℕ). 0 < length xs) (sym bytes_are) saved.saved.stack.some);
      waits = fit.waits;
      still = fit.still;
    }

-- other states that undo keeps
with_states : (m : Machine) (u : UndoList)
    → IsFit m → u.origin ≡ origin_of m.memory → All (IsSavedOf (origin_of m.memory)) u.states
    → IsFit (record m { undo = u })
with_states m u fit image all = record {
  map = record {
    page = fit.map.page;
    size = fit.map.size;
    heap = fit.map.heap;
    image = image;
    undo = all;
  };
  frames = fit.frames;
  frame = fit.frame;
  waits = fit.waits;
  still = fit.still;
}

-- a state more is kept
pub kept-fit : (m : Machine) (s : Saved) (u : UndoList)
    → s ≡ saved_state m → u ≡ saved m.undo s
    → IsFit m → IsReady m.stack
    → IsFit (record m { undo = u })
kept-fit m s u is kept fit ready =
    let Is = IsSavedOf (origin_of m.memory) in
    let one : Is s = subst Is (sym is) (saved_of m fit.map fit.frames fit.frame ready) in
    with_states m u fit (ap (λ (v : UndoList). v.origin) kept ∙ saved_origin m.undo s ∙ fit.map.image)
    (subst (λ (v : UndoList). All Is v.states) (sym kept) (saved_all Is m.undo s fit.map.undo one))

-- what is saved, by its parts
pub saved_is : (m : Machine) (memory : MemoryMap) (stack : List ℕ) (heap : List Block) (start : ℕ)
    → memory ≡ m.memory → stack ≡ m.stack.bytes → heap ≡ m.heap.blocks → start ≡ m.heap.start
    → record { memory = memory; stack = stack; heap = heap; heap_start = start } ≡ saved_state m
saved_is m memory stack heap start a b c d = rw (a, b, c, d) refl

-- a state more is kept, for which memory was lent
pub lent-fit : (m : Machine) (memory : MemoryMap) (s : Saved) (u : UndoList)
    → memory ≡ m.memory → s ≡ saved_state m → u ≡ saved m.undo s
    → IsFit m → IsReady m.stack
    → IsFit (record m { memory = memory; undo = u })
lent-fit m memory s u same is kept fit ready =
    subst (λ (x : MemoryMap). IsFit (record m { memory = x; undo = u })) (sym same)
    (kept-fit m s u is kept fit ready)

-- the newest state is taken
pub taken-fit : (m : Machine) (u : UndoList)
    → u ≡ without_newest m.undo → IsFit m
    → IsFit (record m { undo = u })
taken-fit m u is fit =
    let Is = IsSavedOf (origin_of m.memory) in
    with_states m u fit (ap (λ (v : UndoList). v.origin) is ∙ fit.map.image)
    (subst (λ (v : UndoList). All Is v.states) (sym is) (before_all Is m.undo.states fit.map.undo))

-- memory that ends elsewhere
pub ended : (m new : Machine) (end n : ℕ) (r : Result (Unit {0}) Trap)
    → n ≡ max m.memory.endmem end
    → Changes (Ok (record m { memory = resized m.memory n })) new r
    → IsMapped (origin_of m.memory) (max m.memory.endmem end) m.heap m.undo
    → Chain m.stack → HasFrame m.stack
    → WaitsForNoSave m.waiting → m.text ≡ Off
    → OnOk r (IsFit new)
ended m new end n (Ok x) is e map frames frame waits still =
    let same : record m { memory = resized m.memory n } ≡ new = cc in
    subst IsFit same (record {
      map = subst (λ k. IsMapped (origin_of m.memory) k m.heap m.undo)
          (sym (resized-size m.memory n ∙ is)) map;
      frames = frames;
      frame = frame;
      waits = waits;
      still = still;
    })
ended m new end n (Err f) is e map frames frame waits still = tt

pub allocated-map : (m : Machine) (k size x end : ℕ) (answer : Option ℕ) (new : HeapMap)
    → k ≡ length m.memory.bytes
    → malloced m.heap size k ≡ (answer, new) → answer ≡ Some x
    → end ≡ heap_end new.blocks → end ≤ 16777216
    → IsTrue (is_heap new.start new.blocks) → IsFit m
    → IsMapped (origin_of m.memory) (max m.memory.endmem end) new m.undo
allocated-map m k size x end answer new is e some ends limit heap fit =
    rw ends (malloced-mapped (origin_of m.memory) (length m.memory.bytes) size x m.heap new m.undo
    (rw (is, some) at e) heap (rw ends at limit) fit.map)

pub released-map : (m : Machine) (at start end : ℕ) (new : HeapMap)
    → freed m.heap at ≡ Ok new → start ≡ m.heap.start
    → start ≤ 16777216 → end ≡ memory_end start new
    → heap_end new.blocks ≤ 16777216
    → IsTrue (is_heap new.start new.blocks) → IsFit m
    → IsMapped (origin_of m.memory) (max m.memory.endmem end) new m.undo
released-map m at start end new e is below ends limit heap fit =
    rw (ends, is) (freed-mapped (origin_of m.memory) (length m.memory.bytes) at m.heap new m.undo
    e heap limit (rw is at below) fit.map)

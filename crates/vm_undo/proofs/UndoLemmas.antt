-- The states of a list, and how they are kept.
use Rattle.std.proofs.Common.{◌≡◌, ℕ, zero, suc, ◌+◌, ◌-◌, ◌*◌, ◌<◌, ◌≤◌, true, false}
use Rattle.std.proofs.Common.{List, [], ◌∷◌, ◌++◌, length, take, refl, ap, sym, ◌∙◌, arith}
use Rattle.std.proofs.Common.{nat_le, nat_lt, Option, Some, None, inl, inr, subst}
use Rattle.std.specs.Prelude.{◌&&◌, map, slice_get, All, IsTrue}
use Rattle.std.specs.List.{sum_by}
use Rattle.std.specs.Option.{option_map}
use Rattle.std.proofs.lemmas.Bool.{cases_Bool}
use Rattle.std.proofs.lemmas.Bool.Decides.{nat_tests}
use Rattle.std.proofs.lemmas.List.{map-append, length-map, take-map, length-take}
use Rattle.std.proofs.lemmas.List.Elements.{All-append, All-cons, All-head, All-nil, All-tail}
use Rattle.std.proofs.lemmas.List.Elements.{All-take}
use Rattle.std.proofs.lemmas.List.Sums.{sum_by-cons, sum_by-take-le}
use Rattle.std.proofs.lemmas.Option.{slice_get-map}
use Rattle.vm_heap.specs.HeapMap.{is_heap}
use Rattle.vm_heap.specs.declared.block.Block.{Block}
use Rattle.vm_memory.specs.MemoryMap.{MemoryMap, Origin, KeepsRom, number_at, origin_of}
use Rattle.vm_undo.specs.SavedState.{IsHeapOver, IsSavedWithin, IsSize}
use Rattle.vm_undo.specs.Contents.{IsContents, IsMemoryOf, contents, memory_of_contents}
use Rattle.vm_undo.specs.UndoList.{UndoList, IsHeld, IsKept, KeepLimits, KeepsStates, are_within}
use Rattle.vm_undo.specs.UndoList.{before_newest, kept_of, kept_weight, memory_or_first, newest}
use Rattle.vm_undo.specs.UndoList.{saved, state_of, weight, within_limits, without_newest}
use Rattle.vm_undo.specs.declared.kept.KeptState.{KeptState}
use Rattle.vm_undo.specs.declared.saved.Saved.{Saved}
use Rattle.vm_undo.specs.declared.undo.TheConstants.{MAX_STATES, MAX_WEIGHT}
use Rattle.vm_undo.proofs.ContentsLemmas.{contents_size, given_back, has_contents_size}
use Rattle.vm_undo.proofs.LimitLemmas.{all_limits, holds_within, limits_of}

pub given : (o : Origin) (bytes : List ℕ) (is : IsContents o bytes)
    → memory_of_contents o bytes ≡ Some is.memory
given o bytes is =
    ap (memory_of_contents o) (sym is.spelled) ∙ given_back o is.memory is.is

-- a state that is kept weighs what it is kept as
pub weight_again : (o : Origin) (k : KeptState) → IsKept o k → weight (state_of o k) ≡ kept_weight k
unfolding weight state_of
weight_again o k is =
    let c = is.contents in
    let e : contents (memory_or_first o (memory_of_contents o k.contents)) ≡ k.contents =
    ap (λ (m : Option MemoryMap). contents (memory_or_first o m)) (given o k.contents c)
    ∙ c.spelled in
    ap (λ (bytes : List ℕ). length bytes + length k.stack + 8 * length k.heap) e

-- a state is what it is kept as
pub state_again : (o : Origin) (s : Saved) → IsMemoryOf o s.memory → state_of o (kept_of s) ≡ s
unfolding state_of kept_of
state_again o s is =
    ap (λ (m : Option MemoryMap). record {
      memory = memory_or_first o m;
      stack = s.stack;
      heap = s.heap;
      heap_start = s.heap_start;
    }) (given_back o s.memory is)

pub is_kept : (o : Origin) (s : Saved) → IsMemoryOf o s.memory → IsTrue (is_heap s.heap_start s.heap)
    → IsKept o (kept_of s)
unfolding kept_of
is_kept o s is heap = record {
  contents = record { memory = s.memory; is = is; spelled = refl };
  heap = heap;
}

sum_again : (o : Origin) (ks : List KeptState) → All (IsKept o) ks
    → sum_by weight (map (state_of o) ks) ≡ sum_by kept_weight ks
sum_again o [] all = refl
sum_again o (k ∷ ks) all =
    let here = weight_again o k (All-head (IsKept o) k ks all) in
    let rest = sum_again o ks (All-tail (IsKept o) k ks all) in
    omega (
      arith,
      here,
      rest,
      sum_by-cons weight (state_of o k) (map (state_of o) ks),
      sum_by-cons kept_weight k ks,
    )

pub within_again : (o : Origin) (ks : List KeptState) → All (IsKept o) ks
    → are_within weight (map (state_of o) ks) ≡ are_within kept_weight ks
within_again o ks all =
    ap (λ (n : ℕ). nat_le n MAX_STATES && nat_le (sum_by weight (map (state_of o) ks)) MAX_WEIGHT)
    (length-map ks (state_of o))
    ∙ ap (λ (n : ℕ). nat_le (length ks) MAX_STATES && nat_le n MAX_WEIGHT) (sum_again o ks all)

limits_again : (o : Origin) (ks : List KeptState) → All (IsKept o) ks
    → map (state_of o) (within_limits kept_weight ks) ≡ within_limits weight (map (state_of o) ks)
limits_again o [] all = refl
limits_again o (k ∷ ks) all =
    let same = within_again o (k ∷ ks) all in
    elim (cases_Bool (are_within kept_weight (k ∷ ks))) [
      | inl t ↦
          let u : are_within weight (map (state_of o) (k ∷ ks)) ≡ true = same ∙ t in
          rw (t, u) refl
      | inr f ↦
          let u : are_within weight (map (state_of o) (k ∷ ks)) ≡ false = same ∙ f in
          rw (f, u) (limits_again o ks (All-tail (IsKept o) k ks all))
    ]

with_one : (o : Origin) (ks : List KeptState) (k : KeptState) → All (IsKept o) ks → IsKept o k
    → All (IsKept o) (ks ++ k ∷ [])
with_one o ks k all is =
    All-append (IsKept o) ks (k ∷ []) all (All-cons (IsKept o) k [] is (All-nil (IsKept o)))

-- the states after a save
pub saved_states : (o : Origin) (ks new : List KeptState) (s : Saved)
    → All (IsKept o) ks → IsMemoryOf o s.memory → IsTrue (is_heap s.heap_start s.heap)
    → new ≡ within_limits kept_weight (ks ++ kept_of s ∷ [])
    → map (state_of o) new ≡ within_limits weight (map (state_of o) ks ++ s ∷ [])
saved_states o ks new s all is heap e =
    ap (map (state_of o)) e
    ∙ limits_again o (ks ++ kept_of s ∷ []) (with_one o ks (kept_of s) all (is_kept o s is heap))
    ∙ ap (within_limits weight) (map-append (state_of o) ks (kept_of s ∷ [])
    ∙ ap (λ (t : Saved). map (state_of o) ks ++ t ∷ []) (state_again o s is))

pub saved_keeps : (o : Origin) (ks new : List KeptState) (s : Saved)
    → KeepsStates o ks → IsMemoryOf o s.memory → IsTrue (is_heap s.heap_start s.heap)
    → new ≡ within_limits kept_weight (ks ++ kept_of s ∷ [])
    → KeepsStates o new
saved_keeps o ks new s keeps is heap e = record {
  ram = keeps.ram;
  extent = keeps.extent;
  some = keeps.some;
  limit = keeps.limit;
  all = subst (All (IsKept o)) (sym e) (all_limits (IsKept o) kept_weight (ks ++ kept_of s ∷ [])
      (with_one o ks (kept_of s) keeps.all (is_kept o s is heap)));
  within = ap (are_within kept_weight) e ∙ holds_within kept_weight (ks ++ kept_of s ∷ []);
}

-- the newest of the states, and the others
pub newest_again : (o : Origin) (ks : List KeptState)
    → newest (map (state_of o) ks) ≡ option_map (state_of o) (newest ks)
newest_again o ks =
    ap (λ (n : ℕ). slice_get (map (state_of o) ks) (n - 1)) (length-map ks (state_of o))
    ∙ slice_get-map (state_of o) ks (length ks - 1)

pub before_again : (o : Origin) (ks new : List KeptState) → new ≡ before_newest ks
    → map (state_of o) new ≡ before_newest (map (state_of o) ks)
before_again o ks new e =
    ap (map (state_of o)) e
    ∙ sym (ap (λ (n : ℕ). take (n - 1) (map (state_of o) ks)) (length-map ks (state_of o))
    ∙ take-map (state_of o) (length ks - 1) ks)

taken_within : (ks : List KeptState) (n : ℕ) → are_within kept_weight ks ≡ true
    → are_within kept_weight (take n ks) ≡ true
taken_within ks n t =
    let few : length ks ≤ MAX_STATES = grind (arith, nat_tests, t) in
    let light : sum_by kept_weight ks ≤ MAX_WEIGHT = grind (arith, nat_tests, t) in
    let a = length-take n ks in
    let b = sum_by-take-le kept_weight ks n in
    let c : length (take n ks) ≤ MAX_STATES = omega (arith, a, few) in
    let d : sum_by kept_weight (take n ks) ≤ MAX_WEIGHT = omega (arith, b, light) in
    grind (arith, nat_tests, c, d)

pub before_keeps : (o : Origin) (ks new : List KeptState) → KeepsStates o ks
    → new ≡ before_newest ks → KeepsStates o new
before_keeps o ks new keeps e = record {
  ram = keeps.ram;
  extent = keeps.extent;
  some = keeps.some;
  limit = keeps.limit;
  all = subst (All (IsKept o)) (sym e) (All-take (IsKept o) (length ks - 1) ks keeps.all);
  within = ap (are_within kept_weight) e ∙ taken_within ks (length ks - 1) keeps.within;
}

pub keep_limits : (o : Origin) (ks : List KeptState) → KeepsStates o ks
    → KeepLimits (map (state_of o) ks)
keep_limits o ks keeps =
    limits_of (map (state_of o) ks) (within_again o ks keeps.all ∙ keeps.within)

pub all_at : {X : Type 0} (P : X → Type 0) (xs : List X) (i : ℕ) (x : X) → All P xs
    → slice_get xs i ≡ Some x → P x
all_at P [] i x all e = cc
all_at P (y ∷ ys) zero x all e =
    let same : y ≡ x = cc in subst P same (All-head P y ys all)
all_at P (y ∷ ys) (suc i) x all e = all_at P ys i x (All-tail P y ys all) e

pub newest_kept : (o : Origin) (ks : List KeptState) (k : KeptState) → All (IsKept o) ks
    → newest ks ≡ Some k → IsKept o k
newest_kept o ks k all e = all_at (IsKept o) ks (length ks - 1) k all e

-- ---- the list as contracts see it

abbrev pub listed : Origin → List KeptState → UndoList
listed o ks = record { origin = o; states = map (state_of o) ks }

pub memory_of_image : (o : Origin) (m : MemoryMap) → origin_of m ≡ o
    → KeepsRom m.ramstart m.rom m.bytes → length m.rom ≤ m.endmem
    → IsSize m.endmem (length m.bytes) → IsMemoryOf o m
memory_of_image o m image rom extent size =
    subst (λ (x : Origin). IsMemoryOf x m) image (record {
      image = refl;
      rom = rom;
      extent = extent;
      size = size;
    })

pub kept_is : (s : Saved) (bytes stack : List ℕ) (heap : List Block) → bytes ≡ contents s.memory
    → stack ≡ s.stack → heap ≡ s.heap
    → record { contents = bytes; stack = stack; heap = heap; heap_start = s.heap_start } ≡ kept_of s
unfolding kept_of
kept_is s bytes stack heap e f g = rw (e, f, g) refl

pub weight_is : (s : Saved) (n : ℕ) (bytes stack : List ℕ) (heap : List Block)
    → n ≡ length bytes + length stack + 8 * length heap → bytes ≡ contents s.memory
    → stack ≡ s.stack → heap ≡ s.heap → n ≡ weight s
unfolding weight
weight_is s n bytes stack heap is e f g = is ∙ rw (e, f, g) refl

pub too_heavy : (s : Saved) (n : ℕ) → n ≡ weight s → MAX_WEIGHT < n
    → nat_lt MAX_WEIGHT (weight s) ≡ true
too_heavy s n e l = grind (arith, nat_tests, e, l)

pub not_heavy : (s : Saved) (n : ℕ) → n ≡ weight s → n ≤ MAX_WEIGHT
    → nat_lt MAX_WEIGHT (weight s) ≡ false
not_heavy s n e l = grind (arith, nat_tests, e, l)

pub saved_list : (o : Origin) (ks new : List KeptState) (k : KeptState) (s : Saved) (u : UndoList)
    → listed o ks ≡ u → KeepsStates o ks → IsMemoryOf o s.memory
    → IsTrue (is_heap s.heap_start s.heap) → k ≡ kept_of s
    → new ≡ within_limits kept_weight (ks ++ k ∷ []) → nat_lt MAX_WEIGHT (weight s) ≡ false
    → listed o new ≡ saved u s
saved_list o ks new k s u view keeps is heap e f light =
    let g = f ∙ ap (λ (x : KeptState). within_limits kept_weight (ks ++ x ∷ [])) e in
    subst (λ (v : UndoList). listed o new ≡ saved v s) view
    (rw light (ap (λ (states : List Saved). record { origin = o; states = states })
    (saved_states o ks new s keeps.all is heap g)))

pub restored : (o : Origin) (ks : List KeptState) (k j : KeptState) (bytes : List ℕ) (m : MemoryMap)
    → newest ks ≡ Some k → newest ks ≡ Some j → bytes ≡ k.contents
    → memory_of_contents o bytes ≡ Some m
    → record { memory = m; stack = j.stack; heap = j.heap; heap_start = j.heap_start }
    ≡ state_of o j
unfolding state_of
restored o ks k j bytes m e f g h =
    let same : k ≡ j = cc in
    let is : memory_of_contents o j.contents ≡ Some m =
    ap (λ (x : KeptState). memory_of_contents o x.contents) (sym same)
    ∙ ap (memory_of_contents o) (sym g) ∙ h in
    rw is refl

pub restored_list : (o : Origin) (ks : List KeptState) (k : KeptState) (s : Saved) (u : UndoList)
    → listed o ks ≡ u → newest ks ≡ Some k → s ≡ state_of o k → Some s ≡ newest u.states
restored_list o ks k s u view e f =
    ap (λ (x : Saved). Some x) f
    ∙ sym (ap (option_map (state_of o)) e) ∙ sym (newest_again o ks)
    ∙ ap (λ (v : UndoList). newest v.states) view

pub before_list : (o : Origin) (ks new : List KeptState) (u : UndoList)
    → listed o ks ≡ u → new ≡ before_newest ks → listed o new ≡ without_newest u
before_list o ks new u view e =
    subst (λ (v : UndoList). listed o new ≡ without_newest v) view
    (ap (λ (states : List Saved). record { origin = o; states = states }) (before_again o ks new e))

-- what is kept of a state that is kept
pub kept_again : (o : Origin) (k : KeptState) → IsKept o k → kept_of (state_of o k) ≡ k
unfolding kept_of state_of
kept_again o k is =
    let c = is.contents in
    ap (λ (bytes : List ℕ). record {
      contents = bytes;
      stack = k.stack;
      heap = k.heap;
      heap_start = k.heap_start;
    }) (ap (λ (m : Option MemoryMap). contents (memory_or_first o m)) (given o k.contents c)
    ∙ c.spelled)

-- ---- a state whose contents are at hand

pub kept_memory : (o : Origin) (k : KeptState) → IsKept o k → IsMemoryOf o (state_of o k).memory
unfolding state_of
kept_memory o k is =
    let c = is.contents in
    subst (λ (m : Option MemoryMap). IsMemoryOf o (memory_or_first o m)) (sym (given o k.contents c))
    c.is

pub kept_heap : (o : Origin) (k : KeptState) → IsKept o k
    → IsTrue (is_heap (state_of o k).heap_start (state_of o k).heap)
unfolding state_of
kept_heap o k is = is.heap

pub weight_of_kept : (o : Origin) (k : KeptState) (n : ℕ) (bytes stack : List ℕ) (heap : List Block)
    → IsKept o k → n ≡ length bytes + length stack + 8 * length heap → bytes ≡ k.contents
    → stack ≡ k.stack → heap ≡ k.heap → n ≡ weight (state_of o k)
weight_of_kept o k n bytes stack heap is e a b d =
    e ∙ rw (a, b, d) refl ∙ sym (weight_again o k is)

pub kept_list : (o : Origin) (ks new : List KeptState) (k : KeptState) (u : UndoList)
    → listed o ks ≡ u → KeepsStates o ks → IsKept o k
    → new ≡ within_limits kept_weight (ks ++ k ∷ []) → nat_lt MAX_WEIGHT (weight (state_of o k)) ≡ false
    → listed o new ≡ saved u (state_of o k)
kept_list o ks new k u view keeps is e light =
    saved_list o ks new k (state_of o k) u view keeps (kept_memory o k is) (kept_heap o k is)
    (sym (kept_again o k is)) e light

pub kept_keeps : (o : Origin) (ks new : List KeptState) (k : KeptState) → KeepsStates o ks
    → IsKept o k → new ≡ within_limits kept_weight (ks ++ k ∷ []) → KeepsStates o new
kept_keeps o ks new k keeps is e =
    saved_keeps o ks new (state_of o k) keeps (kept_memory o k is) (kept_heap o k is)
    (e ∙ ap (λ (x : KeptState). within_limits kept_weight (ks ++ x ∷ [])) (sym (kept_again o k is)))

-- ---- whether the states that are kept are saved states of the image

-- the size with which contents begin
told_size : (o : Origin) (k : KeptState) (is : IsKept o k)
    → number_at 4 k.contents 0 ≡ length is.contents.memory.bytes
told_size o k is =
    let m = is.contents.memory in
    let limit = is.contents.is.size.limit in
    ap (λ (bytes : List ℕ). number_at 4 bytes 0) (sym is.contents.spelled)
    ∙ contents_size m (omega (arith, limit))

of_memory : (o : Origin) (k : KeptState) (is : IsKept o k)
    → memory_or_first o (memory_of_contents o k.contents) ≡ is.contents.memory
of_memory o k is = ap (memory_or_first o) (given o k.contents is.contents)

its_endmem : (o : Origin) (k : KeptState) (is : IsKept o k) → is.contents.memory.endmem ≡ o.endmem
its_endmem o k is = ap (λ (x : Origin). x.endmem) is.contents.is.image

-- a state over this memory in place of its contents
abbrev over : KeptState → MemoryMap → Saved
over k m = record { memory = m; stack = k.stack; heap = k.heap; heap_start = k.heap_start }

pub saved_held : (o : Origin) (k : KeptState) (n : ℕ) → IsKept o k → IsHeld o.endmem n k
    → IsSavedWithin o n (state_of o k)
unfolding state_of
saved_held o k n is held =
    let m = is.contents.memory in
    let end = its_endmem o k is in
    subst (λ (x : MemoryMap). IsSavedWithin o n (over k x)) (sym (of_memory o k is)) (
      record {
        image = is.contents.is.image;
        saved = record {
          size = subst (λ (e : ℕ). IsSize e (length m.bytes)) (sym end) is.contents.is.size;
          stack = held.stack;
          heap = subst (λ (e : ℕ). IsHeapOver e (length m.bytes) k.heap_start k.heap) (sym end)
              (subst (λ (size : ℕ). IsHeapOver o.endmem size k.heap_start k.heap)
              (told_size o k is) held.heap);
        };
      },
      held.within,
    )

pub held_saved : (o : Origin) (k : KeptState) (n : ℕ) → IsKept o k
    → IsSavedWithin o n (state_of o k) → IsHeld o.endmem n k
unfolding state_of
held_saved o k n is within =
    let m = is.contents.memory in
    let end = its_endmem o k is in
    let s = subst (λ (x : MemoryMap). IsSavedWithin o n (over k x)) (of_memory o k is) within in
    record {
      sized = subst (λ (bytes : List ℕ). 4 ≤ length bytes) is.contents.spelled
          (has_contents_size m);
      stack = s.0.saved.stack;
      within = s.1;
      heap = subst (λ (size : ℕ). IsHeapOver o.endmem size k.heap_start k.heap)
          (sym (told_size o k is))
          (subst (λ (e : ℕ). IsHeapOver e (length m.bytes) k.heap_start k.heap) end s.0.saved.heap);
    }

pub all_saved : (o : Origin) (ks : List KeptState) (n : ℕ) → All (IsKept o) ks
    → All (IsHeld o.endmem n) ks → All (IsSavedWithin o n) (map (state_of o) ks)
all_saved o [] n all held = All-nil (IsSavedWithin o n)
all_saved o (k ∷ ks) n all held =
    All-cons (IsSavedWithin o n) (state_of o k) (map (state_of o) ks)
    (saved_held o k n (All-head (IsKept o) k ks all) (All-head (IsHeld o.endmem n) k ks held))
    (all_saved o ks n (All-tail (IsKept o) k ks all) (All-tail (IsHeld o.endmem n) k ks held))

pub all_held : (o : Origin) (ks : List KeptState) (n : ℕ) → All (IsKept o) ks
    → All (IsSavedWithin o n) (map (state_of o) ks) → All (IsHeld o.endmem n) ks
all_held o [] n all within = All-nil (IsHeld o.endmem n)
all_held o (k ∷ ks) n all within =
    All-cons (IsHeld o.endmem n) k ks
    (held_saved o k n (All-head (IsKept o) k ks all)
    (All-head (IsSavedWithin o n) (state_of o k) (map (state_of o) ks) within))
    (all_held o ks n (All-tail (IsKept o) k ks all)
    (All-tail (IsSavedWithin o n) (state_of o k) (map (state_of o) ks) within))

-- What is held stands among the heap's blocks, and no two of it meet.
use Rattle.std.proofs.Common.{arith, zero, suc, ◌≡◌, ◌∙◌, refl, sym, ap, subst, ℕ, ◌+◌, ◌<◌}
use Rattle.std.proofs.Common.{◌≤◌, ◌⊎◌, inl, inr, true, false, not, nat_eq, nat_lt, nat_le, cond}
use Rattle.std.proofs.Common.{List, [], ◌∷◌, ◌++◌, length, drop, Some, None, Ok, Err, IsTrue}
use Rattle.std.specs.Prelude.{filter, AllPairs}
use Rattle.std.proofs.Math.ListN.{get_or, drop_of_length-le}
use Rattle.std.proofs.lemmas.Grind.{common_steps}
use Rattle.std.proofs.lemmas.List.Kept.{AllPairs-filter}
use Rattle.std.proofs.lemmas.List.Quantifiers.{all_pairs_push}
use Rattle.vm_heap.specs.HeapMap.{HeapMap, in_order, is_heap, block_end}
use Rattle.vm_heap.specs.FirstFit.{fits, first_fit}
use Rattle.vm_heap.specs.Allocation.{with_block, blocks_without, begins, block_placed}
use Rattle.vm_heap.specs.Allocation.{malloced, freed, heap_of, start_from}
use Rattle.vm_heap.specs.History.{Holding, handed, block_given_back, holding_after_calls}
use Rattle.vm_heap.specs.History.{holding_after_call, at_first, AreApart}
use Rattle.vm_heap.specs.declared.block.Block.{Block}
use Rattle.vm_heap.specs.declared.fault.HeapFault.TheVariants.{BadBlock}
use Rattle.vm_heap.specs.declared.history.Call.{Call}
use Rattle.vm_heap.specs.declared.history.Call.TheVariants.{Malloc, Free}
use Rattle.vm_heap.proofs.HeapLemmas.{is_heap-order, in_order-without, is_heap-of, positive}
use Rattle.vm_heap.proofs.FitLemmas.{IsLeast, walk, walk-least, walk-first_fit}
use Rattle.vm_heap.proofs.FitLemmas.{first_fit-in_order, is_heap-with_block}

-- a block stands in a list
abbrev pub Has : Block → List Block → Type 0
Has h [] = ⊥
Has h (b ∷ bs) = (b ≡ h) ⊎ Has h bs

-- each of these does
abbrev pub EachIn : List Block → List Block → Type 0
EachIn bs [] = Unit {0}
EachIn bs (h ∷ hs) = Has h bs × EachIn bs hs

first_apart : (bs : List Block) (b new : Block)
    → fits (b ∷ bs) new.length new.at ≡ true → AreApart b new
first_apart bs b new f =
    elim (nat_le (block_end b) new.at) as (λ t. nat_le (block_end b) new.at ≡ t → AreApart b new) [
      | true ↦ (λ e. inl (grind (arith, common_steps)))
      | false ↦ (λ e. inr (grind (arith, common_steps)))
    ] refl

others_fit : (bs : List Block) (b new : Block)
    → fits (b ∷ bs) new.length new.at ≡ true
    → fits bs new.length new.at ≡ true
others_fit bs b new f = grind (arith, common_steps)

fits-apart : (bs : List Block) (h new : Block)
    → fits bs new.length new.at ≡ true → Has h bs
    → AreApart h new
fits-apart [] h new f m = absurd m
fits-apart (b ∷ bs) h new f (inl e) = subst (λ x. AreApart x new) e (first_apart bs b new f)
fits-apart (b ∷ bs) h new f (inr m) = fits-apart bs h new (others_fit bs b new f) m

Has-with_block : (bs : List Block) (new h : Block) → Has h bs → Has h (with_block new bs)
Has-with_block [] new h m = absurd m
Has-with_block (b ∷ bs) new h (inl e) =
    elim (nat_lt new.at b.at) as (λ t. Has h (cond t (new ∷ b ∷ bs) (b ∷ with_block new bs)))
    [ true ↦ inr (inl e) | false ↦ inl e ]
Has-with_block (b ∷ bs) new h (inr m) =
    elim (nat_lt new.at b.at) as (λ t. Has h (cond t (new ∷ b ∷ bs) (b ∷ with_block new bs)))
    [ true ↦ inr (inr m) | false ↦ inr (Has-with_block bs new h m) ]

Has-new : (bs : List Block) (new : Block) → Has new (with_block new bs)
Has-new [] new = inl refl
Has-new (b ∷ bs) new =
    elim (nat_lt new.at b.at) as (λ t. Has new (cond t (new ∷ b ∷ bs) (b ∷ with_block new bs)))
    [ true ↦ inl refl | false ↦ inr (Has-new bs new) ]

Has-without : (at : ℕ) (bs : List Block) (h : Block)
    → nat_eq h.at at ≡ false → Has h bs
    → Has h (blocks_without at bs)
Has-without at [] h e m = absurd m
Has-without at (b ∷ bs) h e (inl s) =
    let other : nat_eq b.at at ≡ false = ap (λ x. nat_eq (Block.at x) at) s ∙ e in
    subst (λ t. Has h (cond t bs (b ∷ blocks_without at bs))) (sym other) (inl s)
Has-without at (b ∷ bs) h e (inr m) =
    elim (nat_eq b.at at) as (λ t. Has h (cond t bs (b ∷ blocks_without at bs)))
    [ true ↦ m | false ↦ inr (Has-without at bs h e m) ]

EachIn-step : (bs cs held : List Block)
    → ((h : Block) → Has h bs → Has h cs) → EachIn bs held
    → EachIn cs held
EachIn-step bs cs [] f e = tt
EachIn-step bs cs (h ∷ hs) f e = (f h e.0, EachIn-step bs cs hs f e.1)

EachIn-push : (bs held : List Block) (new : Block)
    → EachIn bs held → Has new bs → EachIn bs (held ++ new ∷ [])
EachIn-push bs [] new e m = (m, tt)
EachIn-push bs (h ∷ hs) new e m = (e.0, EachIn-push bs hs new e.1 m)

EachIn-freed : (at : ℕ) (bs held : List Block)
    → EachIn bs held
    → EachIn (blocks_without at bs) (filter (λ b. not (nat_eq b.at at)) held)
EachIn-freed at bs [] e = tt
EachIn-freed at bs (h ∷ hs) e =
    elim (nat_eq h.at at) as (λ t. nat_eq h.at at ≡ t
    → EachIn (blocks_without at bs) (cond (not t) (h ∷ filter (λ b. not (nat_eq b.at at)) hs)
    (filter (λ b. not (nat_eq b.at at)) hs))) [
      | true ↦ (λ s. EachIn-freed at bs hs e.1)
      | false ↦ (λ s. (Has-without at bs h s e.0, EachIn-freed at bs hs e.1))
    ] refl

EachIn-get : (bs held : List Block) (k : ℕ) (d : Block)
    → EachIn bs held → k < length held
    → Has (get_or held k d) bs
EachIn-get bs [] k d e l = absurd (omega arith)
EachIn-get bs (h ∷ hs) zero d e l = e.0
EachIn-get bs (h ∷ hs) (suc k) d e l = EachIn-get bs hs k d e.1 (omega arith)

-- what is held is of the heap, and no two of it meet
pub record IsHolding (s : Holding) : Type 0 where
  pub heap : IsTrue (is_heap s.heap.start s.heap.blocks)
  pub inside : EachIn s.heap.blocks s.held
  pub apart : AllPairs AreApart s.held

order_from : (start end : ℕ) (bs : List Block)
    → end ≤ 16777216 → IsTrue (is_heap start bs)
    → IsTrue (in_order (cond (nat_eq start 0) end start) bs)
order_from start end [] l h =
    elim (nat_eq start 0) as (λ t. nat_eq start 0 ≡ t → IsTrue (in_order (cond t end start) [])) [
      | true ↦ (λ e. let f : nat_le end 16777216 ≡ true = grind (arith, common_steps) in rw f refl)
      | false ↦ (λ e. absurd (grind (arith, common_steps)))
    ] refl
order_from start end (b ∷ bs) l h =
    elim (nat_eq start 0)
    as (λ t. nat_eq start 0 ≡ t → IsTrue (in_order (cond t end start) (b ∷ bs))) [
      | true ↦ (λ e. absurd (grind (arith, common_steps)))
      | false ↦ (λ e. is_heap-order start (b ∷ bs) h)
    ] refl

positive_from : (start end : ℕ) → 0 < end → 0 < cond (nat_eq start 0) end start
positive_from start end l =
    elim (nat_eq start 0) as (λ t. nat_eq start 0 ≡ t → 0 < cond t end start)
    [ true ↦ (λ e. l) | false ↦ (λ e. grind (arith, common_steps)) ] refl

handing : (h : HeapMap) (held : List Block) (start size at : ℕ)
    → IsHolding (record { heap = h; held = held }) → 0 < size
    → 0 < start → IsTrue (in_order start h.blocks)
    → at ≡ first_fit start h.blocks size → at + size ≤ 16777216
    → IsHolding (handed size held (
      Some at,
      record { start = start; blocks = with_block (record { at = at; length = size }) h.blocks },
    ))
handing h held start size at i s p o e u =
    let new : Block = record { at = at; length = size } in
    let w : IsLeast h.blocks size start (walk size start h.blocks) =
    walk-least h.blocks size start s o in
    let l : IsLeast h.blocks size start at =
    subst (IsLeast h.blocks size start) (sym (e ∙ walk-first_fit h.blocks size start s o)) w in
    record {
      heap =
          is_heap-with_block start new h.blocks p
          (first_fit-in_order h.blocks start size at s o e u);
      inside = EachIn-push (with_block new h.blocks) held new
          (EachIn-step h.blocks (with_block new h.blocks) held
          (Has-with_block h.blocks new) i.inside) (Has-new h.blocks new);
      apart =
          all_pairs_push AreApart held new i.apart (λ k d g. fits-apart h.blocks
          (get_or held k d) new l.fitting (EachIn-get h.blocks held k d i.inside g));
    }

-- a block more is held
malloc_keeps : (h : HeapMap) (held : List Block) (start size at : ℕ)
    → IsHolding (record { heap = h; held = held }) → 0 < size
    → 0 < start → IsTrue (in_order start h.blocks)
    → at ≡ first_fit start h.blocks size
    → IsHolding (handed size held (block_placed h start size at))
malloc_keeps h held start size at i s p o e =
    elim (nat_le (at + size) 16777216) as (λ t. nat_le (at + size) 16777216 ≡ t
    → IsHolding (handed size held (cond t (
      Some at,
      record { start = start; blocks = with_block (record { at = at; length = size }) h.blocks },
    ) (None, h)))) [
      | true ↦ (λ u. handing h held start size at i s p o e (grind (arith, common_steps)))
      | false ↦ (λ u. i)
    ] refl

malloc_step : (end size : ℕ) (s : Holding)
    → 0 < end → end ≤ 16777216 → IsHolding s
    → IsHolding (cond (nat_eq size 0) s (handed size s.held (malloced s.heap size end)))
malloc_step end size s p l i =
    elim (nat_eq size 0) as (λ t.
    nat_eq size 0 ≡ t → IsHolding (cond t s (handed size s.held (malloced s.heap size end)))) [
      | true ↦ (λ e. i)
      | false ↦
          (λ e. malloc_keeps s.heap s.held (start_from s.heap end) size
          (first_fit (start_from s.heap end) s.heap.blocks size) i (grind (arith, common_steps))
          (positive_from s.heap.start end p)
          (order_from s.heap.start end s.heap.blocks l i.heap) refl)
    ] refl

begun : (at start : ℕ) (bs : List Block)
    → IsTrue (is_heap start bs) → begins at bs ≡ true
    → 0 < start
begun at start [] h e = cc
begun at start (b ∷ bs) h e = positive start b bs h

blocks_of : (start : ℕ) (bs : List Block) → bs ≡ (heap_of start bs).blocks
blocks_of start [] = refl
blocks_of start (b ∷ bs) = refl

-- a block less is held
free_keeps : (s : Holding) (at : ℕ)
    → IsHolding s
    → IsHolding (block_given_back at s (freed s.heap at))
free_keeps s at i =
    elim (begins at s.heap.blocks) as (λ t. begins at s.heap.blocks ≡ t
    → IsHolding (block_given_back at s
    (cond t (Ok (heap_of s.heap.start (blocks_without at s.heap.blocks))) (Err (BadBlock at))))) [
      | true ↦ (λ e. record {
        heap =
            is_heap-of s.heap.start (blocks_without at s.heap.blocks)
            (begun at s.heap.start s.heap.blocks i.heap e)
            (in_order-without at s.heap.blocks s.heap.start
            (is_heap-order s.heap.start s.heap.blocks i.heap));
        inside =
            subst (λ bs. EachIn bs (filter (λ b. not (nat_eq b.at at)) s.held))
            (blocks_of s.heap.start (blocks_without at s.heap.blocks))
            (EachIn-freed at s.heap.blocks s.held i.inside);
        apart = AllPairs-filter AreApart (λ b. not (nat_eq b.at at)) s.held i.apart;
      })
      | false ↦ (λ e. i)
    ] refl

call_keeps : (end : ℕ) (call : Call) (s : Holding)
    → 0 < end → end ≤ 16777216 → IsHolding s
    → IsHolding (holding_after_call end call s)
call_keeps end (Malloc size) s p l i = malloc_step end size s p l i
call_keeps end (Free at) s p l i = free_keeps s at i

-- whatever the calls
pub after-keeps : (end : ℕ) (calls : List Call) (s : Holding)
    → 0 < end → end ≤ 16777216 → IsHolding s
    → IsHolding (holding_after_calls end calls s)
after-keeps end [] s p l i = i
after-keeps end (call ∷ calls) s p l i =
    after-keeps end calls (holding_after_call end call s) p l (call_keeps end call s p l i)

pub new-holding : IsHolding at_first
new-holding = record { heap = refl; inside = tt; apart = λ i j d g l. absurd (omega arith) }

nothing_left : (calls : List Call) (i : ℕ) → length calls ≤ i → drop i calls ≡ []
nothing_left calls i l = drop_of_length-le calls l

-- past the last call all were played
pub played_all : (end : ℕ) (calls : List Call) (i : ℕ) (s t : Holding)
    → length calls ≤ i
    → holding_after_calls end calls s ≡ holding_after_calls end (drop i calls) t
    → (holding_after_calls end calls s).held ≡ t.held
played_all end calls i s t l e =
    ap (λ x. Holding.held x) (e ∙ ap (λ xs. holding_after_calls end xs t) (nothing_left calls i l))

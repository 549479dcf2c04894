-- Blocks in order, and an edit of them.
use Rattle.std.proofs.Common.{arith, zero, suc, ◌-◌, ◌≡◌, ◌∙◌, refl, sym, ap, subst, ℕ, ◌+◌}
use Rattle.std.proofs.Common.{◌%◌, ◌<◌, ◌≤◌, Bool, true, false, ◌&&◌, nat_eq, nat_lt, nat_le}
use Rattle.std.proofs.Common.{cond, List, [], ◌∷◌, length, drop, drop-cons, add-one, IsTrue}
use Rattle.std.proofs.Math.ListN.{get_or}
use Rattle.std.proofs.lemmas.Grind.{common_steps, get_or_tail}
use Rattle.vm_heap.specs.HeapMap.{in_order, is_heap, block_end, heap_end, rounded_up}
use Rattle.vm_heap.specs.Allocation.{blocks_without, heap_of}
use Rattle.vm_heap.specs.declared.block.Block.{Block}

abbrev pub none : Block
none = record { at = 0; length = 0 }

-- what is left of blocks at a place before their end
pub left_one : (bs : List Block) (i : ℕ)
    → i < length bs
    → drop i bs ≡ get_or bs i none ∷ drop (i + 1) bs
left_one bs i h = rw (add-one, drop-cons bs i none) refl

-- the first block of some in order, and the rest
pub record Next (from : ℕ) (b : Block) (bs : List Block) : Type 0 where
  pub above : from ≤ b.at
  pub filled : 0 < b.length
  pub rest : IsTrue (in_order (block_end b) bs)

pub next_of : (from : ℕ) (b : Block) (bs : List Block)
    → IsTrue (in_order from (b ∷ bs)) → Next from b bs
next_of from b bs h = record {
  above = grind (arith, common_steps);
  filled = grind (arith, common_steps);
  rest = grind (arith, common_steps);
}

-- blocks in order end before the limit
pub in_order-limit : (from : ℕ) (bs : List Block) → IsTrue (in_order from bs) → from ≤ 16777216
in_order-limit from [] h = grind (arith, common_steps)
in_order-limit from (b ∷ bs) h =
    let n : Next from b bs = next_of from b bs h in
    let e : block_end b ≤ 16777216 = in_order-limit (block_end b) bs n.rest in omega arith

-- so does each of them
pub in_order-end : (bs : List Block) (i from : ℕ)
    → i < length bs → IsTrue (in_order from (drop i bs))
    → block_end (get_or bs i none) ≤ 16777216
in_order-end bs i from l h =
    let n : Next from (get_or bs i none) (drop (i + 1) bs) =
    next_of _ _ _ (subst (λ xs. IsTrue (in_order from xs)) (left_one bs i l) h) in
    in_order-limit (block_end (get_or bs i none)) (drop (i + 1) bs) n.rest

-- blocks that are in order from an address are so from a lower one
pub in_order-lower : (bs : List Block) (from to : ℕ)
    → from ≤ to → IsTrue (in_order to bs)
    → IsTrue (in_order from bs)
in_order-lower [] from to l h = grind (arith, common_steps)
in_order-lower (b ∷ bs) from to l h = grind (arith, common_steps)

both : (x y z : Bool) → x ≡ true → y ≡ true → IsTrue z → IsTrue (x && y && z)
both x y z e f h = rw e (rw f h)

pub in_order-cons : (b : Block) (bs : List Block) (from : ℕ)
    → from ≤ b.at → 0 < b.length
    → IsTrue (in_order (block_end b) bs)
    → IsTrue (in_order from (b ∷ bs))
in_order-cons b bs from l g h =
    let e : nat_le from b.at ≡ true = grind (arith, common_steps) in
    let f : nat_lt 0 b.length ≡ true = grind (arith, common_steps) in
    both (nat_le from b.at) (nat_lt 0 b.length) (in_order (block_end b) bs) e f h

-- without a block the others are in order
pub in_order-without : (at : ℕ) (bs : List Block) (from : ℕ)
    → IsTrue (in_order from bs)
    → IsTrue (in_order from (blocks_without at bs))
in_order-without at [] from h = h
in_order-without at (b ∷ bs) from h =
    let n : Next from b bs = next_of from b bs h in
    elim (nat_eq b.at at) as (λ t. IsTrue (in_order from (cond t bs (b ∷ blocks_without at bs)))) [
      | true ↦ in_order-lower bs from (block_end b) (omega (arith, n.above)) n.rest
      | false ↦
          in_order-cons b (blocks_without at bs) from n.above n.filled
          (in_order-without at bs (block_end b) n.rest)
    ]

pub is_heap-order : (start : ℕ) (bs : List Block)
    → IsTrue (is_heap start bs) → IsTrue (in_order start bs)
is_heap-order start [] h = grind (arith, common_steps)
is_heap-order start (b ∷ bs) h = grind (arith, common_steps)

pub is_heap-of : (start : ℕ) (bs : List Block)
    → 0 < start → IsTrue (in_order start bs)
    → IsTrue (is_heap (heap_of start bs).start (heap_of start bs).blocks)
is_heap-of start [] l h = refl
is_heap-of start (b ∷ bs) l h =
    let e : nat_lt 0 start ≡ true = grind (arith, common_steps) in rw e h

pub positive : (start : ℕ) (b : Block) (bs : List Block)
    → IsTrue (is_heap start (b ∷ bs)) → 0 < start
positive start b bs h = grind (arith, common_steps)

pub filled_heap : (start : ℕ) (bs : List Block)
    → 0 < start → 0 < length bs → IsTrue (in_order start bs)
    → IsTrue (is_heap start bs)
filled_heap start [] l g h = absurd (omega arith)
filled_heap start (b ∷ bs) l g h =
    let e : nat_lt 0 start ≡ true = grind (arith, common_steps) in rw e h

-- without a block but not without all it is a heap
pub is_heap-without : (at start : ℕ) (bs items : List Block)
    → IsTrue (is_heap start bs) → items ≡ blocks_without at bs
    → 0 < length items → IsTrue (is_heap start items)
is_heap-without at start [] items h e l =
    absurd (let z : length items ≡ 0 = ap length e in omega arith)
is_heap-without at start (b ∷ bs) items h e l =
    filled_heap start items (positive start b bs h) l
    (subst (λ xs. IsTrue (in_order start xs)) (sym e)
    (in_order-without at (b ∷ bs) start (is_heap-order start (b ∷ bs) h)))

-- each of some blocks in order ends before the limit
pub in_order-get : (bs : List Block) (i from : ℕ)
    → i < length bs → IsTrue (in_order from bs)
    → block_end (get_or bs i none) ≤ 16777216
in_order-get [] i from l h = absurd (omega arith)
in_order-get (b ∷ bs) zero from l h =
    let n : Next from b bs = next_of from b bs h in in_order-limit (block_end b) bs n.rest
in_order-get (b ∷ bs) (suc i) from l h =
    let n : Next from b bs = next_of from b bs h in
    in_order-get bs i (block_end b) (omega arith) n.rest

pub heap_end-last : (bs : List Block)
    → 0 < length bs
    → heap_end bs ≡ rounded_up (block_end (get_or bs (length bs - 1) none))
heap_end-last [] l = absurd (omega arith)
heap_end-last (b ∷ []) l = refl
heap_end-last (b ∷ c ∷ bs) l =
    let shorter : length (b ∷ c ∷ bs) - 1 - 1 ≡ length (c ∷ bs) - 1 = omega arith in
    let same : get_or (b ∷ c ∷ bs) (length (b ∷ c ∷ bs) - 1) none
    ≡ get_or (c ∷ bs) (length (c ∷ bs) - 1) none =
    get_or_tail b (c ∷ bs) (length (b ∷ c ∷ bs) - 1) none (omega arith)
    ∙ ap (λ i. get_or (c ∷ bs) i none) shorter in
    heap_end-last (c ∷ bs) (omega arith) ∙ ap (λ x. rounded_up (block_end x)) (sym same)

pub last_end : (start : ℕ) (bs : List Block)
    → IsTrue (is_heap start bs) → 0 < length bs
    → block_end (get_or bs (length bs - 1) none) ≤ 16777216
last_end start bs h l =
    in_order-get bs (length bs - 1) start (omega arith) (is_heap-order start bs h)

pub rounded_within : (n : ℕ) → n ≤ 16777216 → rounded_up n ≤ 16777216
rounded_within n l = omega (arith, l)

pub rounded_page : (n : ℕ) → rounded_up n % 256 ≡ 0
rounded_page n = omega arith

pub rounded_above : (n : ℕ) → n ≤ rounded_up n
rounded_above n = omega arith

-- where memory ends is a page, and not before the heap's start
pub heap_end-page : (bs : List Block) → heap_end bs % 256 ≡ 0
heap_end-page [] = refl
heap_end-page (b ∷ []) = rounded_page (block_end b)
heap_end-page (b ∷ c ∷ bs) = heap_end-page (c ∷ bs)

in_order-below : (from : ℕ) (b : Block) (bs : List Block)
    → IsTrue (in_order from (b ∷ bs)) → from ≤ heap_end (b ∷ bs)
in_order-below from b [] h =
    let n : Next from b [] = next_of from b [] h in
    let r : block_end b ≤ rounded_up (block_end b) = rounded_above (block_end b) in
    omega (arith, n.above, r)
in_order-below from b (c ∷ bs) h =
    let n : Next from b (c ∷ bs) = next_of from b (c ∷ bs) h in
    let r : block_end b ≤ heap_end (c ∷ bs) = in_order-below (block_end b) c bs n.rest in
    omega (arith, n.above, r)

pub start-below : (start : ℕ) (bs : List Block) → IsTrue (is_heap start bs) → start ≤ heap_end bs
start-below start [] h = grind (arith, common_steps)
start-below start (b ∷ bs) h = in_order-below start b bs (is_heap-order start (b ∷ bs) h)

pub start_within : (start : ℕ) (bs : List Block) → IsTrue (is_heap start bs) → start ≤ 16777216
start_within start [] h = grind (arith, common_steps)
start_within start (b ∷ bs) h = in_order-limit start (b ∷ bs) (is_heap-order start (b ∷ bs) h)

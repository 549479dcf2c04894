-- Blocks by their addresses, none of them empty or over another, have one order alone.
use Rattle.std.proofs.Common.{◌≡◌, ℕ, zero, suc, ◌+◌, ◌<◌, ◌≤◌, Bool, true, false, ◌&&◌, nat_lt}
use Rattle.std.proofs.Common.{nat_le, cond, List, [], ◌∷◌, length, Option, Some, None, Result, Ok}
use Rattle.std.proofs.Common.{Err, refl, ap, sym, subst, ◌∙◌, arith, IsTrue}
use Rattle.std.proofs.Math.ListN.{get_or}
use Rattle.std.proofs.lemmas.Bool.{and_parts}
use Rattle.std.proofs.lemmas.Bool.Decides.{nat_tests}
use Rattle.std.proofs.lemmas.List.Sorted.{IsNonDecreasingBy-drop}
use Rattle.std.proofs.lemmas.List.Sorted.{IsNonDecreasingBy-from_all_adjacent, IsPermutation-refl}
use Rattle.std.proofs.lemmas.List.Sorted.{sum_by-IsPermutation, length_permutation}
use Rattle.std.proofs.lemmas.List.Sorted.{IsPermutation-trans, IsPermutation-sym}
use Rattle.std.proofs.lemmas.List.Sorted.{IsPermutation-cons, IsPermutation-middle}
use Rattle.std.proofs.lemmas.List.Sums.{sum_by-cons}
use Rattle.std.specs.List.{sum_by}
use Rattle.std.specs.List.Sorted.{IsNonDecreasingBy, IsPermutation}
use Rattle.std.specs.Result.{IfOk}
use Rattle.vm_heap.specs.Allocation.{with_block}
use Rattle.vm_heap.specs.HeapMap.{in_order, is_heap, block_end, heap_end}
use Rattle.vm_heap.specs.declared.block.Block.{Block}
use Rattle.vm_heap.proofs.HeapLemmas.{none, Next, next_of, in_order-lower, is_heap-order}
use Rattle.vm_memory.specs.Chaining.{◌>>=◌}
use Rattle.quetzal.specs.Fault.{or_else}
use Rattle.quetzal.specs.Heap.{by_address, heap_fits, heap_in, heap_listed, heap_of, is_placed}
use Rattle.quetzal.specs.Laws.{IsHeapIn, ReadsBlocksInAnyOrder}
use Rattle.quetzal.specs.declared.fault.SaveFault.{SaveFault}
use Rattle.quetzal.specs.declared.fault.SaveFault.TheVariants.{BadHeap}
use Rattle.quetzal.specs.declared.heap.SavedHeap.{SavedHeap}

-- what the blocks have in all
abbrev total : (Block → ℕ) → List Block → ℕ
total f [] = 0
total f (b ∷ bs) = f b + total f bs

total-sum : (f : Block → ℕ) (bs : List Block) → sum_by f bs ≡ total f bs
total-sum f [] = refl
total-sum f (b ∷ bs) = sum_by-cons f b bs ∙ ap (λ n. f b + n) (total-sum f bs)

-- one for a block at or before an address, its length, and one for a block before it
abbrev counted : ℕ → Block → ℕ
counted n x = cond (nat_le x.at n) 1 0

abbrev measured : ℕ → Block → ℕ
measured n x = cond (nat_le x.at n) x.length 0

abbrev earlier : ℕ → Block → ℕ
earlier n x = cond (nat_lt x.at n) 1 0

-- in order from an address on, behind which no block has any
none_from : (f : Block → ℕ) (from : ℕ) (bs : List Block)
    → ((b : Block) → from ≤ b.at → f b ≡ 0) → IsTrue (in_order from bs)
    → total f bs ≡ 0
none_from f from [] nothing h = refl
none_from f from (b ∷ bs) nothing h =
    let x : Next from b bs = next_of from b bs h in
    let here = nothing b x.above in
    let rest =
    none_from f (block_end b) bs (λ c le. nothing c (omega (arith, x.above, le))) x.rest in
    omega (arith, here, rest)

-- blocks whose addresses don't fall, the first of them behind n
none_before : (n : ℕ) (bs : List Block)
    → IsNonDecreasingBy (λ b. b.at) bs
    → (0 < length bs → n < (get_or bs 0 none).at)
    → total (counted n) bs ≡ 0
none_before n [] up first = refl
none_before n (b ∷ bs) up first =
    let here : n < b.at = first (omega arith) in
    let above : nat_le b.at n ≡ false = grind (arith, nat_tests, here) in
    let next : 0 < length bs → n < (get_or bs 0 none).at =
    λ some. (let far : b.at ≤ (get_or bs 0 none).at = up 0 1 none (omega arith) (omega arith) in
    omega arith) in
    let rest = none_before n bs (IsNonDecreasingBy-drop (λ b. b.at) 1 (b ∷ bs) up) next in
    rw above (omega (arith, rest))

unmeasured_by : (n : ℕ) (b : Block) (bs : List Block) (t : Bool) → nat_le b.at n ≡ t
    → total (counted n) (b ∷ bs) ≡ 0 → (total (counted n) bs ≡ 0 → total (measured n) bs ≡ 0)
    → total (measured n) (b ∷ bs) ≡ 0
unmeasured_by n b bs true is e rest =
    absurd (let more : 1 + total (counted n) bs ≡ 0 = rw is at e in omega arith)
unmeasured_by n b bs false is e rest =
    let less : 0 + total (counted n) bs ≡ 0 = rw is at e in
    let least = rest (omega arith) in
    rw is (omega (arith, least))

-- where none is counted none has a length
unmeasured : (n : ℕ) (bs : List Block) → total (counted n) bs ≡ 0 → total (measured n) bs ≡ 0
unmeasured n [] e = refl
unmeasured n (b ∷ bs) e = unmeasured_by n b bs (nat_le b.at n) refl e (unmeasured n bs)

-- the same total whatever is counted
abbrev Alike : List Block → List Block → Type 0
Alike s t = (f : Block → ℕ) → total f s ≡ total f t

same_head : (from : ℕ) (c b : Block) (cs bs : List Block) → IsNonDecreasingBy (λ b. b.at) (c ∷ cs)
    → Alike (c ∷ cs) (b ∷ bs) → IsTrue (in_order from (b ∷ bs)) → c ≡ b
same_head from c b cs bs up alike h =
    let x : Next from b bs = next_of from b bs h in
    let behind : (d : Block) → block_end b ≤ d.at → nat_le d.at b.at ≡ false =
    λ d le. grind (arith, nat_tests, le, x.filled) in
    let later : (d : Block) → block_end b ≤ d.at → nat_lt d.at b.at ≡ false =
    λ d le. grind (arith, nat_tests, le) in
    let self : nat_le b.at b.at ≡ true = grind (arith, nat_tests) in
    let not-before : nat_lt b.at b.at ≡ false = grind (arith, nat_tests) in
    let one : total (counted b.at) (c ∷ cs) ≡ 1 =
    alike (counted b.at)
    ∙ rw (self, none_from (counted b.at) (block_end b) bs (λ d le. rw (behind d le) refl) x.rest)
    refl in
    let none-less : total (earlier b.at) (c ∷ cs) ≡ 0 =
    alike (earlier b.at)
    ∙ rw (
      not-before,
      none_from (earlier b.at) (block_end b) bs (λ d le. rw (later d le) refl) x.rest,
    ) refl in
    let long : total (measured b.at) (c ∷ cs) ≡ b.length =
    alike (measured b.at)
    ∙ rw (self, none_from (measured b.at) (block_end b) bs (λ d le. rw (behind d le) refl) x.rest)
    (omega arith) in
    let least : b.at ≤ c.at = low (nat_lt c.at b.at) refl none-less in
    let most : c.at ≤ b.at = high (nat_le c.at b.at) refl one in
    let at-is : c.at ≡ b.at = omega arith in
    let is : nat_le c.at b.at ≡ true = grind (arith, nat_tests, at-is) in
    let rest : total (counted b.at) cs ≡ 0 =
    (let whole : 1 + total (counted b.at) cs ≡ 1 = rw is at one in omega arith) in
    let length-is : c.length ≡ b.length =
    (let whole : c.length + total (measured b.at) cs ≡ b.length = rw is at long in
    let unmeasured-rest : total (measured b.at) cs ≡ 0 = unmeasured b.at cs rest in omega arith) in
    rw (sym at-is, sym length-is) refl where
      low : (t : Bool) → nat_lt c.at b.at ≡ t → total (earlier b.at) (c ∷ cs) ≡ 0 → b.at ≤ c.at
      low true is e =
          absurd (let whole : 1 + total (earlier b.at) cs ≡ 0 = rw is at e in omega arith)
      low false is e = grind (arith, nat_tests, is)

      high : (t : Bool) → nat_le c.at b.at ≡ t → total (counted b.at) (c ∷ cs) ≡ 1 → c.at ≤ b.at
      high true is e = grind (arith, nat_tests, is)
      high false is e = absurd (
          let far : b.at < c.at = grind (arith, nat_tests, is) in
          let zero-all : total (counted b.at) (c ∷ cs) ≡ 0 =
          none_before b.at (c ∷ cs) up (λ some. far) in
          omega arith)

same_alike : (from : ℕ) (s t : List Block) → length s ≡ length t → IsNonDecreasingBy (λ b. b.at) s
    → Alike s t → IsTrue (in_order from t) → s ≡ t
same_alike from [] [] len up alike h = refl
same_alike from [] (b ∷ bs) len up alike h = absurd (omega (arith, len))
same_alike from (c ∷ cs) [] len up alike h = absurd (omega (arith, len))
same_alike from (c ∷ cs) (b ∷ bs) len up alike h =
    let head : c ≡ b = same_head from c b cs bs up alike h in
    let x : Next from b bs = next_of from b bs h in
    let rest : Alike cs bs = λ f. (let whole : f c + total f cs ≡ f b + total f bs = alike f in
    let same : f c ≡ f b = ap f head in omega arith) in
    let tail : cs ≡ bs =
    same_alike (block_end b) cs bs (omega (arith, len))
    (IsNonDecreasingBy-drop (λ b. b.at) 1 (c ∷ cs) up) rest x.rest in
    rw (head, tail) refl

pub same_order : (from : ℕ) (s t : List Block) → IsNonDecreasingBy (λ b. b.at) s → IsPermutation t s
    → IsTrue (in_order from t) → s ≡ t
same_order from s t up order h =
    same_alike from s t (length_permutation t s order) up
    (λ f. sym (total-sum f s) ∙ sum_by-IsPermutation f t s order ∙ total-sum f t) h

pub fits-filled : (endmem size start : ℕ) (bs : List Block)
    → 0 < length bs → is_heap start bs ≡ true
    → heap_fits endmem size start bs ≡ is_placed endmem size start (heap_end bs)
fits-filled endmem size start [] some h = absurd (omega arith)
fits-filled endmem size start (b ∷ bs) some h =
    ap (λ t. t && is_placed endmem size start (heap_end (b ∷ bs))) h

pub fits-order : (endmem size start : ℕ) (bs : List Block) → heap_fits endmem size start bs ≡ true
    → IsTrue (in_order 0 bs)
fits-order endmem size start [] h = refl
fits-order endmem size start (b ∷ bs) h =
    let heap : is_heap start (b ∷ bs) ≡ true = (and_parts _ _ h).0 in
    in_order-lower (b ∷ bs) 0 start (omega arith) (is_heap-order start (b ∷ bs) heap)

-- blocks that fit are these, where these are the same and rise
only_order : (endmem size start : ℕ) (pairs blocks s : List Block)
    → IsNonDecreasingBy (λ b. b.at) s → IsPermutation pairs s
    → IsPermutation pairs blocks → heap_fits endmem size start blocks ≡ true
    → s ≡ blocks
only_order endmem size start pairs blocks s up order same fits =
    same_order 0 s blocks up
    (IsPermutation-trans blocks pairs s (IsPermutation-sym pairs blocks same) order)
    (fits-order endmem size start blocks fits)

-- ---- blocks by their addresses

-- addresses that don't fall, from n on
abbrev Up : ℕ → List Block → Type 0
Up n [] = Unit {0}
Up n (b ∷ bs) = (n ≤ b.at) × Up b.at bs

put-up : (n : ℕ) (x b : Block) (bs : List Block) (t : Bool)
    → nat_lt x.at b.at ≡ t → n ≤ x.at → n ≤ b.at → Up b.at bs
    → (b.at ≤ x.at → Up b.at (with_block x bs)) → Up n (cond t (x ∷ b ∷ bs) (b ∷ with_block x bs))
put-up n x b bs true is le here u rest = (le, (grind (arith, nat_tests, is), u))
put-up n x b bs false is le here u rest = (here, rest (grind (arith, nat_tests, is)))

with_block-up : (n : ℕ) (x : Block) (bs : List Block) → n ≤ x.at → Up n bs → Up n (with_block x bs)
with_block-up n x [] le u = (le, tt)
with_block-up n x (b ∷ bs) le u =
    put-up n x b bs (nat_lt x.at b.at) refl le u.0 u.1 (λ far. with_block-up b.at x bs far u.1)

by_address-up : (bs : List Block) → Up 0 (by_address bs)
by_address-up [] = tt
by_address-up (b ∷ bs) = with_block-up 0 b (by_address bs) (omega arith) (by_address-up bs)

adjacent : (n : ℕ) (bs : List Block) → Up n bs → (k : ℕ) (d : Block) → k + 1 < length bs
    → (get_or bs k d).at ≤ (get_or bs (k + 1) d).at
adjacent n [] u k d lt = absurd (omega arith)
adjacent n (b ∷ []) u k d lt = absurd (omega arith)
adjacent n (b ∷ c ∷ bs) u zero d lt = u.1.0
adjacent n (b ∷ c ∷ bs) u (suc k) d lt =
    let moved : suc k + 1 ≡ suc (k + 1) = omega arith in
    subst (λ i. (get_or (c ∷ bs) k d).at ≤ (get_or (b ∷ c ∷ bs) i d).at) (sym moved)
    (adjacent b.at (c ∷ bs) u.1 k d (omega (arith, lt)))

by_address-rises : (bs : List Block) → IsNonDecreasingBy (λ b. b.at) (by_address bs)
by_address-rises bs =
    IsNonDecreasingBy-from_all_adjacent (λ b. b.at) (by_address bs)
    (adjacent 0 (by_address bs) (by_address-up bs))

put-order : (x b : Block) (bs : List Block) (t : Bool) → IsPermutation (x ∷ bs) (with_block x bs)
    → IsPermutation (x ∷ b ∷ bs) (cond t (x ∷ b ∷ bs) (b ∷ with_block x bs))
put-order x b bs true rest = IsPermutation-refl (x ∷ b ∷ bs)
put-order x b bs false rest =
    IsPermutation-trans (x ∷ b ∷ bs) (b ∷ x ∷ bs) (b ∷ with_block x bs)
    (IsPermutation-middle (x ∷ []) b bs) (IsPermutation-cons b (x ∷ bs) (with_block x bs) rest)

with_block-order : (x : Block) (bs : List Block) → IsPermutation (x ∷ bs) (with_block x bs)
with_block-order x [] = IsPermutation-refl (x ∷ [])
with_block-order x (b ∷ bs) = put-order x b bs (nat_lt x.at b.at) (with_block-order x bs)

by_address-order : (bs : List Block) → IsPermutation bs (by_address bs)
by_address-order [] = IsPermutation-refl []
by_address-order (b ∷ bs) =
    IsPermutation-trans (b ∷ bs) (b ∷ by_address bs) (with_block b (by_address bs))
    (IsPermutation-cons b bs (by_address bs) (by_address-order bs))
    (with_block-order b (by_address bs))

-- ---- the heap

-- blocks that rise are the heap of the listed ones, or both are none
pub one_heap : (endmem size start : ℕ) (pairs s : List Block)
    → IsNonDecreasingBy (λ b. b.at) s → IsPermutation pairs s
    → heap_of endmem size start (by_address pairs) ≡ heap_of endmem size start s
one_heap endmem size start pairs s up order =
    by (heap_fits endmem size start (by_address pairs)) (heap_fits endmem size start s) refl refl
  where
    by : (t u : Bool) → heap_fits endmem size start (by_address pairs) ≡ t
        → heap_fits endmem size start s ≡ u
        → heap_of endmem size start (by_address pairs) ≡ heap_of endmem size start s
    by true u is-t is-u =
        ap (heap_of endmem size start)
        (sym (only_order endmem size start pairs (by_address pairs) s up order
        (by_address-order pairs) is-t))
    by false true is-t is-u =
        ap (heap_of endmem size start)
        (only_order endmem size start pairs s (by_address pairs) (by_address-rises pairs)
        (by_address-order pairs) order is-u)
    by false false is-t is-u = rw (is-t, is-u) refl

pub heap_is : (endmem size : ℕ) (chunk : Option (List ℕ)) (heap : SavedHeap)
    → IsHeapIn endmem size chunk heap → heap_in endmem size chunk ≡ Ok heap
heap_is endmem size chunk heap h =
    let same : by_address h.blocks ≡ heap.blocks =
    only_order endmem size heap.start h.blocks heap.blocks (by_address h.blocks)
    (by_address-rises h.blocks) (by_address-order h.blocks) h.order h.fits in
    rw (h.listed, same, h.fits) refl

pub heap_read : (endmem size : ℕ) (chunk : Option (List ℕ))
    → IfOk (heap_in endmem size chunk) (IsHeapIn endmem size chunk)
heap_read endmem size chunk = by (heap_listed chunk) refl
  where
    fit : (start : ℕ) (blocks : List Block) (t : Bool)
        → heap_listed chunk ≡ Some (start, blocks)
        → heap_fits endmem size start (by_address blocks) ≡ t
        → IfOk (cond {A = Result SavedHeap SaveFault} t
        (Ok (record { start = start; blocks = by_address blocks })) (Err BadHeap))
        (IsHeapIn endmem size chunk)
    fit start blocks true listed fits = record {
      blocks = blocks;
      listed = listed;
      order = by_address-order blocks;
      fits = fits;
    }
    fit start blocks false listed fits = tt

    by : (l : Option (ℕ × List Block)) → heap_listed chunk ≡ l
        → IfOk (or_else BadHeap l >>= (λ l. heap_of endmem size l.0 (by_address l.1)))
        (IsHeapIn endmem size chunk)
    by None is = tt
    by (Some l) is = fit l.0 l.1 (heap_fits endmem size l.0 (by_address l.1)) is refl

pub reads_in_any_order : ReadsBlocksInAnyOrder
reads_in_any_order = record { any = heap_is; only = heap_read }

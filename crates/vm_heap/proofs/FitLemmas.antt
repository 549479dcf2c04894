-- The walk along the blocks finds the least address.
use Rattle.std.proofs.Common.{arith, zero, suc, drop, length, ◌≡◌, ◌∙◌, refl, sym}
use Rattle.std.proofs.Common.{ap, subst, ℕ, ◌+◌, ◌-◌, ◌<◌, ◌≤◌, Bool, true, false}
use Rattle.std.proofs.Common.{◌&&◌, ◌||◌, nat_lt, nat_le, cond, List, [], ◌∷◌, IsTrue}
use Rattle.std.proofs.lemmas.Grind.{common_steps}
use Rattle.vm_heap.specs.HeapMap.{in_order, block_end, is_heap}
use Rattle.vm_heap.specs.FirstFit.{fits, least_from, first_fit}
use Rattle.vm_heap.specs.declared.block.Block.{Block}
use Rattle.vm_heap.proofs.HeapLemmas.{none, left_one, Next, next_of}
use Rattle.vm_heap.proofs.HeapLemmas.{in_order-cons, in_order-limit, filled_heap}
use Rattle.vm_heap.specs.Allocation.{with_block}
use Rattle.std.proofs.Math.ListN.{get_or, drop_of_length-le}
use Rattle.std.proofs.lemmas.Bool.{and_right}

-- the address where the walk stops
abbrev pub walk : ℕ → ℕ → List Block → ℕ
walk size from [] = from
walk size from (b ∷ bs) = cond (nat_le (from + size) b.at) from (walk size (block_end b) bs)

-- blocks in order from behind a block don't meet it
pub fits-below : (bs : List Block) (size at from : ℕ)
    → IsTrue (in_order from bs) → at + size ≤ from
    → fits bs size at ≡ true
fits-below [] size at from h l = refl
fits-below (b ∷ bs) size at from h l =
    let n : Next from b bs = next_of from b bs h in
    let e : fits bs size at ≡ true = fits-below bs size at (block_end b) n.rest (omega arith) in
    let f : nat_le (at + size) b.at ≡ true = grind (arith, common_steps) in
    rw f (rw e refl)

-- a block that fits, and none below that does
pub record IsLeast (bs : List Block) (size from at : ℕ) : Type 0 where
  pub from_on : from ≤ at
  pub limit : at ≤ 16777216
  pub fitting : fits bs size at ≡ true
  pub least : (a : ℕ) → from ≤ a → a < at → fits bs size a ≡ false

at_once : (bs : List Block) (b : Block) (size from : ℕ)
    → 0 < size → Next from b bs → from ≤ 16777216
    → nat_le (from + size) b.at ≡ true
    → IsLeast (b ∷ bs) size from from
at_once bs b size from s n l e = record {
  from_on = omega arith;
  limit = l;
  fitting =
      let below : from + size ≤ block_end b = grind (arith, common_steps) in
      let rest : fits bs size from ≡ true = fits-below bs size from (block_end b) n.rest below in
      rw e (rw rest refl);
  least = λ a g u. absurd (omega arith);
}

both_false : (x y z : Bool) → x ≡ false → y ≡ false → ((x || y) && z) ≡ false
both_false x y z e f = rw e (rw f refl)

right_true : (x y z : Bool) → y ≡ true → z ≡ true → ((x || y) && z) ≡ true
right_true true y z e f = f
right_true false y z e f = rw e f

further : (bs : List Block) (b : Block) (size from w : ℕ)
    → Next from b bs → nat_le (from + size) b.at ≡ false
    → IsLeast bs size (block_end b) w
    → IsLeast (b ∷ bs) size from w
further bs b size from w n e r = record {
  from_on = omega (arith, n.above, r.from_on);
  limit = r.limit;
  fitting =
      let behind : nat_le (block_end b) w ≡ true = grind (arith, common_steps, r.from_on) in
      right_true (nat_le (w + size) b.at) (nat_le (block_end b) w)
      (fits bs size w) behind r.fitting;
  least = λ a g u.
      let over : b.at < from + size = grind (arith, common_steps) in
      elim (nat_le (block_end b) a)
      as (λ t. nat_le (block_end b) a ≡ t → fits (b ∷ bs) size a ≡ false) [
        | true ↦ (λ f.
            let up : block_end b ≤ a = grind (arith, common_steps) in
            and_right (nat_le (a + size) b.at || nat_le (block_end b) a) (fits bs size a)
            (r.least a up u))
        | false ↦ (λ f.
            let meets : nat_le (a + size) b.at ≡ false = grind (arith, common_steps) in
            both_false (nat_le (a + size) b.at) (nat_le (block_end b) a) (fits bs size a) meets f)
      ] refl;
}

pub walk-least : (bs : List Block) (size from : ℕ)
    → 0 < size → IsTrue (in_order from bs)
    → IsLeast bs size from (walk size from bs)
walk-least [] size from s h = record {
  from_on = omega arith;
  limit = in_order-limit from [] h;
  fitting = refl;
  least = λ a g u. absurd (omega arith);
}
walk-least (b ∷ bs) size from s h =
    let n : Next from b bs = next_of from b bs h in
    elim (nat_le (from + size) b.at) as (λ t. nat_le (from + size) b.at ≡ t
    → IsLeast (b ∷ bs) size from (cond t from (walk size (block_end b) bs))) [
      | true ↦ (λ e. at_once bs b size from s n (in_order-limit from (b ∷ bs) h) e)
      | false ↦
          (λ e. further bs b size from (walk size (block_end b) bs) n e
          (walk-least bs size (block_end b) s n.rest))
    ] refl

bool_clash : true ≡ false → ⊥
bool_clash e = cc

here : (test : ℕ → Bool) (n a : ℕ)
    → n ≤ a → test n ≡ true
    → ((i : ℕ) → n ≤ i → i < a → test i ≡ false) → n ≡ a
here test n a g p f = elim (nat_lt n a) as (λ t. nat_lt n a ≡ t → n ≡ a) [
  | true ↦
      (λ e. let l : n < a = grind (arith, common_steps) in
      absurd (bool_clash (sym p ∙ f n (omega arith) l)))
  | false ↦ (λ e. grind (arith, common_steps))
] refl

above : (test : ℕ → Bool) (n a : ℕ) → n ≤ a → test n ≡ false → test a ≡ true → suc n ≤ a
above test n a g p e = elim (nat_lt n a) as (λ t. nat_lt n a ≡ t → suc n ≤ a) [
  | true ↦ (λ l. grind (arith, common_steps))
  | false ↦
      (λ l. let same : n ≡ a = grind (arith, common_steps) in
      absurd (bool_clash (sym e ∙ ap test (sym same) ∙ p)))
] refl

-- the least number that passes
pub least_from-is : (test : ℕ → Bool) (n k a : ℕ)
    → n ≤ a → a < n + k → test a ≡ true
    → ((i : ℕ) → n ≤ i → i < a → test i ≡ false)
    → least_from test n k ≡ a
unfolding least_from
least_from-is test n zero a g u e f = absurd (omega arith)
least_from-is test n (suc k) a g u e f =
    elim (test n) as (λ t. test n ≡ t → cond t n (least_from test (suc n) k) ≡ a) [
      | true ↦ (λ p. here test n a g p f)
      | false ↦
          (λ p. least_from-is test (suc n) k a (above test n a g p e) (omega arith) e
          (λ i l m. f i (omega arith) m))
    ] refl

-- so the walk's end is the first fit
pub walk-first_fit : (bs : List Block) (size from : ℕ)
    → 0 < size → IsTrue (in_order from bs)
    → first_fit from bs size ≡ walk size from bs
walk-first_fit bs size from s h =
    let w : IsLeast bs size from (walk size from bs) = walk-least bs size from s h in
    least_from-is (fits bs size) from (16777216 + 1 - from) (walk size from bs) w.from_on
    (omega (arith, w.from_on, w.limit)) w.fitting w.least

nothing_left : (bs : List Block) (i : ℕ) → length bs ≤ i → drop i bs ≡ []
nothing_left bs i l = drop_of_length-le bs l

-- the walk stops at the first block behind which there is room, or at the end
pub walk-stops : (bs : List Block) (i size from : ℕ)
    → i < length bs → from + size ≤ (get_or bs i none).at
    → walk size from (drop i bs) ≡ from
walk-stops bs i size from l g =
    let e : nat_le (from + size) (get_or bs i none).at ≡ true = grind (arith, common_steps) in
    ap (walk size from) (left_one bs i l)
    ∙ ap (λ t. cond t from (walk size (block_end (get_or bs i none)) (drop (i + 1) bs))) e

pub walk-ends : (bs : List Block) (i size from : ℕ)
    → length bs ≤ i → walk size from (drop i bs) ≡ from
walk-ends bs i size from l = ap (walk size from) (nothing_left bs i l)

before : {from : ℕ} (bs : List Block) (b new : Block)
    → Next from b bs → fits (b ∷ bs) new.length new.at ≡ true
    → nat_lt new.at b.at ≡ true → block_end new ≤ b.at
before bs b new n f e = grind (arith, common_steps)

after : (bs : List Block) (b new : Block)
    → 0 < new.length → fits (b ∷ bs) new.length new.at ≡ true
    → nat_lt new.at b.at ≡ false → block_end b ≤ new.at
after bs b new g f e = grind (arith, common_steps)

others : (bs : List Block) (b new : Block)
    → fits (b ∷ bs) new.length new.at ≡ true
    → fits bs new.length new.at ≡ true
others bs b new f = grind (arith, common_steps)

-- a block that fits among some in order keeps them so
pub in_order-with_block : (bs : List Block) (new : Block) (from : ℕ)
    → IsTrue (in_order from bs) → from ≤ new.at → 0 < new.length
    → block_end new ≤ 16777216
    → fits bs new.length new.at ≡ true
    → IsTrue (in_order from (with_block new bs))
in_order-with_block [] new from h l g u f =
    in_order-cons new [] from l g
    (let e : nat_le (block_end new) 16777216 ≡ true = grind (arith, common_steps) in rw e refl)
in_order-with_block (b ∷ bs) new from h l g u f =
    let n : Next from b bs = next_of from b bs h in
    elim (nat_lt new.at b.at) as (λ t.
    nat_lt new.at b.at ≡ t
    → IsTrue (in_order from (cond t (new ∷ b ∷ bs) (b ∷ with_block new bs)))) [
      | true ↦ (λ e.
          let apart : block_end new ≤ b.at = before bs b new n f e in
          in_order-cons new (b ∷ bs) from l g
          (in_order-cons b bs (block_end new) apart n.filled n.rest))
      | false ↦ (λ e.
          let behind : block_end b ≤ new.at = after bs b new g f e in
          in_order-cons b (with_block new bs) from n.above n.filled
          (in_order-with_block bs new (block_end b) n.rest behind g u (others bs b new f)))
    ] refl

-- a block at the first fit keeps blocks in order
pub first_fit-in_order : (bs : List Block) (from size at : ℕ)
    → 0 < size → IsTrue (in_order from bs)
    → at ≡ first_fit from bs size → at + size ≤ 16777216
    → IsTrue (in_order from (with_block (record { at = at; length = size }) bs))
first_fit-in_order bs from size at s h e u =
    let w : IsLeast bs size from (walk size from bs) = walk-least bs size from s h in
    let same : walk size from bs ≡ at = sym (e ∙ walk-first_fit bs size from s h) in
    let l : IsLeast bs size from at = subst (IsLeast bs size from) same w in
    in_order-with_block bs (record { at = at; length = size }) from h l.from_on s u l.fitting

-- with a block it is a heap
pub is_heap-with_block : (start : ℕ) (new : Block) (bs : List Block)
    → 0 < start → IsTrue (in_order start (with_block new bs))
    → IsTrue (is_heap start (with_block new bs))
is_heap-with_block start new [] l h = filled_heap start (new ∷ []) l (omega arith) h
is_heap-with_block start new (b ∷ bs) l h =
    elim (nat_lt new.at b.at)
    as (λ t. IsTrue (in_order start (cond t (new ∷ b ∷ bs) (b ∷ with_block new bs)))
    → IsTrue (is_heap start (cond t (new ∷ b ∷ bs) (b ∷ with_block new bs)))) [
      | true ↦ (λ g. filled_heap start (new ∷ b ∷ bs) l (omega arith) g)
      | false ↦ (λ g. filled_heap start (b ∷ with_block new bs) l (omega arith) g)
    ] h

-- The steps of a binary search.
use Rattle.std.proofs.Common.{arith, suc, ◌≡◌, ◌≢◌, ◌∙◌, refl, sym, ap, ℕ, ◌+◌, ◌*◌, ◌^◌, ◌<◌, ◌≤◌}
use Rattle.std.proofs.Common.{true, false, nat_eq, nat_lt, Some, None, Result, Ok}
use Rattle.std.proofs.lemmas.Grind.{common_steps, pow_more}
use Rattle.std.proofs.lemmas.Nat.{mul-le}
use Rattle.std.proofs.Math.Pow.{pow_mono}
use Rattle.std.specs.declared.cmp.Ordering.{Ordering}
use Rattle.std.specs.declared.cmp.Ordering.TheVariants.{Less, Equal, Greater}
use Rattle.vm_memory.specs.MemoryMap.{MemoryMap}
use Rattle.vm_memory.specs.declared.fault.MemFault.{MemFault}
use Rattle.vm_search.specs.Key.{compared}
use Rattle.vm_search.specs.Ending.{Ending, ending, failure, at_structure}
use Rattle.vm_search.specs.Linear.{structure_at, found_at}
use Rattle.vm_search.specs.Binary.{middle, half, interval_at, ends_at_interval, binary_ends}
use Rattle.vm_search.specs.declared.query.Query.{Query}
use Rattle.vm_search.specs.declared.binary_search.Interval.{Interval}
use Rattle.vm_search.proofs.EndingLemmas.{AllLookMore, at_structure-looked}

pub binary_ends-empty : (m : MemoryMap) (q : Query) (n : ℕ) (i : Interval) → interval_at m q n ≡ i
    → i.low ≡ i.high → binary_ends m q n ≡ Some (ending n (Ok (failure q)))
binary_ends-empty m q n i p e =
    ap (ends_at_interval m q n) p
    ∙ (let t : nat_eq i.low i.high ≡ true = grind (arith, common_steps) in rw t refl)

in_middle : (m : MemoryMap) (q : Query) (n : ℕ) (i : Interval) → i.low ≢ i.high
    → ends_at_interval m q n i ≡ at_structure (n + 1) (found_at q (middle i)) (failure q) false
    (compared m q (structure_at q (middle i)))
in_middle m q n i d = let t : nat_eq i.low i.high ≡ false = grind (arith, common_steps) in rw t refl

pub binary_ends-structure : (m : MemoryMap) (q : Query) (n : ℕ) (i : Interval)
    (r : Result Ordering MemFault) → interval_at m q n ≡ i → i.low ≢ i.high
    → compared m q (structure_at q (middle i)) ≡ r
    → binary_ends m q n ≡ at_structure (n + 1) (found_at q (middle i)) (failure q) false r
binary_ends-structure m q n i r p d e =
    ap (ends_at_interval m q n) p ∙ in_middle m q n i d
    ∙ ap (at_structure (n + 1) (found_at q (middle i)) (failure q) false) e

pub goes_on : (looked found failed : ℕ) (order : Ordering) → order ≢ Equal
    → at_structure looked found failed false (Ok order) ≡ None
goes_on looked found failed Less d = refl
goes_on looked found failed Equal d = absurd (d refl)
goes_on looked found failed Greater d = refl

pub interval_at-next : (m : MemoryMap) (q : Query) (n : ℕ) (i : Interval) (order : Ordering)
    → interval_at m q n ≡ i → compared m q (structure_at q (middle i)) ≡ Ok order
    → interval_at m q (n + 1) ≡ half i (Ok order)
unfolding interval_at
interval_at-next m q n i order p e =
    let one : n + 1 ≡ suc n = omega arith in
    ap (interval_at m q) one ∙ ap (λ x. half x (compared m q (structure_at q (middle x)))) p
    ∙ ap (half i) e

looked_of : (looked : ℕ) (answer : Result ℕ MemFault) (x : Ending)
    → Some (ending looked answer) ≡ Some x → x.looked ≡ looked
looked_of looked answer x e = cc

-- none but the halvings from here on are left
pub binary-look_more : (m : MemoryMap) (q : Query) (n : ℕ) (i : Interval) → interval_at m q n ≡ i
    → i.low ≢ i.high → AllLookMore (binary_ends m q) n n
binary-look_more m q n i p d = λ j l x s.
    elim (nat_eq (interval_at m q j).low (interval_at m q j).high) as
    (λ t. nat_eq (interval_at m q j).low (interval_at m q j).high ≡ t → n < x.looked) [
      | true ↦ (λ f.
          let z : (interval_at m q j).low ≡ (interval_at m q j).high =
          grind (arith, common_steps) in
          let k : x.looked ≡ j =
          looked_of j (Ok (failure q)) x (sym (binary_ends-empty m q j (interval_at m q j) refl z)
          ∙ s) in
          let b : j ≢ n = λ same. d
          (ap (λ y. Interval.low y) (sym p ∙ sym (ap (interval_at m q) same)) ∙ z
          ∙ ap (λ y. Interval.high y) (ap (interval_at m q) same ∙ p)) in
          omega arith)
      | false ↦ (λ f.
          let e : (interval_at m q j).low ≢ (interval_at m q j).high =
          grind (arith, common_steps) in
          let k : x.looked ≡ j + 1 =
          at_structure-looked (j + 1) (found_at q (middle (interval_at m q j))) (failure q) false
          (compared m q (structure_at q (middle (interval_at m q j)))) x
          (sym (in_middle m q j (interval_at m q j) e) ∙ s) in
          omega arith)
    ] refl

turned : (a p : ℕ) → a * (p * 2) ≡ a * 2 * p
turned a p = grind (arith, common_steps)

-- each look halves the interval
pub narrower : (w w' n c : ℕ) → w' * 2 ≤ w → w * 2 ^ n ≤ c → w' * 2 ^ (n + 1) ≤ c
narrower w w' n c h l =
    let e : 2 ^ (n + 1) ≡ 2 ^ n * 2 = pow_more 2 n in
    let f : w' * 2 * 2 ^ n ≤ w * 2 ^ n = mul-le (w' * 2) (2 ^ n) w (2 ^ n) h (omega arith) in
    let g : w' * (2 ^ n * 2) ≡ w' * 2 * 2 ^ n = turned w' (2 ^ n) in
    let k : w' * 2 ^ (n + 1) ≡ w' * (2 ^ n * 2) = ap (λ x. w' * x) e in
    omega arith

-- so a look costs a binary digit of the count
pub a_digit : (w n c : ℕ) → 0 < w → w * 2 ^ n ≤ c → 2 ^ (n + 1) ≤ 2 * c + 1
a_digit w n c p l =
    let e : 2 ^ (n + 1) ≡ 2 ^ n * 2 = pow_more 2 n in
    let f : 1 * 2 ^ n ≤ w * 2 ^ n = mul-le 1 (2 ^ n) w (2 ^ n) p (omega arith) in
    omega arith

-- and there are few
pub few : (n c : ℕ) → 2 ^ n ≤ 2 * c + 1 → c < 4294967296 → n < 4294967296
few n c l b = elim (nat_lt n 34) as (λ t. nat_lt n 34 ≡ t → n < 4294967296) [
  | true ↦ (λ e. grind (arith, common_steps))
  | false ↦ (λ e.
      let g : 34 ≤ n = grind (arith, common_steps) in
      let p : 2 ^ 34 ≤ 2 ^ n = pow_mono g in
      absurd (omega arith))
] refl

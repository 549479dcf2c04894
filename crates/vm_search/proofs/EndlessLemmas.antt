-- A search that goes on for 2^32 steps goes on for ever.
use Rattle.std.proofs.Common.{◌≡◌, ◌∙◌, inl, inr, ℕ, zero, suc, ◌+◌, ◌-◌, ◌*◌, ◌%◌, ◌<◌, ◌≤◌}
use Rattle.std.proofs.Common.{◌==◌, ◌&&◌, not, nat_le, nat_lt, Bool, true, false, cond, List}
use Rattle.std.proofs.Common.{[], ◌∷◌, length, Option, Some, None, Result, Ok, Err, refl, sym, ap}
use Rattle.std.proofs.Common.{subst, arith}
use Rattle.std.proofs.Math.Dec.{eqb}
use Rattle.std.proofs.Math.Nat.{add-mod, mod-mod, mod-lt}
use Rattle.std.proofs.lemmas.Bool.{eq-eqb, eqb-true, leb-true, ne_eqb, or_cases}
use Rattle.std.proofs.lemmas.Nat.{mul-mod}
use Rattle.std.proofs.lemmas.Map.Steps.{length-le_from_distinct_below}
use Rattle.std.specs.List.{AllByRecursion, IsDistinct, list_any}
use Rattle.std.specs.declared.cmp.Ordering.TheVariants.{Less, Equal, Greater}
use Rattle.std.specs.declared.cmp.Ordering.{Ordering}
use Rattle.vm_memory.specs.MemoryMap.{MemoryMap, number_at}
use Rattle.vm_memory.specs.Access.{read}
use Rattle.vm_memory.specs.declared.fault.MemFault.{MemFault}
use Rattle.vm_memory.specs.declared.fault.MemFault.TheVariants.{BadRead}
use Rattle.vm_search.specs.Key.{compared, ends_at_zero, is_zero}
use Rattle.vm_search.specs.Ending.{Ending, ending, failure, at_structure, first_ending, or_next}
use Rattle.vm_search.specs.Linear.{found_at, is_past, linear_ends, at_index, structure_at}
use Rattle.vm_search.specs.Linked.{linked_ends, ends_at, next_link, or_at_link, chain_place}
use Rattle.vm_search.specs.Laws.{IsEndless, EndsSoonOrNever}
use Rattle.vm_search.specs.declared.query.Query.{Query}
use Rattle.vm_search.proofs.LawLemmas.{First, first, past_ends, linkable}

nothing : (o rest : Option Ending) → or_next o rest ≡ None → (o ≡ None) × (rest ≡ None)
nothing (Some e) rest h = absurd cc
nothing None rest h = (refl, h)

one_of : (ends : ℕ → Option Ending) (n j : ℕ) (b : Bool) → nat_lt n j ≡ b → n ≤ j → ends n ≡ None
    → (suc n ≤ j → ends j ≡ None) → ends j ≡ None
one_of ends n j true t l e f = f (grind (arith, t))
one_of ends n j false t l e f = let same : n ≡ j =
    grind (arith, t, l) in subst (λ (i : ℕ). ends i ≡ None) same e

-- no step of those that were looked at ends
none_among : (ends : ℕ → Option Ending) (n k : ℕ) → first_ending ends n k ≡ None → (j : ℕ) → n ≤ j
    → j < n + k → ends j ≡ None
unfolding first_ending
none_among ends n zero h j l g = absurd (omega (arith, l, g))
none_among ends n (suc k) h j l g =
    let p = nothing (ends n) (first_ending ends (suc n) k) h in
    one_of ends n j (nat_lt n j) refl l p.0
    (λ m. none_among ends (suc n) k p.1 j m (omega (arith, g)))

-- whether a look ends doesn't hang on its number
stays : (looked found failed looked' found' failed' : ℕ) (last : Bool)
    (r : Result Ordering MemFault)
    → at_structure looked found failed last r ≡ None
    → at_structure looked' found' failed' last r ≡ None
stays looked found failed looked' found' failed' last (Err f) h = absurd cc
stays looked found failed looked' found' failed' last (Ok Equal) h = absurd cc
stays looked found failed looked' found' failed' true (Ok Less) h = absurd cc
stays looked found failed looked' found' failed' true (Ok Greater) h = absurd cc
stays looked found failed looked' found' failed' false (Ok Less) h = refl
stays looked found failed looked' found' failed' false (Ok Greater) h = refl

-- ---- a table: 2^32 structures further the same one stands

again : (q : Query) (k : ℕ) → structure_at q (k % 4294967296) ≡ structure_at q k
again q k =
    let s = q.struct_size in
    let a : k % 4294967296 * s % 4294967296 ≡ k * s % 4294967296 =
    mul-mod (k % 4294967296) s 4294967296
    ∙ (ap (λ (x : ℕ). x * (s % 4294967296) % 4294967296) (mod-mod k 4294967296)
    ∙ sym (mul-mod k s 4294967296)) in
    add-mod q.start (k % 4294967296 * s) 4294967296
    ∙ (ap (λ (x : ℕ). (q.start % 4294967296 + x) % 4294967296) a
    ∙ sym (add-mod q.start (k * s) 4294967296))

limitless : (b c d : Bool) → c ≡ true → (b && c) ≡ false → (b && d) ≡ false
limitless true c d e h = absurd cc
limitless false c d e h = refl

no_end : (b : Bool) (x : Ending) (o : Option Ending) → b ≡ false → o ≡ None
    → cond b (Some x) o ≡ None
no_end b x o e h = rw (e, h) refl

pub linear_endless : (m : MemoryMap) (q : Query) → q.count < 4294967296
    → IsEndless (linear_ends m q)
linear_endless m q c h k =
    let r : ℕ = k % 4294967296 in
    let l : r < 4294967296 = mod-lt k (omega arith) in
    let limit = past_ends (is_past q q.count) (ending q.count (Ok (failure q)))
    (at_index m q q.count)
    (none_among (linear_ends m q) 0 4294967296 h q.count (omega arith) (omega (arith, c))) in
    let before = past_ends (is_past q r) (ending r (Ok (failure q))) (at_index m q r)
    (none_among (linear_ends m q) 0 4294967296 h r (omega arith) (omega (arith, l))) in
    no_end (is_past q k) (ending k (Ok (failure q))) (at_index m q k)
    (limitless (not (q.count == 4294967295)) (q.count == q.count) (q.count == k)
    (eq-eqb q.count q.count refl) limit.0)
    (subst (λ (a : ℕ). at_structure (k + 1) (found_at q k) (failure q)
    (ends_at_zero q && is_zero m q a) (compared m q a) ≡ None) (again q k)
    (stays (r + 1) (found_at q r) (failure q) (k + 1) (found_at q k) (failure q)
    (ends_at_zero q && is_zero m q (structure_at q r))
    (compared m q (structure_at q r)) before.1))

-- ---- a chain: of so many places two have their link at one address

open_link : (looked : ℕ) (r : Result ℕ MemFault) → ((f : MemFault) → r ≡ Err f → ⊥)
    → or_at_link looked None r ≡ None
open_link looked (Ok x) h = refl
open_link looked (Err f) h = absurd (h f refl)

-- whether a place ends the search doesn't hang on its number
same_place : (m : MemoryMap) (q : Query) (n k at : ℕ) → ends_at m q n at ≡ None
    → ends_at m q k at ≡ None
same_place m q n k at h =
    let p = past_ends (at == 0) (ending n (Ok 0)) _ h in
    let l = linkable (n + 1)
    (at_structure (n + 1) at 0 (ends_at_zero q && is_zero m q at) (compared m q at))
    (read 4 m (next_link q at)) p.1 in
    let s = stays (n + 1) at 0 (k + 1) at 0 (ends_at_zero q && is_zero m q at)
    (compared m q at) l.0 in
    no_end (at == 0) (ending k (Ok 0)) _ p.0
    (ap (λ (o : Option Ending). or_at_link (k + 1) o (read 4 m (next_link q at))) s
    ∙ open_link (k + 1) (read 4 m (next_link q at)) l.1)

after_link : (m : MemoryMap) (q : Query) (i j : ℕ)
    → next_link q (chain_place m q i) ≡ next_link q (chain_place m q j)
    → chain_place m q (suc i) ≡ chain_place m q (suc j)
unfolding chain_place
after_link m q i j e = ap (λ (a : ℕ). number_at 4 m.bytes a) e

same_later : (m : MemoryMap) (q : Query) (i j t : ℕ) → chain_place m q i ≡ chain_place m q j
    → chain_place m q (t + i) ≡ chain_place m q (t + j)
same_later m q i j zero e =
    let a : zero + i ≡ i = omega arith in
    let b : zero + j ≡ j = omega arith in
    rw (a, b) e
same_later m q i j (suc t) e =
    let a : suc t + i ≡ suc (t + i) = omega arith in
    let b : suc t + j ≡ suc (t + j) = omega arith in
    rw (a, b) (after_link m q (t + i) (t + j) (ap (next_link q) (same_later m q i j t e)))

readable : (b : Bool) (x : ℕ) (f : MemFault) → ((g : MemFault) → cond b (Ok x) (Err f) ≡ Err g → ⊥)
    → b ≡ true
readable true x f h = refl
readable false x f h = absurd (h f refl)

link_inside : (m : MemoryMap) (q : Query) (i : ℕ) → linked_ends m q i ≡ None
    → next_link q (chain_place m q i) + 4 ≤ length m.bytes
link_inside m q i h =
    let at : ℕ = chain_place m q i in
    let p = past_ends (at == 0) (ending i (Ok 0)) _ h in
    let l = linkable (i + 1)
    (at_structure (i + 1) at 0 (ends_at_zero q && is_zero m q at) (compared m q at))
    (read 4 m (next_link q at)) p.1 in
    leb-true (next_link q at + 4) (length m.bytes)
    (readable (nat_le (next_link q at + 4) (length m.bytes)) (number_at 4 m.bytes (next_link q at))
    (BadRead (next_link q at)) l.1)

-- the values before n, the last one first
upto : (ℕ → ℕ) → ℕ → List ℕ
upto f zero = []
upto f (suc n) = f n ∷ upto f n

length_upto : (f : ℕ → ℕ) (n : ℕ) → length (upto f n) ≡ n
unfolding upto
length_upto f zero = refl
length_upto f (suc n) = let e = length_upto f n in omega (arith, e)

apart_from : (f : ℕ → ℕ) (x n : ℕ) → ((i : ℕ) → i < n → f i ≡ x → ⊥)
    → AllByRecursion (λ y. eqb x y ≡ false) (upto f n)
unfolding upto
apart_from f x zero h = tt
apart_from f x (suc n) h = (
  ne_eqb x (f n) (λ e. h n (omega arith) (sym e)),
  apart_from f x n
      (λ i l. h i (omega (arith, l))),
)

all_apart : (f : ℕ → ℕ) (n : ℕ) → ((i j : ℕ) → i < j → j < n → f i ≡ f j → ⊥)
    → IsDistinct eqb (upto f n)
unfolding upto IsDistinct
all_apart f zero h = tt
all_apart f (suc n) h = (
  apart_from f (f n) n (λ i l. h i n l (omega arith)),
  all_apart f n
      (λ i j l k. h i j l (omega (arith, k))),
)

all_below : (f : ℕ → ℕ) (n limit q : ℕ) → ((i : ℕ) → i < n → f i < limit)
    → list_any (eqb q) (upto f n) ≡ true → q < limit
unfolding upto
all_below f zero limit q h e = absurd cc
all_below f (suc n) limit q h e =
    elim (or_cases (eqb q (f n)) (list_any (eqb q) (upto f n)) e) as (λ _. q < limit) [
      | inl t ↦ (let s = eqb-true q (f n) t in let b = h n (omega arith) in omega (arith, s, b))
      | inr r ↦ all_below f n limit q (λ i l. h i (omega (arith, l))) r
    ]

-- n different values below a limit are no more than it
few_values : (f : ℕ → ℕ) (n limit : ℕ) → ((i : ℕ) → i < n → f i < limit)
    → ((i j : ℕ) → i < j → j < n → f i ≡ f j → ⊥) → n ≤ limit
few_values f n limit below apart =
    let l = length-le_from_distinct_below (upto f n) limit (all_apart f n apart)
    (λ q e. all_below f n limit q below e) in
    let e = length_upto f n in
    omega (arith, l, e)

some_first : (ends : ℕ → Option Ending) (k : ℕ) (e : Ending) → ends k ≡ Some e
    → (x : Ending) × First ends 0 x
some_first ends k e h = pick (first_ending ends 0 (suc k)) refl
  where
    clash : (o : Option Ending) → o ≡ None → o ≡ Some e → ⊥
    clash o f g = cc

    pick : (o : Option Ending) → first_ending ends 0 (suc k) ≡ o → (x : Ending) × First ends 0 x
    pick (Some x) f = (x, first ends (suc k) 0 x f)
    pick None f = absurd
        (clash (ends k) (none_among ends 0 (suc k) f k (omega arith) (omega arith)) h)

pub linked_endless : (m : MemoryMap) (q : Query) → length m.bytes ≤ 4294967296
    → IsEndless (linked_ends m q)
linked_endless m q size h k = pick (linked_ends m q k) refl
  where
    clash : (o : Option Ending) (e : Ending) → o ≡ None → o ≡ Some e → ⊥
    clash o e f g = cc

    -- none before the first end has its link where another has
    never_again : (x : Ending) (f : First (linked_ends m q) 0 x) (i j : ℕ) → i < j → j < f.index
        → next_link q (chain_place m q i) ≡ next_link q (chain_place m q j) → ⊥
    never_again x f i j l g e =
        let t : ℕ = f.index - suc j in
        let end : t + suc j ≡ f.index = omega (arith, g) in
        let less : t + suc i < f.index = omega (arith, l, g) in
        let same : chain_place m q (t + suc i) ≡ chain_place m q f.index =
        same_later m q (suc i) (suc j) t (after_link m q i j e) ∙ ap (chain_place m q) end in
        let goes_on = same_place m q (t + suc i) f.index (chain_place m q (t + suc i))
        (f.before (t + suc i) (omega arith) less) in
        clash (linked_ends m q f.index) x
        (subst (λ (a : ℕ). ends_at m q f.index a ≡ None) same goes_on) f.here

    low : (x : Ending) (f : First (linked_ends m q) 0 x) (i : ℕ) → i < f.index
        → next_link q (chain_place m q i) < 4294967295
    low x f i l = let r = link_inside m q i (f.before i (omega arith) l) in omega (arith, r, size)

    late : (x : Ending) (f : First (linked_ends m q) 0 x) (b : Bool) → nat_lt f.index 4294967296 ≡ b
        → ⊥
    late x f true t =
        clash (linked_ends m q f.index) x
        (none_among (linked_ends m q) 0 4294967296 h f.index (omega arith) (grind (arith, t)))
        f.here
    late x f false t =
        let over : 4294967296 ≤ f.index = grind (arith, t) in
        let few = few_values (λ i. next_link q (chain_place m q i)) f.index 4294967295 (low x f)
        (never_again x f) in
        omega (arith, over, few)

    pick : (o : Option Ending) → linked_ends m q k ≡ o → linked_ends m q k ≡ None
    pick None e = e
    pick (Some x) e = let f =
        some_first (linked_ends m q) k x e in
        absurd (late f.0 f.1 (nat_lt f.1.index 4294967296) refl)

pub ends_soon_or_never : EndsSoonOrNever
ends_soon_or_never m q size count = (linear_endless m q count, linked_endless m q size)

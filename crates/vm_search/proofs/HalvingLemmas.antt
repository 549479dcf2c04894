-- Where the halving ends, by its keys.
use Rattle.std.proofs.Common.{◌≡◌, ◌≢◌, ◌∙◌, ◌⊎◌, inl, inr, ℕ, zero, suc, ◌+◌, ◌-◌, ◌<◌, ◌≤◌, ◌==◌}
use Rattle.std.proofs.Common.{Bool, true, false, cond, nat_le, nat_lt, Some, None, Result, Ok, Err}
use Rattle.std.proofs.Common.{length, refl, sym, ap, subst, arith}
use Rattle.std.proofs.lemmas.Bool.{eqb-false, eqb-true, ltb-false, ltb-true}
use Rattle.std.proofs.Math.Nat.{eq-or-lt_of_le}
use Rattle.std.specs.Cmp.{ranks}
use Rattle.std.specs.Ordering.{nat_cmp, MatchOrdering}
use Rattle.std.specs.declared.cmp.Ordering.TheVariants.{Less, Equal, Greater}
use Rattle.std.specs.declared.cmp.Ordering.{Ordering}
use Rattle.vm_memory.specs.MemoryMap.{MemoryMap}
use Rattle.vm_memory.specs.declared.fault.MemFault.{MemFault}
use Rattle.vm_memory.specs.declared.fault.MemFault.TheVariants.{BadRead}
use Rattle.vm_search.specs.Key.{compared, key_in_memory, key_place, order_of, sought}
use Rattle.vm_search.specs.Ending.{Ending, ending, failure, at_structure}
use Rattle.vm_search.specs.Linear.{found_at, structure_at}
use Rattle.vm_search.specs.Binary.{middle, half, interval_at, ends_at_interval, binary_ends}
use Rattle.vm_search.specs.Laws.{Equals, IsSorted, LiesAt, Meets, Misses, MeetsOrMisses}
use Rattle.vm_search.specs.declared.query.Query.{Query}
use Rattle.vm_search.specs.declared.query.Found.{Found}
use Rattle.vm_search.specs.declared.binary_search.Interval.{Interval}
use Rattle.vm_search.proofs.LawLemmas.{First, Ended, ended, end_at, past_ends, some_is, answer_is}
use Rattle.vm_search.proofs.LawLemmas.{never}
use Rattle.vm_search.proofs.LawLemmas.End.{Stops, Hits, Misses as NotHit}

-- the key lies between what stands before an interval and what stands behind it
record Between (m : MemoryMap) (q : Query) (i : Interval) : Type 0 where
  order : i.low ≤ i.high
  within : i.high ≤ q.count
  above : (i.low ≡ 0) ⊎ (compared m q (structure_at q (i.low - 1)) ≡ Ok Greater)
  below : (i.high ≡ q.count) ⊎ (compared m q (structure_at q i.high) ≡ Ok Less)

turns : (looked found failed : ℕ) (r : Result Ordering MemFault)
    → at_structure looked found failed false r ≡ None → (r ≡ Ok Less) ⊎ (r ≡ Ok Greater)
turns looked found failed (Err f) h = absurd cc
turns looked found failed (Ok Less) h = inl refl
turns looked found failed (Ok Equal) h = absurd cc
turns looked found failed (Ok Greater) h = inr refl

halved : (m : MemoryMap) (q : Query) (i : Interval) (r : Result Ordering MemFault)
    → compared m q (structure_at q (middle i)) ≡ r → i.low ≢ i.high
    → (r ≡ Ok Less) ⊎ (r ≡ Ok Greater) → Between m q i → Between m q (half i r)
halved m q i r e d (inl less) b =
    let l = b.order in
    let w = b.within in
    subst (λ (x : Result Ordering MemFault). Between m q (half i x)) (sym less) (record {
      order = omega (arith, l);
      within = omega (arith, l, w);
      above = b.above;
      below = inr (e ∙ less);
    })
halved m q i r e d (inr greater) b =
    let l = b.order in
    let same : middle i ≡ middle i + 1 - 1 = omega arith in
    subst (λ (x : Result Ordering MemFault). Between m q (half i x)) (sym greater) (record {
      order = omega (arith, l, d);
      within = b.within;
      above = inr (subst (λ (n : ℕ). compared m q (structure_at q n) ≡ Ok Greater) same
          (e ∙ greater));
      below = b.below;
    })

step : (m : MemoryMap) (q : Query) (k : ℕ) (i : Interval)
    → ends_at_interval m q k i ≡ None → Between m q i
    → Between m q (half i (compared m q (structure_at q (middle i))))
step m q k i h b =
    let p = past_ends (i.low == i.high) (ending k (Ok (failure q))) _ h in
    halved m q i (compared m q (structure_at q (middle i))) refl (eqb-false i.low i.high p.0)
    (turns (k + 1) (found_at q (middle i)) (failure q)
    (compared m q (structure_at q (middle i))) p.1) b

between_at : (m : MemoryMap) (q : Query) (k : ℕ)
    → ((j : ℕ) → 0 ≤ j → j < k → binary_ends m q j ≡ None) → Between m q (interval_at m q k)
unfolding interval_at
between_at m q zero h =
    record { order = omega arith; within = omega arith; above = inl refl; below = inl refl }
between_at m q (suc k) h =
    step m q k (interval_at m q k) (h k (omega arith) (omega arith))
    (between_at m q k (λ j z l. h j z (omega (arith, l))))

-- ---- sorted structures

ordered : (r : Result ℕ MemFault) (b : Bool) (own : ℕ) (f : MemFault) (o : Ordering)
    → order_of r (cond b (Ok own) (Err f)) ≡ Ok o
    → (k : ℕ) × (r ≡ Ok k) × (nat_cmp k own ≡ o)
ordered (Ok k) true own f o h = (k, refl, cc)
ordered (Ok k) false own f o h = absurd cc
ordered (Err g) true own f o h = absurd cc
ordered (Err g) false own f o h = absurd cc

-- what a look says of the key that is sought
looks : (m : MemoryMap) (q : Query) (at : ℕ) (o : Ordering) → compared m q at ≡ Ok o
    → (k : ℕ) × (sought m q ≡ Ok k)
    × MatchOrdering o (k < key_in_memory m q at) (k ≡ key_in_memory m q at)
    (key_in_memory m q at < k)
looks m q at o h =
    let r = ordered (sought m q) (nat_le (key_place q at + q.key_size) (length m.bytes))
    (key_in_memory m q at) (BadRead (key_place q at)) o h in (
      r.0,
      r.1,
      subst (λ (x : Ordering).
          MatchOrdering x (r.0 < key_in_memory m q at) (r.0 ≡ key_in_memory m q at)
          (key_in_memory m q at < r.0)) r.2 (ranks r.0 (key_in_memory m q at)),
    )

rises : (m : MemoryMap) (q : Query) → IsSorted m q → (i j : ℕ) → i ≤ j → j < q.count
    → key_in_memory m q (structure_at q i) ≤ key_in_memory m q (structure_at q j)
rises m q sorted i j l h =
    elim (eq-or-lt_of_le l) as
    (λ _. key_in_memory m q (structure_at q i) ≤ key_in_memory m q (structure_at q j)) [
      | inl e ↦
          subst
          (λ (n : ℕ). key_in_memory m q (structure_at q i) ≤ key_in_memory m q (structure_at q n)) e
          (omega arith)
      | inr s ↦ sorted i j s h
    ]

none_has : (m : MemoryMap) (q : Query) (p : ℕ) → LiesAt m q p → IsSorted m q → (i : ℕ) → i < q.count
    → Equals m q (structure_at q i) → ⊥
none_has m q p lies sorted i l e = pick (nat_lt i p) refl
  where
    pick : (b : Bool) → nat_lt i p ≡ b → ⊥
    pick true t =
        let s = ltb-true i p t in
        elim lies.above as (λ _. ⊥) [
          | inl z ↦ omega (arith, s, z)
          | inr g ↦
              (let own = looks m q (structure_at q i) Equal e in
              let there = looks m q (structure_at q (p - 1)) Greater g in
              let same = answer_is (sought m q) own.0 there.0 own.1 there.1 in
              let w = lies.within in
              let up = rises m q sorted i (p - 1) (omega (arith, s)) (omega (arith, s, w)) in
              omega (arith, same, own.2, there.2, up))
        ]
    pick false t =
        let s = ltb-false i p t in
        elim lies.below as (λ _. ⊥) [
          | inl z ↦ omega (arith, s, z, l)
          | inr g ↦
              (let own = looks m q (structure_at q i) Equal e in
              let there = looks m q (structure_at q p) Less g in
              let same = answer_is (sought m q) own.0 there.0 own.1 there.1 in
              let up = rises m q sorted p i s l in
              omega (arith, same, own.2, there.2, up))
        ]

-- ---- the end

at_end : (m : MemoryMap) (q : Query) (k : ℕ) (i : Interval) (e : Ending) (found : Found) (b : Bool)
    → (i.low == i.high) ≡ b
    → cond b (Some (ending k (Ok (failure q))))
    (at_structure (k + 1) (found_at q (middle i)) (failure q) false
    (compared m q (structure_at q (middle i)))) ≡ Some e
    → e.answer ≡ Ok found.answer → Between m q i → Meets m q found ⊎ Misses m q found
at_end m q k i e found true p h a b =
    let same : i.high ≡ i.low = sym (eqb-true i.low i.high p) in
    let o = b.order in
    let w = b.within in
    let lies : LiesAt m q i.low = record {
      within = omega (arith, o, w);
      above = b.above;
      below = subst (λ (n : ℕ). (n ≡ q.count) ⊎ (compared m q (structure_at q n) ≡ Ok Less)) same
          b.below;
    } in
    inr (record {
      index = i.low;
      lies = lies;
      none = none_has m q i.low lies;
      answer = answer_is e.answer found.answer (failure q) a
          (ap (λ (x : Ending). x.answer) (some_is (ending k (Ok (failure q))) e h));
    })
at_end m q k i e found false p h a b =
    elim (end_at (k + 1) (found_at q (middle i)) (failure q) false
    (compared m q (structure_at q (middle i))) e h)
    as (λ _. Meets m q found ⊎ Misses m q found) [
      | Stops f is ↦ never e.answer found.answer f a (ap (λ (x : Ending). x.answer) is)
      | Hits eq is ↦ inl (record {
        index = middle i;
        some =
            let d = eqb-false i.low i.high p in
            let o = b.order in
            let w = b.within in
            omega (arith, d, o, w);
        equal = eq;
        answer = answer_is e.answer found.answer (found_at q (middle i)) a
            (ap (λ (x : Ending). x.answer) is);
      })
      | NotHit ne last is ↦ absurd cc
    ]

pub meets_or_misses : MeetsOrMisses
meets_or_misses m q found h =
    let t : Ended (binary_ends m q) found = ended q (binary_ends m q) found h in
    let f : First (binary_ends m q) 0 t.e = t.first in
    let i : Interval = interval_at m q f.index in
    at_end m q f.index i t.e found (i.low == i.high) refl f.here t.answer
    (between_at m q f.index f.before)

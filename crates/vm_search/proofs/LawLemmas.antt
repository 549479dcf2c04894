-- The first end of a search, by its keys.
use Rattle.std.proofs.Common.{◌≡◌, ◌∙◌, ◌⊎◌, inl, inr, ℕ, zero, suc, ◌+◌, ◌<◌, ◌≤◌, ◌^◌, ◌&&◌, Bool}
use Rattle.std.proofs.Common.{true, false, cond, nat_lt, Option, Some, None, Result, Ok, Err, refl}
use Rattle.std.proofs.Common.{sym, ap, subst, arith}
use Rattle.std.specs.declared.cmp.Ordering.TheVariants.{Less, Equal, Greater}
use Rattle.std.specs.declared.cmp.Ordering.{Ordering}
use Rattle.std.proofs.lemmas.Bool.{and_from, and_parts, both_ways}
use Rattle.vm_memory.specs.MemoryMap.{MemoryMap}
use Rattle.vm_memory.specs.Access.{read}
use Rattle.vm_memory.specs.declared.fault.MemFault.{MemFault}
use Rattle.vm_search.specs.Key.{compared, ends_at_zero, is_search, is_zero}
use Rattle.vm_search.specs.Ending.{Ending, ending, failure, at_structure, first_ending, or_next}
use Rattle.vm_search.specs.Ending.{found_within, told_answer}
use Rattle.vm_search.specs.Linear.{is_past, linear_ends, at_index}
use Rattle.vm_search.specs.Linked.{linked_ends, next_link, or_at_link, chain_place}
use Rattle.vm_search.specs.Laws.{Structures, table, chain, NoneOf, FindsKey}
use Rattle.vm_search.specs.Laws.{FindsNoKey, AnswersSearch, FindsOrFails}
use Rattle.vm_search.specs.declared.query.Query.{Query}
use Rattle.vm_search.specs.declared.query.Found.{Found}
use Rattle.vm_search.specs.declared.fault.SearchStop.{SearchStop}
use Rattle.vm_search.specs.declared.fault.SearchStop.TheVariants.{BadSearch, Spent}

-- the step that ends a search, before which none does
pub record First (ends : ℕ → Option Ending) (n : ℕ) (e : Ending) : Type 0 where
  pub index : ℕ
  pub from : n ≤ index
  pub here : ends index ≡ Some e
  pub before : (j : ℕ) → n ≤ j → j < index → ends j ≡ None

between : (ends : ℕ → Option Ending) (n j : ℕ) → ends n ≡ None
    → ((i : ℕ) → suc n ≤ i → i < j → ends i ≡ None)
    → (i : ℕ) → n ≤ i → i < j → ends i ≡ None
between ends n j e f i l h = pick (nat_lt n i) refl
  where
    pick : (b : Bool) → nat_lt n i ≡ b → ends i ≡ None
    pick true t = f i (grind (arith, t)) h
    pick false t = let same : n ≡ i = grind (arith, t, l) in subst (λ (k : ℕ). ends k ≡ None) same e

look : (ends : ℕ → Option Ending) (n : ℕ) (e : Ending) (o rest : Option Ending)
    → (rest ≡ Some e → First ends (suc n) e) → ends n ≡ o → or_next o rest ≡ Some e → First ends n e
look ends n e (Some x) rest more is h = record {
  index = n;
  from = omega arith;
  here = is ∙ h;
  before = λ j l m. absurd (omega (arith, l, m));
}
look ends n e None rest more is h =
    let r : First ends (suc n) e = more h in
    record {
      index = r.index;
      from = omega (arith, r.from);
      here = r.here;
      before = between ends n r.index is r.before;
    }

pub first : (ends : ℕ → Option Ending) (k n : ℕ) (e : Ending) → first_ending ends n k ≡ Some e
    → First ends n e
unfolding first_ending
first ends zero n e h = absurd cc
first ends (suc k) n e h =
    look ends n e (ends n) (first_ending ends (suc n) k) (λ g. first ends k (suc n) e g) refl h

-- ---- one step

-- a look without an end
record Goes (r : Result Ordering MemFault) (last : Bool) : Type 0 where
  other : r ≡ Ok Equal → ⊥
  more : last ≡ false

goes : (looked found failed : ℕ) (last : Bool) (r : Result Ordering MemFault)
    → at_structure looked found failed last r ≡ None → Goes r last
goes looked found failed last (Err f) h = absurd cc
goes looked found failed last (Ok Equal) h = absurd cc
goes looked found failed true (Ok Less) h = absurd cc
goes looked found failed true (Ok Greater) h = absurd cc
goes looked found failed false (Ok Less) h = record { other = λ e. cc; more = refl }
goes looked found failed false (Ok Greater) h = record { other = λ e. cc; more = refl }

pub past_ends : (b : Bool) (x : Ending) (o : Option Ending) → cond b (Some x) o ≡ None
    → (b ≡ false) × (o ≡ None)
past_ends true x o h = absurd cc
past_ends false x o h = (refl, h)

pub linkable : (looked : ℕ) (o : Option Ending) (r : Result ℕ MemFault)
    → or_at_link looked o r ≡ None
    → (o ≡ None) × ((f : MemFault) → r ≡ Err f → ⊥)
linkable looked (Some y) r h = absurd cc
linkable looked None (Ok x) h = (refl, λ f e. cc)
linkable looked None (Err f) h = absurd cc

no_link : (looked : ℕ) (o : Option Ending) → or_at_link looked o (Ok 0) ≡ o
no_link looked (Some y) = refl
no_link looked None = refl

-- ---- the steps of a search over structures

abbrev last : MemoryMap → Query → ℕ → Bool
last m q at = ends_at_zero q && is_zero m q at

-- each ends where none is left, at its structure, or where the next can't be read
abbrev Steps : MemoryMap → Query → Structures → (ℕ → Result ℕ MemFault) → (ℕ → Option Ending)
    → Type 0
Steps m q s next ends = (i : ℕ) → ends i
    ≡ cond (s.none_left i) (Some (ending i (Ok s.failure)))
    (or_at_link (i + 1) (at_structure (i + 1) (s.found i) s.failure (last m q (s.place i))
    (compared m q (s.place i))) (next i))

linear_steps : (m : MemoryMap) (q : Query) → Steps m q (table q) (λ i. Ok 0) (linear_ends m q)
linear_steps m q i =
    ap (λ (o : Option Ending). cond (is_past q i) (Some (ending i (Ok (failure q)))) o)
    (sym (no_link (i + 1) (at_index m q i)))

linked_steps : (m : MemoryMap) (q : Query)
    → Steps m q (chain m q) (λ i. read 4 m (next_link q (chain_place m q i))) (linked_ends m q)
linked_steps m q i = refl

none_before : (m : MemoryMap) (q : Query) (s : Structures) (next : ℕ → Result ℕ MemFault) (ends : ℕ
    → Option Ending) → Steps m q s next ends
    → (n : ℕ) → ((j : ℕ) → 0 ≤ j → j < n → ends j ≡ None) → NoneOf m q s n
none_before m q s next ends steps n h = record {
  some = λ i l. (step_open i l).0;
  other = λ i l e. (went i l).other e;
  goes_on = λ i l t. both_ways (last m q (s.place i)) (went i l).more
      (and_from (ends_at_zero q) (is_zero m q (s.place i)) t.0 t.1);
}
  where
    step_open : (i : ℕ) → i < n → (s.none_left i ≡ false)
        × (or_at_link (i + 1)
        (at_structure (i + 1) (s.found i) s.failure (last m q (s.place i))
        (compared m q (s.place i))) (next i) ≡ None)
    step_open i l = past_ends (s.none_left i) (ending i (Ok s.failure)) _
        (sym (steps i) ∙ h i (omega arith) l)

    went : (i : ℕ) → i < n → Goes (compared m q (s.place i)) (last m q (s.place i))
    went i l = goes (i + 1) (s.found i) s.failure (last m q (s.place i)) (compared m q (s.place i))
        (linkable (i + 1) (at_structure (i + 1) (s.found i) s.failure (last m q (s.place i))
        (compared m q (s.place i))) (next i) (step_open i l).1).0

-- ---- what is told

tells-answer : (looked : ℕ) (r : Result ℕ MemFault) (found : Found)
    → told_answer looked r ≡ Ok found
    → (r ≡ Ok found.answer) × (found.looked ≡ looked)
tells-answer looked (Ok x) found h = (cc, cc)
tells-answer looked (Err f) found h = absurd cc

tells-left : (b : Bool) (looked : ℕ) (r : Result ℕ MemFault) (found : Found)
    → cond b (Err Spent) (told_answer looked r) ≡ Ok found
    → (r ≡ Ok found.answer) × (found.looked ≡ looked)
tells-left true looked r found h = absurd cc
tells-left false looked r found h = tells-answer looked r found h

record Told (o : Option Ending) (found : Found) : Type 0 where
  e : Ending
  is : o ≡ Some e
  answer : e.answer ≡ Ok found.answer
  looked : found.looked ≡ e.looked

tell : (left : ℕ) (o : Option Ending) (found : Found)
    → found_within left o ≡ Ok found → Told o found
tell left None found h = absurd cc
tell left (Some e) found h =
    let t = tells-left (nat_lt left e.looked) e.looked e.answer found h in
    record { e = e; is = refl; answer = t.0; looked = t.1 }

chosen : (b : Bool) (r : Result Found SearchStop) (found : Found)
    → cond b r (Err BadSearch) ≡ Ok found → r ≡ Ok found
chosen true r found h = h
chosen false r found h = absurd cc

-- the step at which a search that answers has ended
pub record Ended (ends : ℕ → Option Ending) (found : Found) : Type 0 where
  pub e : Ending
  pub first : First ends 0 e
  pub answer : e.answer ≡ Ok found.answer
  pub looked : found.looked ≡ e.looked

pub ended : (q : Query) (ends : ℕ → Option Ending) (found : Found)
    → cond (is_search q) (found_within q.left (first_ending ends 0 (2 ^ 32))) (Err BadSearch)
    ≡ Ok found
    → Ended ends found
ended q ends found h =
    let o : Option Ending = first_ending ends 0 (2 ^ 32) in
    let t : Told o found =
    tell q.left o found (chosen (is_search q) (found_within q.left o) found h) in
    record { e = t.e; first = first ends (2 ^ 32) 0 t.e t.is; answer = t.answer; looked = t.looked }

-- an end at a structure
pub data End (r : Result Ordering MemFault) (last : Bool) (looked found failed : ℕ)
    (e : Ending) : Type 0 where
  Stops : (f : MemFault) → e ≡ ending looked (Err f) → End r last looked found failed e
  Hits : r ≡ Ok Equal → e ≡ ending looked (Ok found) → End r last looked found failed e
  Misses : (r ≡ Ok Equal → ⊥) → last ≡ true → e ≡ ending looked (Ok failed)
      → End r last looked found failed e

pub some_is : (x y : Ending) → Some x ≡ Some y → y ≡ x
some_is x y h = cc

pub end_at : (looked found failed : ℕ) (last : Bool) (r : Result Ordering MemFault) (e : Ending)
    → at_structure looked found failed last r ≡ Some e → End r last looked found failed e
end_at looked found failed last (Err f) e h = Stops f (some_is _ e h)
end_at looked found failed last (Ok Equal) e h = Hits refl (some_is _ e h)
end_at looked found failed true (Ok Less) e h = Misses (λ is. cc) refl (some_is _ e h)
end_at looked found failed true (Ok Greater) e h = Misses (λ is. cc) refl (some_is _ e h)
end_at looked found failed false (Ok Less) e h = absurd cc
end_at looked found failed false (Ok Greater) e h = absurd cc

pub answer_is : (r : Result ℕ MemFault) (x y : ℕ) → r ≡ Ok x → r ≡ Ok y → x ≡ y
answer_is r x y e f = cc

pub never : {P : Type 0} (r : Result ℕ MemFault) (x : ℕ) (f : MemFault) → r ≡ Ok x → r ≡ Err f → P
never r x f e h = absurd cc

-- an answer doesn't come from a link
unlinked : (looked : ℕ) (o : Option Ending) (r : Result ℕ MemFault) (e : Ending) (x : ℕ)
    → or_at_link looked o r ≡ Some e → e.answer ≡ Ok x → o ≡ Some e
unlinked looked (Some y) r e x h a = h
unlinked looked None (Ok n) e x h a = absurd cc
unlinked looked None (Err f) e x h a =
    never e.answer x f a (ap (λ (z : Ending). z.answer) (some_is (ending looked (Err f)) e h))

at_end : (m : MemoryMap) (q : Query) (s : Structures) (i : ℕ) (e : Ending) (found : Found)
    (next : Result ℕ MemFault) (b : Bool) → s.none_left i ≡ b
    → cond b (Some (ending i (Ok s.failure)))
    (or_at_link (i + 1) (at_structure (i + 1) (s.found i) s.failure (last m q (s.place i))
    (compared m q (s.place i))) next) ≡ Some e
    → e.answer ≡ Ok found.answer → found.looked ≡ e.looked → NoneOf m q s i
    → FindsKey m q s found ⊎ FindsNoKey m q s found
at_end m q s i e found next true p h a l n =
    let is : e ≡ ending i (Ok s.failure) = some_is _ e h in
    inr (record {
      index = i;
      before = n;
      answer = answer_is e.answer found.answer s.failure a (ap (λ (x : Ending). x.answer) is);
      ends = inl (p, l ∙ ap (λ (x : Ending). x.looked) is);
    })
at_end m q s i e found next false p h a l n =
    elim (end_at (i + 1) (s.found i) s.failure (last m q (s.place i)) (compared m q (s.place i)) e
    (unlinked (i + 1) (at_structure (i + 1) (s.found i) s.failure (last m q (s.place i))
    (compared m q (s.place i))) next e found.answer h a))
    as (λ _. FindsKey m q s found ⊎ FindsNoKey m q s found) [
      | Stops f is ↦ never e.answer found.answer f a (ap (λ (x : Ending). x.answer) is)
      | Hits eq is ↦ inl (record {
        index = i;
        some = p;
        equal = eq;
        before = n;
        answer = answer_is e.answer found.answer (s.found i) a (ap (λ (x : Ending). x.answer) is);
        looked = l ∙ ap (λ (x : Ending). x.looked) is;
      })
      | Misses ne last is ↦ inr (record {
        index = i;
        before = n;
        answer = answer_is e.answer found.answer s.failure a (ap (λ (x : Ending). x.answer) is);
        ends = inr (
          ne,
          and_parts (ends_at_zero q) (is_zero m q (s.place i)) last,
          l
              ∙ ap (λ (x : Ending). x.looked) is,
        );
      })
    ]

answers : (m : MemoryMap) (q : Query) (s : Structures) (next : ℕ → Result ℕ MemFault) (ends : ℕ
    → Option Ending) → Steps m q s next ends → AnswersSearch m q s ends
answers m q s next ends steps found h =
    let t : Ended ends found = ended q ends found h in
    let f : First ends 0 t.e = t.first in
    at_end m q s f.index t.e found (next f.index) (s.none_left f.index) refl
    (sym (steps f.index) ∙ f.here) t.answer t.looked
    (none_before m q s next ends steps f.index f.before)

pub finds_or_fails : FindsOrFails
finds_or_fails m q = (
  answers m q (table q) (λ i. Ok 0) (linear_ends m q) (linear_steps m q),
  answers m q (chain m q) (λ i. read 4 m (next_link q (chain_place m q i))) (linked_ends m q)
      (linked_steps m q),
)

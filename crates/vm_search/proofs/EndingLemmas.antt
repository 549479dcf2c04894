-- The first end of a search, step by step.
use Rattle.std.proofs.Common.{arith, zero, suc, ◌≡◌, ◌∙◌, refl, sym, ap, subst, ℕ, ◌+◌, ◌-◌, ◌<◌}
use Rattle.std.proofs.Common.{◌≤◌, Bool, true, false, nat_lt, Option, Some, None, Result, Ok, Err}
use Rattle.std.proofs.Common.{IsErrAnd}
use Rattle.std.proofs.lemmas.Grind.{common_steps}
use Rattle.vm_memory.specs.declared.fault.MemFault.{MemFault}
use Rattle.vm_search.specs.Ending.{Ending, ending, first_ending, or_next, found_within, told_answer}
use Rattle.vm_search.specs.Ending.{search_of, at_structure, Looks}
use Rattle.std.specs.declared.cmp.Ordering.{Ordering}
use Rattle.std.specs.declared.cmp.Ordering.TheVariants.{Less, Equal, Greater}
use Rattle.vm_search.specs.Key.{is_search}
use Rattle.vm_search.specs.declared.query.Query.{Query}
use Rattle.vm_search.specs.declared.query.Found.{Found}
use Rattle.vm_search.specs.declared.fault.SearchStop.{SearchStop}
use Rattle.vm_search.specs.declared.fault.SearchStop.TheVariants.{Spent}

step_on : (ends : ℕ → Option Ending) (n k : ℕ) → ends n ≡ None
    → first_ending ends n (suc k) ≡ first_ending ends (suc n) k
unfolding first_ending
step_on ends n k e = ap (λ o. or_next o (first_ending ends (suc n) k)) e

step_end : (ends : ℕ → Option Ending) (n k : ℕ) (x : Ending) → ends n ≡ Some x
    → first_ending ends n (suc k) ≡ Some x
unfolding first_ending
step_end ends n k x e = ap (λ o. or_next o (first_ending ends (suc n) k)) e

-- a step at which the search goes on
pub first_ending-on : (ends : ℕ → Option Ending) (n all : ℕ) → n < all → ends n ≡ None
    → first_ending ends n (all - n) ≡ first_ending ends (n + 1) (all - (n + 1))
first_ending-on ends n all l e =
    let more : all - n ≡ suc (all - (n + 1)) = omega arith in
    let next : suc n ≡ n + 1 = omega arith in
    ap (first_ending ends n) more ∙ step_on ends n (all - (n + 1)) e
    ∙ ap (λ i. first_ending ends i (all - (n + 1))) next

-- a step at which it ends
pub first_ending-end : (ends : ℕ → Option Ending) (n all : ℕ) (x : Ending) → n < all
    → ends n ≡ Some x → first_ending ends n (all - n) ≡ Some x
first_ending-end ends n all x l e =
    let more : all - n ≡ suc (all - (n + 1)) = omega arith in
    ap (first_ending ends n) more ∙ step_end ends n (all - (n + 1)) x e

-- no step is left
pub first_ending-none : (ends : ℕ → Option Ending) (n all : ℕ) → all ≤ n
    → first_ending ends n (all - n) ≡ None
unfolding first_ending
first_ending-none ends n all l = let nothing : all - n ≡ zero =
    omega arith in ap (first_ending ends n) nothing

-- each end from a step on has looked at more than so many
abbrev pub AllLookMore : (ℕ → Option Ending) → ℕ → ℕ → Type 0
AllLookMore ends left n = (j : ℕ) → n ≤ j → (x : Ending) → ends j ≡ Some x → left < x.looked

told_spent : (left : ℕ) (o : Option Ending) → ((x : Ending) → o ≡ Some x → left < x.looked)
    → found_within left o ≡ Err Spent
told_spent left None h = refl
told_spent left (Some x) h = let l : left < x.looked =
    h x refl in let e : nat_lt left x.looked ≡ true = grind (arith, common_steps) in rw e refl

pub first_ending-more : (ends : ℕ → Option Ending) (left n k : ℕ) → AllLookMore ends left n
    → (x : Ending) → first_ending ends n k ≡ Some x → left < x.looked
unfolding first_ending
first_ending-more ends left n zero h x e = cc
first_ending-more ends left n (suc k) h x e =
    elim (ends n) as (λ o. ends n ≡ o → or_next o (first_ending ends (suc n) k) ≡ Some x
    → left < x.looked) [
      | None ↦ (λ s f. first_ending-more ends left (suc n) k (λ j l. h j (omega arith)) x f)
      | Some y ↦ (λ s f. h n (omega arith) x (s ∙ f))
    ] refl e

-- such a search is spent
pub told-spent : (ends : ℕ → Option Ending) (left n k : ℕ) → AllLookMore ends left n
    → found_within left (first_ending ends n k) ≡ Err Spent
told-spent ends left n k h =
    told_spent left (first_ending ends n k) (first_ending-more ends left n k h)

pub told-end : (left looked : ℕ) (answer : Result ℕ MemFault) → looked ≤ left
    → found_within left (Some (ending looked answer)) ≡ told_answer looked answer
told-end left looked answer l = let e : nat_lt left looked ≡ false =
    grind (arith, common_steps) in rw e refl

-- what the whole search tells
pub search_of-told : (q : Query) (ends : ℕ → Option Ending) (r : Option Ending) → is_search q ≡ true
    → first_ending ends 0 4294967296 ≡ r → search_of q ends ≡ found_within q.left r
search_of-told q ends r s e = rw s (ap (found_within q.left) e)

-- a search told by its first end at a step, where so far it went on
pub search-end : (q : Query) (ends : ℕ → Option Ending) (n looked : ℕ) (answer : Result ℕ MemFault)
    → is_search q ≡ true → first_ending ends 0 4294967296 ≡ first_ending ends n (4294967296 - n)
    → n < 4294967296 → ends n ≡ Some (ending looked answer) → looked ≤ q.left
    → search_of q ends ≡ told_answer looked answer
search-end q ends n looked answer s f l e r =
    search_of-told q ends (Some (ending looked answer)) s
    (f ∙ first_ending-end ends n 4294967296 (ending looked answer) l e)
    ∙ told-end q.left looked answer r

pub search-spent : (q : Query) (ends : ℕ → Option Ending) (n : ℕ) → is_search q ≡ true
    → first_ending ends 0 4294967296 ≡ first_ending ends n (4294967296 - n)
    → AllLookMore ends q.left n → search_of q ends ≡ Err Spent
search-spent q ends n s f h =
    search_of-told q ends (first_ending ends n (4294967296 - n)) s f
    ∙ told-spent ends q.left n (4294967296 - n) h

pub search-endless : (q : Query) (ends : ℕ → Option Ending) (n : ℕ) → is_search q ≡ true
    → first_ending ends 0 4294967296 ≡ first_ending ends n (4294967296 - n) → 4294967296 ≤ n
    → search_of q ends ≡ Err Spent
search-endless q ends n s f l =
    search_of-told q ends None s (f ∙ first_ending-none ends n 4294967296 l)

-- an error that was handed on as this one
pub handed_on : {A : Type 0} (stop : SearchStop) (r : Result A SearchStop)
    → IsErrAnd r (λ e. e ≡ stop) → r ≡ Err stop
handed_on stop (Ok x) h = absurd h
handed_on stop (Err e) h = ap Err h

-- an end at a structure has looked at it
pub at_structure-looked : (looked found failed : ℕ) (last : Bool) (r : Result Ordering MemFault)
    (x : Ending) → at_structure looked found failed last r ≡ Some x → x.looked ≡ looked
at_structure-looked looked found failed last (Err f) x e = cc
at_structure-looked looked found failed last (Ok Equal) x e = cc
at_structure-looked looked found failed true (Ok Less) x e = cc
at_structure-looked looked found failed true (Ok Greater) x e = cc
at_structure-looked looked found failed false (Ok Less) x e = cc
at_structure-looked looked found failed false (Ok Greater) x e = cc

-- a look that found no end, or one
pub looks-none : (looked : ℕ) (should : Option Ending) (o : Option Found)
    → Looks looked should (Ok o) → o ≡ None → should ≡ None
looks-none looked should None h e = h
looks-none looked should (Some x) h e = cc

pub looks-some : (looked : ℕ) (should : Option Ending) (o : Option Found) (x : Found)
    → Looks looked should (Ok o) → o ≡ Some x
    → (should ≡ Some (ending looked (Ok x.answer))) × (x.looked ≡ looked)
looks-some looked should None x h e = cc
looks-some looked should (Some y) x h e = subst (λ o. Looks looked should (Ok o)) e h

pub found-is : (x : Found) (looked : ℕ) → x.looked ≡ looked
    → told_answer looked (Ok x.answer) ≡ Ok x
found-is x looked e = ap (λ n. Ok (record { answer = x.answer; looked = n })) (sym e)

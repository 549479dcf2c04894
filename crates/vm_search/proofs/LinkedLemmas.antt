-- The steps of a linked search.
use Rattle.std.proofs.Common.{arith, suc, ◌≡◌, ◌≢◌, ◌∙◌, refl, sym, ap, ℕ, ◌+◌, ◌<◌, true, false}
use Rattle.std.proofs.Common.{◌&&◌, nat_eq, Option, Some, None, Result, Ok, Err}
use Rattle.std.proofs.lemmas.Grind.{common_steps}
use Rattle.vm_memory.specs.MemoryMap.{MemoryMap, number_at}
use Rattle.vm_memory.specs.Access.{read}
use Rattle.vm_memory.specs.declared.fault.MemFault.{MemFault}
use Rattle.vm_search.specs.Key.{ends_at_zero, is_zero, compared}
use Rattle.vm_search.specs.Ending.{Ending, ending, at_structure}
use Rattle.vm_search.specs.Linked.{linked_ends, ends_at, chain_place, next_link, or_at_link}
use Rattle.vm_search.specs.declared.query.Query.{Query}
use Rattle.vm_search.proofs.EndingLemmas.{AllLookMore, at_structure-looked}

-- what the structure at a place tells
abbrev pub tells : MemoryMap → Query → ℕ → ℕ → Option Ending
tells m q n at = at_structure (n + 1) at 0 (ends_at_zero q && is_zero m q at) (compared m q at)

pub linked_ends-zero : (m : MemoryMap) (q : Query) (n at : ℕ) → chain_place m q n ≡ at → at ≡ 0
    → linked_ends m q n ≡ Some (ending n (Ok 0))
linked_ends-zero m q n at p z = ap (ends_at m q n) (p ∙ z)

at_place : (m : MemoryMap) (q : Query) (n at : ℕ) → at ≢ 0
    → ends_at m q n at ≡ or_at_link (n + 1) (tells m q n at) (read 4 m (next_link q at))
at_place m q n at d = let e : nat_eq at 0 ≡ false = grind (arith, common_steps) in rw e refl

pub linked_ends-structure : (m : MemoryMap) (q : Query) (n at : ℕ) (x : Ending)
    → chain_place m q n ≡ at → at ≢ 0 → tells m q n at ≡ Some x → linked_ends m q n ≡ Some x
linked_ends-structure m q n at x p d e =
    ap (ends_at m q n) p ∙ at_place m q n at d
    ∙ ap (λ o. or_at_link (n + 1) o (read 4 m (next_link q at))) e

pub linked_ends-link : (m : MemoryMap) (q : Query) (n at : ℕ) (f : MemFault)
    → chain_place m q n ≡ at
    → at ≢ 0 → tells m q n at ≡ None → read 4 m (next_link q at) ≡ Err f
    → linked_ends m q n ≡ Some (ending (n + 1) (Err f))
linked_ends-link m q n at f p d e r =
    ap (ends_at m q n) p ∙ at_place m q n at d
    ∙ ap (λ o. or_at_link (n + 1) o (read 4 m (next_link q at))) e ∙ ap (or_at_link (n + 1) None) r

pub linked_ends-none : (m : MemoryMap) (q : Query) (n at next : ℕ) → chain_place m q n ≡ at → at ≢ 0
    → tells m q n at ≡ None → read 4 m (next_link q at) ≡ Ok next → linked_ends m q n ≡ None
linked_ends-none m q n at next p d e r =
    ap (ends_at m q n) p ∙ at_place m q n at d
    ∙ ap (λ o. or_at_link (n + 1) o (read 4 m (next_link q at))) e ∙ ap (or_at_link (n + 1) None) r

read_is : (m : MemoryMap) (at x : ℕ) → read 4 m at ≡ Ok x → number_at 4 m.bytes at ≡ x
read_is m at x e = grind (arith, common_steps)

-- the next place is the word that was read
pub place_at-next : (m : MemoryMap) (q : Query) (n at next : ℕ) → chain_place m q n ≡ at
    → read 4 m (next_link q at) ≡ Ok next → chain_place m q (n + 1) ≡ next
unfolding chain_place
place_at-next m q n at next p r =
    let one : n + 1 ≡ suc n = omega arith in
    ap (chain_place m q) one ∙ ap (λ a. number_at 4 m.bytes (next_link q a)) p
    ∙ read_is m (next_link q at) next r

looked_of : (looked : ℕ) (answer : Result ℕ MemFault) (x : Ending)
    → Some (ending looked answer) ≡ Some x → x.looked ≡ looked
looked_of looked answer x e = cc

link-looked : (looked : ℕ) (o : Option Ending) (r : Result ℕ MemFault) (x : Ending)
    → ((y : Ending) → o ≡ Some y → y.looked ≡ looked) → or_at_link looked o r ≡ Some x
    → x.looked ≡ looked
link-looked looked (Some y) r x h e = h x e
link-looked looked None (Ok a) x h e = cc
link-looked looked None (Err f) x h e = cc

-- none but the places from here on are left
pub linked-look_more : (m : MemoryMap) (q : Query) (n at : ℕ) → chain_place m q n ≡ at → at ≢ 0
    → AllLookMore (linked_ends m q) n n
linked-look_more m q n at p d = λ j l x s.
    elim (nat_eq (chain_place m q j) 0) as (λ t. nat_eq (chain_place m q j) 0 ≡ t → n < x.looked) [
      | true ↦ (λ f.
          let z : chain_place m q j ≡ 0 = grind (arith, common_steps) in
          let k : x.looked ≡ j =
          looked_of j (Ok 0) x (sym (linked_ends-zero m q j (chain_place m q j) refl z) ∙ s) in
          let b : j ≢ n = λ same. d (sym p ∙ sym (ap (chain_place m q) same) ∙ z) in
          omega arith)
      | false ↦ (λ f.
          let e : chain_place m q j ≢ 0 = grind (arith, common_steps) in
          let k : x.looked ≡ j + 1 =
          link-looked (j + 1) (tells m q j (chain_place m q j))
          (read 4 m (next_link q (chain_place m q j))) x
          (at_structure-looked (j + 1) (chain_place m q j) 0
          (ends_at_zero q && is_zero m q (chain_place m q j)) (compared m q (chain_place m q j)))
          (sym (at_place m q j (chain_place m q j) e) ∙ s) in
          omega arith)
    ] refl

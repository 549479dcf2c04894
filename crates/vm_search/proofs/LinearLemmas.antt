-- The steps of a linear search.
use Rattle.std.proofs.Common.{arith, ◌≡◌, ◌∙◌, refl, sym, ℕ, ◌+◌, ◌<◌, ◌≤◌, true, false, ◌&&◌, Some}
use Rattle.std.proofs.Common.{Result, Ok}
use Rattle.vm_memory.specs.declared.fault.MemFault.{MemFault}
use Rattle.std.proofs.lemmas.Grind.{common_steps}
use Rattle.vm_memory.specs.MemoryMap.{MemoryMap}
use Rattle.vm_search.specs.Key.{ends_at_zero, is_zero, compared}
use Rattle.vm_search.specs.Ending.{Ending, ending, failure}
use Rattle.vm_search.specs.Linear.{linear_ends, at_index, is_past, structure_at, found_at}
use Rattle.vm_search.specs.declared.query.Query.{Query}
use Rattle.vm_search.proofs.EndingLemmas.{AllLookMore, at_structure-looked}

pub linear_ends-past : (m : MemoryMap) (q : Query) (n : ℕ) → is_past q n ≡ true
    → linear_ends m q n ≡ Some (ending n (Ok (failure q)))
linear_ends-past m q n e = rw e refl

pub linear_ends-structure : (m : MemoryMap) (q : Query) (n : ℕ) → is_past q n ≡ false
    → linear_ends m q n ≡ at_index m q n
linear_ends-structure m q n e = rw e refl

past_once : (q : Query) (n j : ℕ) → is_past q n ≡ false → is_past q j ≡ true → n ≤ j → n < j
past_once q n j e f l = grind (arith, common_steps)

looked_of : (looked : ℕ) (answer : Result ℕ MemFault) (x : Ending)
    → Some (ending looked answer) ≡ Some x → x.looked ≡ looked
looked_of looked answer x e = cc

-- none but the structures from here on are left
pub linear-look_more : (m : MemoryMap) (q : Query) (n : ℕ) → is_past q n ≡ false
    → AllLookMore (linear_ends m q) n n
linear-look_more m q n e = λ j l x s.
    elim (is_past q j) as (λ t. is_past q j ≡ t → n < x.looked) [
      | true ↦ (λ f. let k : x.looked ≡ j = looked_of j (Ok (failure q)) x
          (sym (linear_ends-past m q j f) ∙ s) in
          let b : n < j = past_once q n j e f l in omega arith)
      | false ↦ (λ f. let k : x.looked ≡ j + 1 = at_structure-looked (j + 1) (found_at q j)
          (failure q) (ends_at_zero q && is_zero m q (structure_at q j))
          (compared m q (structure_at q j)) x (sym (linear_ends-structure m q j f) ∙ s) in
          omega arith)
    ] refl

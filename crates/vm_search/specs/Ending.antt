-- How a search ends (Glulx 3.1.3, "Searching").
use Rattle.std.specs.Prelude.{◌≡◌, ℕ, zero, suc, ◌-◌, ◌^◌, Bool, true, false}
use Rattle.std.specs.Prelude.{nat_lt, if◌then◌else◌, Option, Some, None, Result, Ok, Err}
use Rattle.std.specs.declared.cmp.Ordering.TheVariants.{Equal}
use Rattle.std.specs.declared.cmp.Ordering.{Ordering}
use Rattle.vm_memory.specs.declared.fault.MemFault.{MemFault}
use Rattle.vm_search.specs.Key.{is_search, gives_index}
use Rattle.vm_search.specs.declared.query.Query.{Query}
use Rattle.vm_search.specs.declared.query.Found.{Found}
use Rattle.vm_search.specs.declared.fault.SearchStop.{SearchStop}
use Rattle.vm_search.specs.declared.fault.SearchStop.TheVariants.{Read, BadSearch, Spent}

-- the end of a search: how many structures were looked at, and the answer or the fault
pub record Ending : Type 0 where
  pub looked : ℕ
  pub answer : Result ℕ MemFault

-- an end
abbrev pub ending : ℕ → Result ℕ MemFault → Ending
ending looked answer = record { looked = looked; answer = answer }

-- the answer where nothing is found: index -1, or address 0
abbrev pub failure : Query → ℕ
failure q = if gives_index q then 2 ^ 32 - 1 else 0

-- whether a search ends at the structure with which so many were looked at: at an equal key with
-- the one answer, at a last key with the other, and at a fault
abbrev pub at_structure : ℕ → ℕ → ℕ → Bool → Result Ordering MemFault
    → Option Ending
at_structure looked found failed last (Err fault) = Some (ending looked (Err fault))
at_structure looked found failed last (Ok Equal) = Some (ending looked (Ok found))
at_structure looked found failed true (Ok order) = Some (ending looked (Ok failed))
at_structure looked found failed false (Ok order) = None

-- a look at a structure, with which so many were looked at, answered this as it should
abbrev pub Looks : ℕ → Option Ending → Result (Option Found) MemFault → Type 0
Looks looked should (Ok None) = should ≡ None
Looks looked should (Ok (Some found)) =
    (should ≡ Some (ending looked (Ok found.answer))) × (found.looked ≡ looked)
Looks looked should (Err fault) = should ≡ Some (ending looked (Err fault))

-- the one, or else the other
abbrev pub or_next : Option Ending → Option Ending → Option Ending
or_next (Some e) other = Some e
or_next None other = other

-- the first end among k steps from step n on
unfoldable pub first_ending : (ℕ → Option Ending) → ℕ → ℕ → Option Ending
first_ending ends n zero = None
first_ending ends n (suc k) = or_next (ends n) (first_ending ends (suc n) k)

-- an answer with its count, or a fault
abbrev pub told_answer : ℕ → Result ℕ MemFault → Result Found SearchStop
told_answer looked (Ok answer) = Ok (record { answer = answer; looked = looked })
told_answer looked (Err fault) = Err (Read fault)

-- what a search that ends so tells, where no more than left structures may be looked at; one
-- without an end looks at more
abbrev pub found_within : ℕ → Option Ending → Result Found SearchStop
found_within left None = Err Spent
found_within left (Some e) =
    if nat_lt left e.looked then Err Spent else told_answer e.looked e.answer

-- the search whose steps end so; without an end among 2^32 steps the same structures come for ever
abbrev pub search_of : Query → (ℕ → Option Ending) → Result Found SearchStop
search_of q ends =
    if is_search q then found_within q.left (first_ending ends 0 (2 ^ 32)) else Err BadSearch

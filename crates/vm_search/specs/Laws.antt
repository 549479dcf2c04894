-- What a search that answers has found, said of keys alone (Glulx 3.1.3, "Searching").
use Rattle.std.specs.Prelude.{ℕ, ◌≡◌, ◌<◌, ◌≤◌, ◌+◌, ◌-◌, ◌^◌, ◌⊎◌, ◌==◌, Bool, true, false}
use Rattle.std.specs.Prelude.{length, Option, None, Ok}
use Rattle.std.specs.declared.cmp.Ordering.TheVariants.{Less, Equal, Greater}
use Rattle.vm_memory.specs.MemoryMap.{MemoryMap}
use Rattle.vm_search.specs.Key.{compared, ends_at_zero, is_zero, key_in_memory}
use Rattle.vm_search.specs.Ending.{Ending, failure, first_ending, search_of}
use Rattle.vm_search.specs.Linear.{found_at, is_past, linear_ends, structure_at}
use Rattle.vm_search.specs.Binary.{binary_ends}
use Rattle.vm_search.specs.Linked.{linked_ends, chain_place}
use Rattle.vm_search.specs.declared.query.Query.{Query}
use Rattle.vm_search.specs.declared.query.Found.{Found}

-- the key of the structure at an address equals the one that is sought
abbrev pub Equals : MemoryMap → Query → ℕ → Type 0
Equals m q at = compared m q at ≡ Ok Equal

-- its key is zero, and that ends the search
abbrev pub Terminates : MemoryMap → Query → ℕ → Type 0
Terminates m q at = (ends_at_zero q ≡ true) × (is_zero m q at ≡ true)

-- structures in the order in which they are looked at: their addresses, the answer for each,
-- whether none is left, and the answer where none is found
pub record Structures : Type 0 where
  pub place : ℕ → ℕ
  pub found : ℕ → ℕ
  pub none_left : ℕ → Bool
  pub failure : ℕ

-- those of a table, and those of a chain, which ends at place 0
abbrev pub table : Query → Structures
table q = record {
  place = structure_at q;
  found = found_at q;
  none_left = is_past q;
  failure = failure q;
}

abbrev pub chain : MemoryMap → Query → Structures
chain m q = record {
  place = chain_place m q;
  found = chain_place m q;
  none_left = λ i. chain_place m q i == 0;
  failure = 0;
}

-- there are n structures, and none of them has that key or ends the search
pub record NoneOf (m : MemoryMap) (q : Query) (s : Structures) (n : ℕ) : Type 0 where
  pub some : (i : ℕ) → i < n → s.none_left i ≡ false
  pub other : (i : ℕ) → i < n → Equals m q (s.place i) → ⊥
  pub goes_on : (i : ℕ) → i < n → Terminates m q (s.place i) → ⊥

-- a structure is found: its key equals, and none before it does or ends the search
pub record FindsKey (m : MemoryMap) (q : Query) (s : Structures) (found : Found) : Type 0 where
  pub index : ℕ
  pub some : s.none_left index ≡ false
  pub equal : Equals m q (s.place index)
  pub before : NoneOf m q s index
  pub answer : found.answer ≡ s.found index
  pub looked : found.looked ≡ index + 1

-- none is found: no key equals up to the end of the structures, or to a key that ends the search
pub record FindsNoKey (m : MemoryMap) (q : Query) (s : Structures) (found : Found) : Type 0 where
  pub index : ℕ
  pub before : NoneOf m q s index
  pub answer : found.answer ≡ s.failure
  pub ends : ((s.none_left index ≡ true) × (found.looked ≡ index))
      ⊎ ((Equals m q (s.place index) → ⊥) × Terminates m q (s.place index)
      × (found.looked ≡ index + 1))

-- what a search of the structures answers is the one or the other
abbrev pub AnswersSearch : MemoryMap → Query → Structures → (ℕ → Option Ending) → Type 0
AnswersSearch m q s ends =
    (found : Found) → search_of q ends ≡ Ok found → FindsKey m q s found ⊎ FindsNoKey m q s found

-- so it is for a linear and for a linked search
abbrev pub FindsOrFails : Type 0
FindsOrFails =
    (m : MemoryMap) (q : Query)
    → AnswersSearch m q (table q) (linear_ends m q)
    × AnswersSearch m q (chain m q) (linked_ends m q)

-- no key is less than one before it
abbrev pub IsSorted : MemoryMap → Query → Type 0
IsSorted m q =
    (i j : ℕ) → i < j → j < q.count
    → key_in_memory m q (structure_at q i) ≤ key_in_memory m q (structure_at q j)

-- the key that is sought is greater than that of the structure before this index, and less than
-- that of the one there
pub record LiesAt (m : MemoryMap) (q : Query) (index : ℕ) : Type 0 where
  pub within : index ≤ q.count
  pub above : (index ≡ 0) ⊎ (compared m q (structure_at q (index - 1)) ≡ Ok Greater)
  pub below : (index ≡ q.count) ⊎ (compared m q (structure_at q index) ≡ Ok Less)

-- the halving meets a structure whose key equals
pub record Meets (m : MemoryMap) (q : Query) (found : Found) : Type 0 where
  pub index : ℕ
  pub some : index < q.count
  pub equal : Equals m q (structure_at q index)
  pub answer : found.answer ≡ found_at q index

-- or ends where the key would stand; of sorted structures then none has it
pub record Misses (m : MemoryMap) (q : Query) (found : Found) : Type 0 where
  pub index : ℕ
  pub lies : LiesAt m q index
  pub none : IsSorted m q → (i : ℕ) → i < q.count → Equals m q (structure_at q i) → ⊥
  pub answer : found.answer ≡ failure q

-- what a binary search answers is the one or the other
abbrev pub MeetsOrMisses : Type 0
MeetsOrMisses =
    (m : MemoryMap) (q : Query) (found : Found) → search_of q (binary_ends m q) ≡ Ok found
    → Meets m q found ⊎ Misses m q found

-- a search that has no end among 2^32 steps has none
abbrev pub IsEndless : (ℕ → Option Ending) → Type 0
IsEndless ends = first_ending ends 0 (2 ^ 32) ≡ None → (k : ℕ) → ends k ≡ None

-- so it is for a linear and for a linked search, in a memory of at most 2^32 bytes
abbrev pub EndsSoonOrNever : Type 0
EndsSoonOrNever =
    (m : MemoryMap) (q : Query) → length m.bytes ≤ 2 ^ 32 → q.count < 2 ^ 32
    → IsEndless (linear_ends m q) × IsEndless (linked_ends m q)

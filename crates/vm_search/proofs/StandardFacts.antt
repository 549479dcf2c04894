-- Keys and steps over the words 5, 9, 0 and 7 at 0, said of the definitions.
use Rattle.std.proofs.Common.{◌≡◌, refl, ℕ, [], ◌∷◌, map, true, false, Some, None, Ok, Err}
use Rattle.vm_memory.specs.MemoryMap.{MemoryMap}
use Rattle.vm_memory.specs.declared.fault.MemFault.TheVariants.{BadRead}
use Rattle.vm_search.specs.Key.{is_search}
use Rattle.vm_search.specs.Ending.{ending}
use Rattle.vm_search.specs.Linear.{linear_ends}
use Rattle.vm_search.specs.Binary.{binary_ends, interval_at}
use Rattle.vm_search.specs.Linked.{linked_ends, chain_place}
use Rattle.vm_search.specs.declared.query.Query.{Query}

abbrev words : MemoryMap
words = record {
  bytes = 0 ∷ 0 ∷ 0 ∷ 5 ∷ 0 ∷ 0 ∷ 0 ∷ 9 ∷ 0 ∷ 0 ∷ 0 ∷ 0 ∷ 0 ∷ 0 ∷ 0 ∷ 7 ∷ [];
  ramstart = 0;
  rom = [];
  endmem = 16;
}

-- a search for a key of four bytes in structures of four
abbrev query : ℕ → ℕ → ℕ → ℕ → Query
query key start count options = record {
  key = key;
  key_size = 4;
  start = start;
  struct_size = 4;
  count = count;
  key_offset = 0;
  next_offset = 4;
  options = options;
  left = 9;
}

-- key 9 is at index 1, and ends the search there
pub key_9 : map (linear_ends words (query 9 0 0xFFFFFFFF 4)) (0 ∷ 1 ∷ []) ≡ None ∷ Some
    (ending 2 (Ok 1)) ∷ []
key_9 = refl

-- key 7 isn't reached past a zero key, which is reached where it is the key itself
pub zero_keys :
    linear_ends words (query 7 0 0xFFFFFFFF 6) 2 ∷ linear_ends words (query 0 0 0xFFFFFFFF 6) 2 ∷ []
    ≡ Some (ending 3 (Ok 0xFFFFFFFF)) ∷ Some (ending 3 (Ok 2)) ∷ []
zero_keys = refl

-- past the end of memory, and past the count
pub ends : linear_ends words (query 1 0 9 0) 4 ∷ linear_ends words (query 1 0 4 0) 4 ∷ []
    ≡ Some (ending 5 (Err (BadRead 16))) ∷ Some (ending 4 (Ok 0)) ∷ []
ends = refl

-- a binary search of nothing
pub of_nothing : binary_ends words (query 5 0 0 0) 0 ∷ binary_ends words (query 5 0 0 4) 0 ∷ []
    ≡ Some (ending 0 (Ok 0)) ∷ Some (ending 0 (Ok 0xFFFFFFFF)) ∷ []
unfolding interval_at
of_nothing = refl

-- a chain that begins at 0 is at its end
pub no_chain : linked_ends words (query 5 0 0 0) 0 ≡ Some (ending 0 (Ok 0))
unfolding chain_place
no_chain = refl

-- key sizes
abbrev sized : ℕ → ℕ → Query
sized size options = record (query 0 0 0 options) { key_size = size }

pub sizes : map is_search (sized 4 0 ∷ sized 3 0 ∷ sized 3 1 ∷ sized 0 1 ∷ [])
    ≡ true ∷ false ∷ true ∷ false ∷ []
sizes = refl

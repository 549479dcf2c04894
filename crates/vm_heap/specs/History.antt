-- What a story holds after calls of malloc and mfree (own).
use Rattle.std.specs.Prelude.{ℕ, ◌≤◌, ◌⊎◌, not, ◌==◌, if◌then◌else◌, filter}
use Rattle.std.specs.Prelude.{List, [], ◌∷◌, ◌++◌, Option, Some, None, Result, Ok, Err}
use Rattle.vm_heap.specs.HeapMap.{HeapMap, block_end}
use Rattle.vm_heap.specs.Allocation.{malloced, freed}
use Rattle.vm_heap.specs.declared.block.Block.{Block}
use Rattle.vm_heap.specs.declared.fault.HeapFault.{HeapFault}
use Rattle.vm_heap.specs.declared.history.Call.{Call}
use Rattle.vm_heap.specs.declared.history.Call.TheVariants.{Malloc, Free}

-- a heap, and the blocks that were handed out and not freed since
pub record Holding : Type 0 where
  pub heap : HeapMap
  pub held : List Block

-- after a call of malloc: what it handed out is held too
abbrev pub handed : ℕ → List Block → Option ℕ × HeapMap → Holding
handed size held (Some at, heap) = record {
  heap = heap;
  held = held ++ record { at = at; length = size } ∷ [];
}
handed size held (None, heap) = record { heap = heap; held = held }

-- after a call of mfree: what began there is held no longer
abbrev pub block_given_back : ℕ → Holding → Result HeapMap HeapFault → Holding
block_given_back at s (Ok heap) = record {
  heap = heap;
  held = filter (λ b. not (b.at == at)) s.held;
}
block_given_back at s (Err fault) = s

-- after a call, where memory ends here before the first block; a malloc of 0 hands out nothing
abbrev pub holding_after_call : ℕ → Call → Holding → Holding
holding_after_call end (Malloc size) s =
    if size == 0 then s else handed size s.held (malloced s.heap size end)
holding_after_call end (Free at) s = block_given_back at s (freed s.heap at)

-- after calls in their order
abbrev pub holding_after_calls : ℕ → List Call → Holding → Holding
holding_after_calls end [] s = s
holding_after_calls end (call ∷ calls) s =
    holding_after_calls end calls (holding_after_call end call s)

-- a new heap
abbrev pub at_first : Holding
at_first = record { heap = record { start = 0; blocks = [] }; held = [] }

-- two blocks have no address in common
abbrev pub AreApart : Block → Block → Type 0
AreApart a b = (block_end a ≤ b.at) ⊎ (block_end b ≤ a.at)

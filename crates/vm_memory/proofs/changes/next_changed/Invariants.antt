use Rattle.std.proofs.Common.{◌≡◌, ◌≤◌, ◌<◌, ◌-◌, ℕ, slice_index}
use Rattle.vm_memory.specs.Pages.{byte_of}
use Rattle.vm_memory.proofs.changes.next_changed.Given as goal

abbrev pub invariant-loop-at : goal.invariant-loop-at
invariant-loop-at l = record {
  within : l.at ≤ l.size;
  least : l.from ≤ l.at;
  ram : l.ramstart ≤ l.at;
  same : (i : ℕ) → l.from ≤ i → i < l.at
      → byte_of l.rom l.ramstart l.rows i ≡ slice_index l.rom i;
}

abbrev pub decreases-loop-at : goal.decreases-loop-at
decreases-loop-at l = l.size - l.at

use Rattle.std.proofs.Common.{◌≡◌, ◌≤◌, ◌<◌, ◌-◌, ℕ, length, slice_index}
use Rattle.vm_memory.proofs.changes.passed.Given as goal

abbrev pub invariant-loop-at : goal.invariant-loop-at
invariant-loop-at l = record {
  within : l.at ≤ length l.these;
  least : l.from ≤ l.at;
  same : (k : ℕ) → l.from ≤ k → k < l.at → slice_index l.these k ≡ slice_index l.those k;
}

abbrev pub decreases-loop-at : goal.decreases-loop-at
decreases-loop-at l = length l.these - l.at

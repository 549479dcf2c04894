use Rattle.std.proofs.Common.{◌≡◌, ◌≤◌, ◌-◌, length, drop}
use Rattle.vm_stack.specs.Saved.{format_from}
use Rattle.vm_stack.proofs.saved.format_len.Given as goal

abbrev pub invariant-loop-at : goal.invariant-loop-at
invariant-loop-at l = record {
  same : format_from 0 l.bytes ≡ format_from l.at (drop l.at l.bytes);
  inside : l.at ≤ length l.bytes;
}

abbrev pub decreases-loop-at : goal.decreases-loop-at
decreases-loop-at l = length l.bytes - l.at

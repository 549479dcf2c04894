use Rattle.std.proofs.Common.{◌≤◌, length, take}
use Rattle.vm_stack.specs.Saved.{LinkedFrames}
use Rattle.vm_stack.proofs.saved.is_chain.Given as goal

abbrev pub invariant-loop-end : goal.invariant-loop-end
invariant-loop-end l = record {
  up : LinkedFrames (take l.end l.bytes) → LinkedFrames l.bytes;
  down : LinkedFrames l.bytes → LinkedFrames (take l.end l.bytes);
  inside : l.end ≤ length l.bytes;
}

abbrev pub decreases-loop-end : goal.decreases-loop-end
decreases-loop-end l = l.end

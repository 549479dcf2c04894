use Rattle.std.proofs.Common.{◌≡◌}
use Rattle.vm_string.specs.Walk.{walk, IsFitWay}
use Rattle.vm_string.proofs.walk.walk.Given as goal

-- the walk that is left gives what the whole walk gives
abbrev pub invariant-loop-node : goal.invariant-loop-node
invariant-loop-node l = record {
  same : walk l.left l.memory l.root l.way ≡ walk l.fn.left l.memory l.root l.fn.way;
  fit : IsFitWay l.way;
}

abbrev pub decreases-loop-node : goal.decreases-loop-node
decreases-loop-node l = l.left

use Rattle.std.proofs.Common.{◌≡◌, ℕ}
use Rattle.vm_string.specs.Walk.{walk, IsFitWay}
use Rattle.vm_string.proofs.descent.descend.Given as goal

-- the walk that is left gives what the whole walk gives
abbrev pub invariant-loop-left : goal.invariant-loop-left
invariant-loop-left l = record {
  same : (root : ℕ) → walk l.left l.memory root l.way ≡ walk l.fn.left l.memory root l.fn.way;
  fit : IsFitWay l.way;
}

abbrev pub decreases-loop-left : goal.decreases-loop-left
decreases-loop-left l = l.left

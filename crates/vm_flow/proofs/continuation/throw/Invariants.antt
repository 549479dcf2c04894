use Rattle.std.proofs.Common.{◌≡◌}
use Rattle.vm_stack.specs.Chain.{Chain}
use Rattle.vm_flow.specs.Throw.{thrown, thrown_in}
use Rattle.vm_flow.proofs.continuation.throw.Given as goal

abbrev pub invariant-loop-frames : goal.invariant-loop-frames
invariant-loop-frames l = record {
  same : thrown l.fn.stack l.fn.token ≡ thrown_in l.frames l.stack l.token;
  chain : Chain l.fn.stack → Chain l.stack;
}

abbrev pub decreases-loop-frames : goal.decreases-loop-frames
decreases-loop-frames l = l.frames

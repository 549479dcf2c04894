use Rattle.std.proofs.Common.{length}
use Rattle.host_top.proofs.RejoinLemmas.{JoinsSo}
use Rattle.host_top.proofs.serve.join_all.Given as goal

abbrev pub invariant-loop-passes : goal.invariant-loop-passes
invariant-loop-passes g l =
    JoinsSo l.host l.fn.roots l.roots l.fn.workers.items l.workers.items

abbrev pub decreases-loop-passes : goal.decreases-loop-passes
decreases-loop-passes g l = length l.workers.items

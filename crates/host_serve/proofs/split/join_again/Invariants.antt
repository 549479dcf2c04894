use Rattle.std.proofs.Common.{length}
use Rattle.session_desk.specs.Shared.{desk_tag}
use Rattle.host_serve.proofs.SplitLemmas.{JoinsBack}
use Rattle.host_serve.proofs.split.join_again.Given as goal

abbrev pub invariant-loop-pass : goal.invariant-loop-pass
invariant-loop-pass g l =
    JoinsBack desk_tag l.cells (length l.fn.newest.items) l.fn.roots l.roots l.newest.items

abbrev pub decreases-loop-pass : goal.decreases-loop-pass
decreases-loop-pass g l = length l.newest.items

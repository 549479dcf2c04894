use Rattle.std.proofs.Common.{length}
use Rattle.session_desk.specs.Shared.{desk_tag}
use Rattle.host_serve.specs.Hosts.{tags_in}
use Rattle.host_serve.proofs.JoinLemmas.{JoinsDown}
use Rattle.host_serve.proofs.host.Passes.join.Given as goal

abbrev pub invariant-loop-pass : goal.invariant-loop-pass
invariant-loop-pass g l = JoinsDown desk_tag (tags_in l.host) l.host.desks.items
    l.fn.self.desks.items l.fn.other.desks.items l.self.desks.items l.desks.items

abbrev pub decreases-loop-pass : goal.decreases-loop-pass
decreases-loop-pass g l = length l.desks.items

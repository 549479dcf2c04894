use Rattle.std.proofs.Common.{◌≡◌, drop}
use Rattle.host_world.specs.Events.{run}
use Rattle.host_world.proofs.following.follow_journal.Given as goal

abbrev pub invariant-loop-event : goal.invariant-loop-event
invariant-loop-event l =
    run l.stories l.budget l.state (drop l.event-index l.events)
    ≡ run l.stories l.budget l.fn.state l.events

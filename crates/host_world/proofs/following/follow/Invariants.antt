use Rattle.std.proofs.Common.{◌≡◌, drop}
use Rattle.host_world.specs.Puts.{AreOwnPuts}
use Rattle.host_world.specs.Whole.{whole_run}
use Rattle.host_world.proofs.following.follow.Given as goal

abbrev pub invariant-loop-event : goal.invariant-loop-event
invariant-loop-event l =
    (whole_run l.stories l.budget l.state (drop l.event-index l.events)
    ≡ whole_run l.stories l.budget l.fn.state l.events)
    × (AreOwnPuts l.stories l.budget l.state (drop l.event-index l.events)
    → AreOwnPuts l.stories l.budget l.fn.state l.events)

use Rattle.std.proofs.Common.{◌≡◌, drop}
use Rattle.store_events.specs.Events.{run_store}
use Rattle.store_events.proofs.following.follow.Given as goal

abbrev pub invariant-loop-event : goal.invariant-loop-event
invariant-loop-event l =
    run_store l.state (drop l.event-index l.events) ≡ run_store l.fn.state l.events

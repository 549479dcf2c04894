use Rattle.std.proofs.Common.{◌≡◌, ◌++◌, map, take, drop}
use Rattle.store_events.specs.Events.{begins_opening}
use Rattle.host_world.proofs.files.open_files.Given as goal

abbrev pub invariant-loop-at : goal.invariant-loop-at
invariant-loop-at l = l.stores.items ≡ map begins_opening (take l.at l.fn.stores.items)
    ++ drop l.at l.fn.stores.items

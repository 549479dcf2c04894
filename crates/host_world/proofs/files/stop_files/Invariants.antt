use Rattle.std.proofs.Common.{◌≡◌, ◌++◌, take, drop}
use Rattle.host_world.specs.Whole.{stopped_files}
use Rattle.host_world.proofs.files.stop_files.Given as goal

abbrev pub invariant-loop-at : goal.invariant-loop-at
invariant-loop-at l = l.stores.items
    ≡ stopped_files (take l.at l.fn.stores.items) (take l.at l.images)
    ++ drop l.at l.fn.stores.items

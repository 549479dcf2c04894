use Rattle.std.proofs.Common.{◌≡◌, map, take}
use Rattle.snap_machine.specs.Fields.{kept_state}
use Rattle.snap_machine.proofs.undo.undo_of.Given as goal

abbrev pub invariant-loop-state : goal.invariant-loop-state
invariant-loop-state l = l.states.items ≡ map kept_state (take l.state-index l.fields)

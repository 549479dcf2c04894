use Rattle.std.proofs.Common.{◌≡◌, map, take}
use Rattle.snap_machine.specs.Parts.{kept_fields}
use Rattle.snap_machine.proofs.undo.undo_fields_of.Given as goal

abbrev pub invariant-loop-state : goal.invariant-loop-state
invariant-loop-state l = l.fields.items ≡ map kept_fields (take l.state-index l.states)

use Rattle.std.proofs.Common.{◌≡◌, length}
use Rattle.vm_undo.specs.UndoList.{kept_weight, within_limits}
use Rattle.vm_undo.proofs.kept.shed.Given as goal

abbrev pub invariant-loop-states : goal.invariant-loop-states
invariant-loop-states l =
    within_limits kept_weight l.states.items ≡ within_limits kept_weight l.fn.states.items

abbrev pub decreases-loop-states : goal.decreases-loop-states
decreases-loop-states l = length l.states.items

use Rattle.std.proofs.Common.{ℕ, ◌<◌, get_or}
use Rattle.vm_undo.specs.UndoList.{IsHeld}
use Rattle.vm_undo.specs.declared.kept.KeptState.{KeptState}
use Rattle.vm_undo.proofs.kept.are_held.Given as goal

abbrev pub invariant-loop-state : goal.invariant-loop-state
invariant-loop-state l = (k : ℕ) (d : KeptState) → k < l.state-index
    → IsHeld l.endmem l.stack_size (get_or l.states k d)

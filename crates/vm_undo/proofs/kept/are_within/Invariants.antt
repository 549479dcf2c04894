use Rattle.std.proofs.Common.{◌≡◌, ◌≤◌, ◌*◌, ◌^◌, length, take}
use Rattle.std.specs.List.{sum_by}
use Rattle.vm_undo.specs.UndoList.{kept_weight}
use Rattle.vm_undo.proofs.kept.are_within.Given as goal

abbrev pub invariant-loop-state : goal.invariant-loop-state
invariant-loop-state l = record {
  few : length l.states ≤ 16;
  sum : l.weight ≡ sum_by kept_weight (take l.state-index l.states);
  bound : l.weight ≤ l.state-index * 2 ^ 68;
}

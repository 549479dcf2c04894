use Rattle.std.proofs.Common.{◌≡◌, ◌≤◌, ℕ, List, length, take, true}
use Rattle.std.specs.Prelude.{All}
use Rattle.std.specs.List.{list_all}
use Rattle.vm_undo.specs.UndoList.{IsKept, is_kept}
use Rattle.vm_undo.proofs.kept.are_kept.Given as goal

abbrev pub invariant-loop-state : goal.invariant-loop-state
invariant-loop-state l = record {
  value : list_all (is_kept l.ramstart l.endmem) (take l.state-index l.states) ≡ true;
  only : (rom : List ℕ) → l.ramstart ≤ length rom → length rom ≤ l.endmem
      → All (IsKept (record { ramstart = l.ramstart; rom = rom; endmem = l.endmem }))
      (take l.state-index l.states);
}

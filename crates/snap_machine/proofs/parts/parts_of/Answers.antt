use Rattle.std.proofs.Common.{subst}
use Rattle.std.specs.Prelude.{All}
use Rattle.vm_undo.specs.UndoList.{IsOfImage, UndoList}
use Rattle.snap_machine.proofs.parts.parts_of.Goals as goal

pub returns-clause-kept : goal.returns-clause-kept
returns-clause-kept c = record {
  memory = c.rom-rom.ensures.kept;
  undo = subst (λ (u : UndoList). All (IsOfImage u.origin) u.states) c.undo.ensures.value
      c.states.ensures.are;
}

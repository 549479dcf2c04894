use Rattle.std.proofs.Common.{subst}
use Rattle.vm_memory.specs.MemoryMap.{Origin}
use Rattle.vm_undo.specs.KeptList.{kept_in}
use Rattle.vm_undo.specs.UndoList.{KeepLimits, UndoList}
use Rattle.vm_undo.proofs.UndoLemmas.{keep_limits}
use Rattle.vm_undo.proofs.undo.Undo.has.Goals as goal

pub returns-clause-within : goal.returns-clause-within
returns-clause-within c =
    let i = c.self.inside in
    let o : Origin = record { ramstart = i.ramstart; rom = i.rom.now; endmem = i.endmem } in
    subst (λ (u : UndoList). KeepLimits u.states) c.self.view_is
    (keep_limits o (kept_in i.kept) c.self.invariant)

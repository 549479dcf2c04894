use Rattle.std.proofs.Common.{◌≡◌, ◌∙◌, Some, sym}
use Rattle.vm_memory.specs.MemoryMap.{origin_of}
use Rattle.vm_undo.specs.SavedState.{IsSavedOf}
use Rattle.vm_undo.specs.UndoList.{newest}
use Rattle.vm_undo.proofs.ListLemmas.{newest_all}
use Rattle.vm_exec.proofs.FitLemmas.{taken-fit}
use Rattle.vm_exec.proofs.machine.Machine.restore_undo.Goals as goal

pub returns-in-Ok-Some-clause-fit : goal.returns-in-Ok-Some-clause-fit
returns-in-Ok-Some-clause-fit c = λ fit.
    let m = c.args.self.now in
    let is : newest m.undo.states ≡ Some c.in-Ok-Some.state =
    sym c.in-Ok-Some.ensures.ok ∙ c.in-Ok-Some.field-0-is in
    c.resume.ensures.fit (taken-fit m c.restore.new.self c.in-Ok-Some.ensures.rest fit)
    (newest_all (IsSavedOf (origin_of m.memory)) m.undo.states c.in-Ok-Some.state fit.map.undo is)

pub returns-in-Ok-None-clause-fit : goal.returns-in-Ok-None-clause-fit
returns-in-Ok-None-clause-fit c = λ fit.
    c.store.ensures.fit
    (taken-fit c.args.self.now c.restore.new.self c.in-Ok-None.ensures.rest fit)

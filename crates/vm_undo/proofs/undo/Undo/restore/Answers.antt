use Rattle.std.proofs.Common.{◌≡◌, Some, sym, ◌∙◌}
use Rattle.vm_memory.specs.MemoryMap.{Origin}
use Rattle.vm_undo.specs.KeptList.{kept_in}
use Rattle.vm_undo.specs.UndoList.{newest}
use Rattle.vm_undo.proofs.UndoLemmas.{before_keeps, before_list, newest_kept, restored}
use Rattle.vm_undo.proofs.UndoLemmas.{restored_list}
use Rattle.vm_undo.proofs.undo.Undo.restore.Goals as goal

pub invariant_of-self : goal.invariant_of-self
invariant_of-self c =
    let i = c.self.inside in
    let o : Origin = record { ramstart = i.ramstart; rom = i.rom.now; endmem = i.endmem } in
    before_keeps o (kept_in i.kept) (kept_in c.take_newest.new.slot) c.self.invariant
    c.take_newest.ensures.rest

pub returns-in-Some-take_newest-clause-ok : goal.returns-in-Some-take_newest-clause-ok
returns-in-Some-take_newest-clause-ok c =
    let i = c.self.inside in
    let o : Origin = record { ramstart = i.ramstart; rom = i.rom.now; endmem = i.endmem } in
    let k = c.in-Some-take_newest.kept in
    let is : newest (kept_in i.kept) ≡ Some k =
    sym c.take_newest.ensures.value ∙ c.in-Some-take_newest.is in
    restored_list o (kept_in i.kept) k _ c.args.self.now c.self.view_is is
    (restored o (kept_in i.kept) c.in-Some.kept.now k c.as_slice.result.now
    c.in_ok-memory-in-Some.memory c.in-Some.ensures is c.as_slice.ensures.value
    c.in_ok-memory-in-Some.ensures)

pub returns-in-Some-take_newest-clause-rest : goal.returns-in-Some-take_newest-clause-rest
returns-in-Some-take_newest-clause-rest c =
    let i = c.self.inside in
    let o : Origin = record { ramstart = i.ramstart; rom = i.rom.now; endmem = i.endmem } in
    before_list o (kept_in i.kept) (kept_in c.take_newest.new.slot) c.args.self.now
    c.self.view_is c.take_newest.ensures.rest

pub returns-in-Some-take_newest-clause-heap : goal.returns-in-Some-take_newest-clause-heap
returns-in-Some-take_newest-clause-heap c =
    let i = c.self.inside in
    let o : Origin = record { ramstart = i.ramstart; rom = i.rom.now; endmem = i.endmem } in
    let is : newest (kept_in i.kept) ≡ Some c.in-Some-take_newest.kept =
    sym c.take_newest.ensures.value ∙ c.in-Some-take_newest.is in
    let kept = newest_kept o (kept_in i.kept) c.in-Some-take_newest.kept c.self.invariant.all is in
    kept.heap

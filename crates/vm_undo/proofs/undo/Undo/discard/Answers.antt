use Rattle.vm_memory.specs.MemoryMap.{Origin}
use Rattle.vm_undo.specs.KeptList.{kept_in}
use Rattle.vm_undo.proofs.UndoLemmas.{before_list}
use Rattle.vm_undo.proofs.undo.Undo.discard.Goals as goal

pub returns : goal.returns
returns c =
    let i = c.self.inside in
    let o : Origin = record { ramstart = i.ramstart; rom = i.rom.now; endmem = i.endmem } in
    record {
      ok = before_list o (kept_in i.kept) (kept_in c.take_newest.new.slot) c.args.self.now
          c.self.view_is c.take_newest.ensures.rest;
    }

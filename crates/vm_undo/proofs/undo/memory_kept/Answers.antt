use Rattle.vm_memory.specs.MemoryMap.{Origin}
use Rattle.vm_undo.proofs.UndoLemmas.{given}
use Rattle.vm_undo.proofs.undo.memory_kept.Goals as goal

pub prove-unreachable-requires : goal.prove-unreachable-requires
prove-unreachable-requires c =
    let o : Origin = record { ramstart = c.args.ramstart; rom = c.args.rom.now; endmem = c.args.endmem } in
    let none = rw c.in-Err-BadRuns.field-0-is at c.in-Err-BadRuns.ensures.exact in
    let some = given o c.args.contents.now c.requires.is in
    cc

use Rattle.std.proofs.Common.{◌∙◌, sym}
use Rattle.vm_memory.specs.MemoryMap.{Origin}
use Rattle.vm_undo.specs.KeptList.{kept_in}
use Rattle.vm_undo.proofs.ListLemmas.{states_are, states_kept}
use Rattle.vm_undo.proofs.undo.Undo.states.Goals as goal

pub returns : goal.returns
returns c =
    let i = c.self.inside in
    let o : Origin = record { ramstart = i.ramstart; rom = i.rom.now; endmem = i.endmem } in
    record {
      value = states_kept o (kept_in i.kept) c.args.self.now c.self.view_is c.self.invariant.all
          ∙ sym c.states_in.ensures;
      are = states_are o (kept_in i.kept) c.args.self.now c.self.view_is c.self.invariant.all;
    }

use Rattle.std.proofs.Common.{◌∙◌, ap, sym, subst, length}
use Rattle.vm_memory.specs.MemoryMap.{MemoryMap, IsNextChange}
use Rattle.vm_memory.proofs.ChangeLemmas.{next_change_is}
use Rattle.vm_memory.proofs.LaidLemmas.{length_laid}
use Rattle.vm_memory.proofs.memory.Memory.next_change.Goals as goal

pub returns : goal.returns
returns c =
    let i = c.self.inside in
    record {
      first =
          subst (λ (m : MemoryMap). IsNextChange m c.args.from c.next_changed.result)
          c.self.view_is
          (next_change_is i.rom.now i.ramstart i.rows.items i.size i.endmem c.args.from
          c.next_changed.result c.size.result
          (c.size.ensures.value ∙ ap (λ (m : MemoryMap). length m.bytes) (sym c.self.view_is)
          ∙ length_laid i.rom.now i.ramstart i.rows.items i.size)
          c.next_changed.ensures.from c.next_changed.ensures.within
          (rw c.deref.ensures.value at c.next_changed.ensures.same)
          (rw c.deref.ensures.value at c.next_changed.ensures.other));
    }

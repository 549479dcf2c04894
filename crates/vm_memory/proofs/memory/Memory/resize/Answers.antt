use Rattle.std.proofs.Common.{◌≡◌, ap, arith, rules}
use Rattle.vm_memory.specs.MemoryMap.{MemoryMap}
use Rattle.vm_memory.proofs.LaidLemmas.{laid_resized}
use Rattle.vm_memory.proofs.memory.Memory.resize.Goals as goal

pub returns-clause-ok : goal.returns-clause-ok
returns-clause-ok c =
    let m = c.self.inside in
    let endmem : m.endmem ≡ c.args.self.now.endmem =
    ap (λ (v : MemoryMap). v.endmem) c.self.view_is in
    let bytes =
    laid_resized m.rom.now m.ramstart m.rows.items c.cut.new.rows.items m.size c.args.size
    c.min.result (c.cut.ensures m.rom.now) c.min.ensures (omega arith) (omega arith)
    (omega arith) in
    rw (← c.self.view_is) (search (rules, bytes))

use Rattle.std.proofs.Common.{◌≡◌, ap, arith}
use Rattle.vm_memory.specs.MemoryMap.{MemoryMap, number_at}
use Rattle.vm_memory.proofs.LaidLemmas.{number_of_front}
use Rattle.vm_memory.proofs.memory.Memory.front_four.Goals as goal

pub returns-clause-value : goal.returns-clause-value
returns-clause-value c =
    let m = c.self.inside in
    let ramstart : m.ramstart ≡ c.args.self.now.ramstart =
    ap (λ (v : MemoryMap). v.ramstart) c.self.view_is in
    let view = ap (λ (v : MemoryMap). number_at 4 v.bytes c.args.at) c.self.view_is in
    let number =
    number_of_front m.rom.now m.ramstart m.rows.items m.size c.args.at 4 (omega arith)
    (omega arith) in
    omega (arith, c.read_u32.ensures, number, view)

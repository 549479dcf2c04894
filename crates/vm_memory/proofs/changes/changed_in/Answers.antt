use Rattle.std.proofs.Common.{arith, replicate, take}
use Rattle.std.proofs.lemmas.List.{length-take}
use Rattle.vm_memory.proofs.ChangeLemmas.{same_front, other_front, zeros_past}
use Rattle.vm_memory.proofs.changes.changed_in.Goals as goal

pub returns-then-rom-start-clause-same : goal.returns-then-rom-start-clause-same
returns-then-rom-start-clause-same c =
    same_front c.args.page.now (take c.args.end (replicate 256 0)) c.args.rom.now c.args.first
    c.args.end c.args.from c.first_other-then-rom-start.result
    (omega (arith, c.first_other-then-rom-start.ensures.within, length-take c.args.end c.args.page.now))
    (λ k inside. zeros_past c.args.rom.now c.args.first c.args.end 256 k (omega arith) inside)
    c.first_other-then-rom-start.ensures.same

pub returns-then-rom-start-clause-other : goal.returns-then-rom-start-clause-other
returns-then-rom-start-clause-other c = λ inside.
    other_front c.args.page.now (take c.args.end (replicate 256 0)) c.args.rom.now c.args.first
    c.args.end c.first_other-then-rom-start.result inside
    (λ k below. zeros_past c.args.rom.now c.args.first c.args.end 256 k (omega arith) below)
    (c.first_other-then-rom-start.ensures.other
    (omega (arith, inside, c.requires.held, length-take c.args.end c.args.page.now)))

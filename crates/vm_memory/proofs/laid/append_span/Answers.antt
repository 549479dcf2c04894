use Rattle.std.proofs.Common.{arith}
use Rattle.vm_memory.proofs.LaidLemmas.{append_byte}
use Rattle.vm_memory.proofs.laid.append_span.Goals as goal

pub loop-i-preserved : goal.loop-i-preserved
loop-i-preserved c = λ size fits.
    append_byte c.args.rom.now c.args.ramstart c.args.rows.now size c.args.at c.loop-i.i
    c.args.block.now.items c.loop-i.block.items c.push.new.self.items c.byte_at.result
    c.in_ok-push.ensures.items (c.loop-i.invariant size fits) c.byte_at.ensures (omega arith)
    (omega arith)

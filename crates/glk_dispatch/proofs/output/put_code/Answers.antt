use Rattle.std.proofs.Common.{[]}
use Rattle.glk_dispatch.specs.Answer.{glk_call}
use Rattle.glk_dispatch.proofs.CalledLemmas.{put_keeps, put_readies}
use Rattle.glk_dispatch.proofs.output.put_code.Goals as goal

-- no stack is at hand, and none is reached
pub returns-clause-kept : goal.returns-clause-kept
returns-clause-kept c =
    put_keeps (glk_call c.charge.new.self c.args.memory.now
    (record { bytes = []; frame = 0; limit = 0 })) c.spread_all.new.glk
    c.spread_all.new.memory c.args.stream c.args.code c.spread_all.result c.spread_all.ensures

pub returns-clause-valid : goal.returns-clause-valid
returns-clause-valid c =
    put_readies (glk_call c.args.glk.now c.args.memory.now
    (record { bytes = []; frame = 0; limit = 0 })) c.spread_all.new.glk
    c.spread_all.new.memory c.args.stream c.args.code c.spread_all.result
    (rw c.charge.ensures at c.spread_all.ensures)

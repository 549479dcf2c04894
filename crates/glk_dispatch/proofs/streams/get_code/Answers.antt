use Rattle.std.proofs.Common.{Ok, rules}
use Rattle.glk_dispatch.proofs.CalledLemmas.{got_readies}
use Rattle.glk_dispatch.proofs.streams.get_code.Goals as goal

pub returns-then-is_some-clause-valid : goal.returns-then-is_some-clause-valid
returns-then-is_some-clause-valid c =
    got_readies c.args.glk.now c.charge.new.self c.args.memory.now c.args.stream
    (Ok c.in_ok-code.code) (search rules)

pub returns-else-is_some-clause-valid : goal.returns-else-is_some-clause-valid
returns-else-is_some-clause-valid c =
    got_readies c.args.glk.now c.get_of_stream.new.glk c.args.memory.now c.args.stream
    (Ok c.in_ok-code.code) (search rules)

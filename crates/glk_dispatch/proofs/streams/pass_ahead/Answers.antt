use Rattle.std.proofs.Common.{rules}
use Rattle.glk_dispatch.proofs.CalledLemmas.{passed_readies}
use Rattle.glk_dispatch.proofs.streams.pass_ahead.Goals as goal

pub returns-clause-valid : goal.returns-clause-valid
returns-clause-valid c =
    passed_readies c.args.glk.now c.charge_all.new.self c.args.stream (search rules)

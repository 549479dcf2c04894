use Rattle.std.proofs.Common.{rules}
use Rattle.glk_dispatch.proofs.KeptCalls.{fresh-ready}
use Rattle.glk_dispatch.proofs.glk.Glk.new.Goals as goal

pub returns-clause-valid : goal.returns-clause-valid
returns-clause-valid c = fresh-ready _ c.args.cols c.args.rows (search rules)

use Rattle.std.proofs.Common.{rules, append_assoc}
use Rattle.host_drill.proofs.session.line_of.Goals as goal

pub returns : goal.returns
returns c = let h = c.format.ensures.ok in search (rules, append_assoc)

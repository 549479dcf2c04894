use Rattle.std.proofs.Common.{rules}
use Rattle.host_top.proofs.pack.packed_line.Goals as goal

pub returns : goal.returns
returns c = let h = c.format.ensures.ok in search (rules)

use Rattle.std.proofs.Common.{append_assoc, rules}
use Rattle.host_top.proofs.folder.snap_name.Goals as goal

pub returns : goal.returns
returns c = let h = c.format.ensures.ok in search (rules, append_assoc)

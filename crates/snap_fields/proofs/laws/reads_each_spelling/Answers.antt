use Rattle.snap_fields.proofs.WholeLaws.{each_spelling}
use Rattle.snap_fields.proofs.laws.reads_each_spelling.Goals as goal

pub returns : goal.returns
returns c = each_spelling

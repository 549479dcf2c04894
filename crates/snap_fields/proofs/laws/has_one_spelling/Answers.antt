use Rattle.snap_fields.proofs.WholeLaws.{one_spelling}
use Rattle.snap_fields.proofs.laws.has_one_spelling.Goals as goal

pub returns : goal.returns
returns c = one_spelling

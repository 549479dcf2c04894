use Rattle.snap_fields.proofs.WholeLaws.{no_other}
use Rattle.snap_fields.proofs.laws.begins_no_other.Goals as goal

pub returns : goal.returns
returns c = no_other

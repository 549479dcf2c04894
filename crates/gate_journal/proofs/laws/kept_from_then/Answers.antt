use Rattle.gate_journal.proofs.InTurnLemmas.{kept_from_then}
use Rattle.gate_journal.proofs.laws.kept_from_then.Goals as goal

pub returns : goal.returns
returns g c = kept_from_then g.D.Disk

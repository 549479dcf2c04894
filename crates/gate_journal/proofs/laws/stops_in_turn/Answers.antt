use Rattle.gate_journal.proofs.InTurnLemmas.{stops_in_turn}
use Rattle.gate_journal.proofs.laws.stops_in_turn.Goals as goal

pub returns : goal.returns
returns g c = stops_in_turn g.D.Disk

use Rattle.gate_journal.proofs.ReadingLemmas.{one_reading}
use Rattle.gate_journal.proofs.laws.has_one_reading.Goals as goal

pub returns : goal.returns
returns c = one_reading

use Rattle.gate_journal.proofs.CorruptLemmas.{one_place}
use Rattle.gate_journal.proofs.laws.has_one_corrupt_place.Goals as goal

pub returns : goal.returns
returns c = one_place

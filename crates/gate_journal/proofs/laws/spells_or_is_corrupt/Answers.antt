use Rattle.gate_journal.proofs.RowLemmas.{never_both}
use Rattle.gate_journal.proofs.laws.spells_or_is_corrupt.Goals as goal

pub returns : goal.returns
returns c = never_both

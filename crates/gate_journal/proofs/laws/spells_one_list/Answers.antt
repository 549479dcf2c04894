use Rattle.gate_journal.proofs.RowLemmas.{one_list}
use Rattle.gate_journal.proofs.laws.spells_one_list.Goals as goal

pub returns : goal.returns
returns c = one_list

use Rattle.gate_journal.proofs.StopLemmas.{finds_rows}
use Rattle.gate_journal.proofs.laws.opening_finds.Goals as goal

pub returns : goal.returns
returns c = finds_rows

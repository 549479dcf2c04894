use Rattle.store_events.proofs.RowLemmas.{rows_are_told}
use Rattle.store_events.proofs.law.rows_are_told.Goals as goal

pub returns : goal.returns
returns c = rows_are_told

use Rattle.store_events.proofs.RowLemmas.{begins_by_rows}
use Rattle.store_events.proofs.law.begins_by_rows.Goals as goal

pub returns : goal.returns
returns c = begins_by_rows

use Rattle.store_events.proofs.SessionLemmas.{stays_open}
use Rattle.store_events.proofs.law.stays_open.Goals as goal

pub returns : goal.returns
returns c = stays_open

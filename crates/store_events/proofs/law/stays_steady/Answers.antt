use Rattle.store_events.proofs.SessionLemmas.{stays_steady}
use Rattle.store_events.proofs.law.stays_steady.Goals as goal

pub returns : goal.returns
returns c = stays_steady

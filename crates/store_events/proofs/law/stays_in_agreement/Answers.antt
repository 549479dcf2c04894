use Rattle.store_events.proofs.SessionLemmas.{stays_in_agreement}
use Rattle.store_events.proofs.law.stays_in_agreement.Goals as goal

pub returns : goal.returns
returns c = stays_in_agreement

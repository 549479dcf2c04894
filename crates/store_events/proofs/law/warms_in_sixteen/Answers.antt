use Rattle.store_events.proofs.SessionLemmas.{warms_in_sixteen}
use Rattle.store_events.proofs.law.warms_in_sixteen.Goals as goal

pub returns : goal.returns
returns c = warms_in_sixteen

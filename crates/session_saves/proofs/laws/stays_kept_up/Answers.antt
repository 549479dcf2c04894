use Rattle.session_saves.proofs.KeptUpLemmas.{stays_kept_up}
use Rattle.session_saves.proofs.laws.stays_kept_up.Goals as goal

pub returns : goal.returns
returns c = stays_kept_up

use Rattle.session_saves.proofs.KeptUpLemmas.{is_within_sixteen}
use Rattle.session_saves.proofs.laws.is_within_sixteen.Goals as goal

pub returns : goal.returns
returns c = is_within_sixteen

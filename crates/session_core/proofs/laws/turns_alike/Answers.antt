use Rattle.session_core.proofs.WorldLemmas.{turns_alike}
use Rattle.session_core.proofs.laws.turns_alike.Goals as goal

pub returns : goal.returns
returns c = turns_alike

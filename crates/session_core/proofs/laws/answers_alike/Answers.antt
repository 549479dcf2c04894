use Rattle.session_core.proofs.WorldLemmas.{answers_alike}
use Rattle.session_core.proofs.laws.answers_alike.Goals as goal

pub returns : goal.returns
returns c = answers_alike

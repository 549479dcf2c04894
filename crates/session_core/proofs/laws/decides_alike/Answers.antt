use Rattle.session_core.proofs.WorldLemmas.{decides_alike}
use Rattle.session_core.proofs.laws.decides_alike.Goals as goal

pub returns : goal.returns
returns c = decides_alike

use Rattle.session_core.proofs.IsolationLemmas.{isolated}
use Rattle.session_core.proofs.laws.is_isolated.Goals as goal

pub returns : goal.returns
returns c = isolated

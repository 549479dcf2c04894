use Rattle.session_core.proofs.RepeatLemmas.{repeats}
use Rattle.session_core.proofs.laws.repeats_change_nothing.Goals as goal

pub returns : goal.returns
returns c = repeats

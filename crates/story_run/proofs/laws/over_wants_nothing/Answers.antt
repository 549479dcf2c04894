use Rattle.story_run.proofs.WorldLemmas.{over-wants}
use Rattle.story_run.proofs.laws.over_wants_nothing.Goals as goal

pub returns : goal.returns
returns c = over-wants

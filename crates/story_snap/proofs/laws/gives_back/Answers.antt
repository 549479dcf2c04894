use Rattle.story_snap.proofs.WorldLemmas.{world-back}
use Rattle.story_snap.proofs.laws.gives_back.Goals as goal

pub returns : goal.returns
returns c = world-back

use Rattle.story_run.proofs.WorldLemmas.{unwanted-turned}
use Rattle.story_run.proofs.laws.unwanted_leaves.Goals as goal

pub returns : goal.returns
returns c = unwanted-turned

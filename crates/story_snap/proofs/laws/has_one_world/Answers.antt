use Rattle.story_snap.proofs.WorldLemmas.{one-world}
use Rattle.story_snap.proofs.laws.has_one_world.Goals as goal

pub returns : goal.returns
returns c = one-world

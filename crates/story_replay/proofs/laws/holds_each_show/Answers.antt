use Rattle.story_replay.proofs.LawLemmas.{holds}
use Rattle.story_replay.proofs.laws.holds_each_show.Goals as goal

pub returns : goal.returns
returns c = holds

use Rattle.story_snap.proofs.WorldLemmas.{one-spelling}
use Rattle.story_snap.proofs.laws.has_one_spelling.Goals as goal

pub returns : goal.returns
returns c = one-spelling

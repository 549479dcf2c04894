use Rattle.story_run.proofs.ValidLemmas as lemmas
use Rattle.story_run.proofs.laws.glk_stays_valid.Goals as goal

pub returns : goal.returns
returns c = lemmas.glk_stays_valid

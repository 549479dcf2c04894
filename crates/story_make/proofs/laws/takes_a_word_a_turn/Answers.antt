use Rattle.story_make.proofs.ScriptLaws.{takes}
use Rattle.story_make.proofs.laws.takes_a_word_a_turn.Goals as goal

pub returns : goal.returns
returns c = takes

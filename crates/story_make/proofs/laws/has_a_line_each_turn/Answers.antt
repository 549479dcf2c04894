use Rattle.story_make.proofs.ScriptLaws.{has_lines}
use Rattle.story_make.proofs.laws.has_a_line_each_turn.Goals as goal

pub returns : goal.returns
returns c = has_lines

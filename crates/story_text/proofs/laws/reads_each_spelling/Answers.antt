use Rattle.story_text.proofs.TextLaws.{each_spelling}
use Rattle.story_text.proofs.laws.reads_each_spelling.Goals as goal

pub returns : goal.returns
returns c = each_spelling

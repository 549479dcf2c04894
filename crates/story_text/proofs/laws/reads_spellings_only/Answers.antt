use Rattle.story_text.proofs.TextLaws.{spells_only}
use Rattle.story_text.proofs.laws.reads_spellings_only.Goals as goal

pub returns : goal.returns
returns c = spells_only

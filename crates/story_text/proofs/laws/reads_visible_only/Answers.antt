use Rattle.story_text.proofs.TextLaws.{visible_only}
use Rattle.story_text.proofs.laws.reads_visible_only.Goals as goal

pub returns : goal.returns
returns c = visible_only

use Rattle.story_make.proofs.ScriptLaws.{reads}
use Rattle.story_make.proofs.laws.is_read_as_requests.Goals as goal

pub returns : goal.returns
returns c = reads

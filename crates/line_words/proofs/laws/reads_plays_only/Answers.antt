use Rattle.line_words.proofs.RequestLaws.{plays_only}
use Rattle.line_words.proofs.laws.reads_plays_only.Goals as goal

pub returns : goal.returns
returns c = plays_only

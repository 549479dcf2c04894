use Rattle.line_words.proofs.RequestLaws.{each_play}
use Rattle.line_words.proofs.laws.reads_each_play.Goals as goal

pub returns : goal.returns
returns c = each_play

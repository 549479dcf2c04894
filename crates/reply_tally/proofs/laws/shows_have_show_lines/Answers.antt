use Rattle.reply_tally.proofs.TurnLemmas.{turn_lines}
use Rattle.reply_tally.proofs.laws.shows_have_show_lines.Goals as goal

pub returns : goal.returns
returns c = turn_lines

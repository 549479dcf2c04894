use Rattle.line_talk.proofs.WritingLemmas.{stopped_at_once}
use Rattle.host_top.proofs.player.answer_line.Goals as goal

pub returns-clause-err : goal.returns-clause-err
returns-clause-err g c = stopped_at_once _ _

use Rattle.line_talk.proofs.WritingLemmas.{stopped_at_once}
use Rattle.host_serve.proofs.speaker.reply_with.Goals as goal

pub returns-in_default-clause-err : goal.returns-in_default-clause-err
returns-in_default-clause-err g c = stopped_at_once _ _

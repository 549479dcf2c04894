use Rattle.host_top.proofs.SpeechLemmas.{once_written, once_stopped}
use Rattle.host_top.proofs.once.say_once.Goals as goal

pub returns-in-Ok-clause-value : goal.returns-in-Ok-clause-value
returns-in-Ok-clause-value g c = λ input. once_written _ input c.in-Ok.ensures.ok

pub returns-in-Err-clause-value : goal.returns-in-Err-clause-value
returns-in-Err-clause-value g c =
    λ input. rw c.of_stop.ensures (once_stopped _ input c.in-Err.ensures.err)

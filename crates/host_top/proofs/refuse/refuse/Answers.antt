use Rattle.std.proofs.Common.{sym, Err}
use Rattle.std.proofs.lemmas.List.{append-nil}
use Rattle.host_top.proofs.SpeechLemmas.{spoken_refused, spoken_stopped}
use Rattle.host_top.proofs.refuse.refuse.Goals as goal

pub returns-in-Ok-clause-value : goal.returns-in-Ok-clause-value
returns-in-Ok-clause-value g c = λ input. spoken_refused _ input c.in-Ok.ensures.ok

pub returns-in-Err-clause-value : goal.returns-in-Err-clause-value
returns-in-Err-clause-value g c =
    λ input. rw c.of_stop.ensures (spoken_stopped (Err _) input _ (sym (append-nil _))
    c.in-Err.ensures.err)

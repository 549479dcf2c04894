use Rattle.host_serve.proofs.TurnLemmas.{dropped_turned}
use Rattle.host_serve.proofs.answer.to_dropped.Goals as goal

pub returns : goal.returns
returns c = λ stories budget seen line dropped. dropped_turned stories budget line seen dropped

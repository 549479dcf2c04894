use Rattle.host_serve.proofs.TurnLemmas.{absent_turned}
use Rattle.host_serve.proofs.answer.to_absent.Goals as goal

pub returns : goal.returns
returns c = λ stories budget seen read.
    absent_turned stories budget c.args._line.now c.args._request.now seen read c.requires

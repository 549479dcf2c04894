use Rattle.pack_laws.proofs.AnswerLemmas.{in_use}
use Rattle.pack_laws.proofs.laws.answers_in_use.Goals as goal

pub returns : goal.returns
returns c = in_use

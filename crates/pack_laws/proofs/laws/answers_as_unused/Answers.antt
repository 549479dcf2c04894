use Rattle.pack_laws.proofs.AnswerLemmas.{as_unused}
use Rattle.pack_laws.proofs.laws.answers_as_unused.Goals as goal

pub returns : goal.returns
returns c = as_unused

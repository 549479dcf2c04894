use Rattle.glk_streams.proofs.ValidLaws.{begins}
use Rattle.glk_streams.proofs.ValidCalls.{keeps}
use Rattle.glk_streams.proofs.laws.stays_valid.Goals as goal

pub returns-clause-begins : goal.returns-clause-begins
returns-clause-begins c = begins

pub returns-clause-stays : goal.returns-clause-stays
returns-clause-stays c = keeps

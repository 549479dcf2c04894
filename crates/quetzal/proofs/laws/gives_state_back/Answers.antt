use Rattle.quetzal.proofs.WriteLemmas.{state_given_back}
use Rattle.quetzal.proofs.laws.gives_state_back.Goals as goal

pub returns : goal.returns
returns c = state_given_back

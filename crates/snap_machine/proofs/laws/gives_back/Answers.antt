use Rattle.snap_machine.proofs.GiveLemmas.{given_back}
use Rattle.snap_machine.proofs.laws.gives_back.Goals as goal

pub returns : goal.returns
returns c = given_back

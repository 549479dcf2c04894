use Rattle.session_desk.proofs.AlikeLemmas as laws
use Rattle.session_desk.proofs.laws.shows_again.Goals as goal

pub returns : goal.returns
returns c = laws.shows_again

use Rattle.session_desk.proofs.AlikeLemmas as laws
use Rattle.session_desk.proofs.laws.refuses_alike.Goals as goal

pub returns : goal.returns
returns c = laws.refuses

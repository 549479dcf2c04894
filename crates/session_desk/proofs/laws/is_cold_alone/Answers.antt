use Rattle.session_desk.proofs.LawLemmas as laws
use Rattle.session_desk.proofs.laws.is_cold_alone.Goals as goal

pub returns : goal.returns
returns c = laws.cold_alone

use Rattle.session_desk.proofs.WarmLemmas as laws
use Rattle.session_desk.proofs.laws.stays_warm.Goals as goal

pub returns : goal.returns
returns c = laws.stays_warm

use Rattle.session_desk.proofs.BeginningLemmas.{beginnings_stay_agreed}
use Rattle.session_desk.proofs.laws.beginnings_stay_agreed.Goals as goal

pub returns : goal.returns
returns c = beginnings_stay_agreed

use Rattle.session_saves.proofs.AgreementLemmas.{new_opens}
use Rattle.session_saves.proofs.laws.new_opens_stay_agreed.Goals as goal

pub returns : goal.returns
returns c = new_opens

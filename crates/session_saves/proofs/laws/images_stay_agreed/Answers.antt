use Rattle.session_saves.proofs.AgreementLemmas.{images}
use Rattle.session_saves.proofs.laws.images_stay_agreed.Goals as goal

pub returns : goal.returns
returns g c = images g.D.Disk.seen

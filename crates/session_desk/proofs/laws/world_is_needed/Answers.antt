use Rattle.session_desk.proofs.NeedLemmas.{world_is_needed}
use Rattle.session_desk.proofs.laws.world_is_needed.Goals as goal

pub returns : goal.returns
returns c = world_is_needed

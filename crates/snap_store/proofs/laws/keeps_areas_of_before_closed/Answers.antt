use Rattle.snap_store.proofs.BeforeLemmas.{closed_before}
use Rattle.snap_store.proofs.laws.keeps_areas_of_before_closed.Goals as goal

pub returns : goal.returns
returns c = closed_before

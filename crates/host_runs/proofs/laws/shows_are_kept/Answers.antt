use Rattle.host_runs.proofs.ShowLemmas.{shows_kept}
use Rattle.host_runs.proofs.laws.shows_are_kept.Goals as goal

pub returns : goal.returns
returns c = shows_kept

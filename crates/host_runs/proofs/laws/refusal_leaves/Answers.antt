use Rattle.host_runs.proofs.LeavesLemmas.{refusals_run}
use Rattle.host_runs.proofs.laws.refusal_leaves.Goals as goal

pub returns : goal.returns
returns g c = refusals_run g.D.Disk

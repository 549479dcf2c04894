use Rattle.host_runs.proofs.LeavesLemmas.{pipe_runs}
use Rattle.host_runs.proofs.laws.pipe_leaves.Goals as goal

pub returns : goal.returns
returns g c = pipe_runs g.D.Disk

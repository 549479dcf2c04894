use Rattle.host_runs.proofs.CertainLemmas.{pipe_certain}
use Rattle.host_runs.proofs.laws.pipe_is_certain.Goals as goal

pub returns : goal.returns
returns g c = pipe_certain g.D.Disk

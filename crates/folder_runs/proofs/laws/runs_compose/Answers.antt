use Rattle.folder_runs.proofs.RunLemmas.{compose}
use Rattle.folder_runs.proofs.laws.runs_compose.Goals as goal

pub returns : goal.returns
returns c = compose

use Rattle.folder_runs.proofs.RunLemmas.{next_begins}
use Rattle.folder_runs.proofs.laws.next_run_begins.Goals as goal

pub returns : goal.returns
returns c = next_begins

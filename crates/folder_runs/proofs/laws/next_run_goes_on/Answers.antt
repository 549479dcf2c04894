use Rattle.folder_runs.proofs.RunLemmas.{next_goes_on}
use Rattle.folder_runs.proofs.laws.next_run_goes_on.Goals as goal

pub returns : goal.returns
returns c = next_goes_on

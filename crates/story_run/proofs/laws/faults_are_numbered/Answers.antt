use Rattle.story_run.proofs.FaultTurns as lemmas
use Rattle.story_run.proofs.laws.faults_are_numbered.Goals as goal

pub returns : goal.returns
returns c = lemmas.faults_are_numbered

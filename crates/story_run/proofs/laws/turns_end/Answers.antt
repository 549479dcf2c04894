use Rattle.story_run.proofs.BudgetLemmas.{steps-rest}
use Rattle.story_run.proofs.laws.turns_end.Goals as goal

pub returns : goal.returns
returns c = steps-rest

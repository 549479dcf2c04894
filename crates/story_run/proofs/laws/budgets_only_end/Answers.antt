use Rattle.story_run.proofs.BudgetLemmas.{rest-more}
use Rattle.story_run.proofs.laws.budgets_only_end.Goals as goal

pub returns : goal.returns
returns c = rest-more

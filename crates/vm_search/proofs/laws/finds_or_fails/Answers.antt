use Rattle.vm_search.proofs.LawLemmas as lemmas
use Rattle.vm_search.proofs.laws.finds_or_fails.Goals as goal

pub returns : goal.returns
returns c = lemmas.finds_or_fails

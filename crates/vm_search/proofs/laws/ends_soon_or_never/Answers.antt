use Rattle.vm_search.proofs.EndlessLemmas as lemmas
use Rattle.vm_search.proofs.laws.ends_soon_or_never.Goals as goal

pub returns : goal.returns
returns c = lemmas.ends_soon_or_never

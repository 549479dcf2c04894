use Rattle.vm_search.proofs.HalvingLemmas as lemmas
use Rattle.vm_search.proofs.laws.meets_or_misses.Goals as goal

pub returns : goal.returns
returns c = lemmas.meets_or_misses

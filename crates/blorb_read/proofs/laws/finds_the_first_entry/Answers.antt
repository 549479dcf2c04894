use Rattle.blorb_read.proofs.FirstLemmas as lemmas
use Rattle.blorb_read.proofs.laws.finds_the_first_entry.Goals as goal

pub returns : goal.returns
returns c = lemmas.finds_first

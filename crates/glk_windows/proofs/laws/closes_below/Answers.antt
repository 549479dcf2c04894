use Rattle.glk_windows.proofs.OwnLemmas as lemmas
use Rattle.glk_windows.proofs.laws.closes_below.Goals as goal

pub returns : goal.returns
returns c = lemmas.closes_below

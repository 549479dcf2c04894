use Rattle.glk_windows.proofs.ValidLemmas as lemmas
use Rattle.glk_windows.proofs.laws.keeps_valid.Goals as goal

pub returns : goal.returns
returns c = lemmas.keeps_valid

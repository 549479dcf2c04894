use Rattle.glk_windows.proofs.BelowLemmas as lemmas
use Rattle.glk_windows.proofs.laws.may_key_holds.Goals as goal

pub returns : goal.returns
returns c = lemmas.may_key_holds

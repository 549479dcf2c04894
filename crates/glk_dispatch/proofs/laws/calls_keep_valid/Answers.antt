use Rattle.glk_dispatch.proofs.KeptCalls as lemmas
use Rattle.glk_dispatch.proofs.laws.calls_keep_valid.Goals as goal

pub returns : goal.returns
returns c = lemmas.calls_keep_valid

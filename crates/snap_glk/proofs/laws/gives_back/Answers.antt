use Rattle.snap_glk.proofs.BackLemmas.{gives-back}
use Rattle.snap_glk.proofs.laws.gives_back.Goals as goal

pub returns : goal.returns
returns c = gives-back

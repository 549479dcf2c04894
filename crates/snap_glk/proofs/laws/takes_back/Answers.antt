use Rattle.snap_glk.proofs.BackLemmas.{takes-back}
use Rattle.snap_glk.proofs.laws.takes_back.Goals as goal

pub returns : goal.returns
returns c = takes-back

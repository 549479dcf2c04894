use Rattle.snap_glk.proofs.BackLemmas.{stands-begun}
use Rattle.snap_glk.proofs.laws.stands_between_turns.Goals as goal

pub returns : goal.returns
returns c = stands-begun

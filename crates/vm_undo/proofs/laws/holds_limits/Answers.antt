use Rattle.vm_undo.proofs.LimitLemmas.{holds}
use Rattle.vm_undo.proofs.laws.holds_limits.Goals as goal

pub returns : goal.returns
returns c = holds

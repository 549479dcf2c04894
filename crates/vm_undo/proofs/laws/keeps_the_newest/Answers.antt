use Rattle.vm_undo.proofs.LimitLemmas.{keeps_newest}
use Rattle.vm_undo.proofs.laws.keeps_the_newest.Goals as goal

pub returns : goal.returns
returns c = keeps_newest

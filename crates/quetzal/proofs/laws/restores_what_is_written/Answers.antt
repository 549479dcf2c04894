use Rattle.vm_undo.proofs.RunLemmas.{restored_again}
use Rattle.quetzal.proofs.laws.restores_what_is_written.Goals as goal

pub returns : goal.returns
returns c = restored_again

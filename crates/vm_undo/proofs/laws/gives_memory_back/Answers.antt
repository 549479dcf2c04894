use Rattle.vm_undo.proofs.ContentsLemmas.{given_back}
use Rattle.vm_undo.proofs.laws.gives_memory_back.Goals as goal

pub returns : goal.returns
returns c = given_back

use Rattle.vm_undo.proofs.ListLemmas.{list_back}
use Rattle.vm_undo.proofs.laws.gives_list_back.Goals as goal

pub returns : goal.returns
returns c = list_back

use Rattle.vm_undo.proofs.ContentsLemmas.{contents_back}
use Rattle.vm_undo.proofs.laws.gives_contents_back.Goals as goal

pub returns : goal.returns
returns c = contents_back

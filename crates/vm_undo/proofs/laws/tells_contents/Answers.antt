use Rattle.vm_undo.proofs.ContentsLemmas.{tells}
use Rattle.vm_undo.proofs.laws.tells_contents.Goals as goal

pub returns : goal.returns
returns c = tells

use Rattle.vm_undo.proofs.LayLemmas.{Laid}
use Rattle.vm_undo.proofs.contents.lay.Given as goal

abbrev pub invariant-loop-byte : goal.invariant-loop-byte
invariant-loop-byte l = Laid l.fn.memory l.runs l.memory l.size l.at l.due l.byte-index

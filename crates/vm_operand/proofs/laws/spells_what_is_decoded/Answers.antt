use Rattle.vm_operand.proofs.SpellingLemmas as lemmas
use Rattle.vm_operand.proofs.laws.spells_what_is_decoded.Goals as goal

pub returns : goal.returns
returns c = lemmas.spells_what_is_decoded

use Rattle.vm_operand.proofs.SpellingLemmas as lemmas
use Rattle.vm_operand.proofs.laws.decodes_what_is_spelled.Goals as goal

pub returns : goal.returns
returns c = lemmas.decodes_what_is_spelled

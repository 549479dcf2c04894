use Rattle.std.proofs.Common.{◌≡◌, ◌∙◌, ap, sym, subst, IfSome}
use Rattle.vm_operand.specs.Opcode.{opcode_number, op_of}
use Rattle.vm_operand.proofs.OpcodeLemmas.{op_of-number_of, number_of-op_of}
use Rattle.vm_operand.proofs.opcode.Op.of.Goals as goal

pub returns-clause-found : goal.returns-clause-found
returns-clause-found c = λ o e. c.lookup.ensures.value ∙ ap op_of (sym e) ∙ op_of-number_of o

pub returns-clause-only : goal.returns-clause-only
returns-clause-only c =
    subst (λ r. IfSome r (λ o. opcode_number o ≡ c.args.number)) (sym c.lookup.ensures.value)
    (number_of-op_of c.args.number)

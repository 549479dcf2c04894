use Rattle.std.proofs.Common.{rules}
use Rattle.vm_operand.specs.Opcode.{op_of, opcodes}
use Rattle.vm_operand.proofs.OpcodeLemmas.{passed}
use Rattle.vm_operand.proofs.opcode.lookup.Goals as goal

pub returns-in_default : goal.returns-in_default
unfolding op_of opcodes
returns-in_default c = search (rules, passed) depth 200

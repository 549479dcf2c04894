use Rattle.vm_operand.specs.declared.opcode.Op.TheVariants as op
use Rattle.vm_exec.proofs.RunLemmas.{goes_by}
use Rattle.vm_exec.proofs.machine.Machine.array_step.Goals as goal

pub returns-clause-does : goal.returns-clause-does
returns-clause-does c =
    goes_by c.args.self.now c.fetch_array.new.self c.array_on.new.self (op.Array c.args.array)
    c.in_ok-fetched.fetched c.array_on.result c.in_ok-fetched.ensures.fetched c.array_on.ensures.does (λ e. (c.array_on.ensures.want e, c.array_on.ensures.done e))

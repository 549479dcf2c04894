use Rattle.std.proofs.Common.{ℕ, Result, Ok, Option, subst, ◌∙◌, ap}
use Rattle.vm_operand.specs.declared.opcode.Op.{Op}
use Rattle.vm_exec.specs.Answer.{Does}
use Rattle.vm_exec.specs.Row.{charged, step_within, work_of, width_of}
use Rattle.vm_exec.specs.Rows.Work.{Work}
use Rattle.vm_exec.proofs.Told.{fetched_is}
use Rattle.vm_exec.proofs.machine.Machine.instruction.Goals as goal

pub returns-clause-does : goal.returns-clause-does
returns-clause-does c =
    let i = c.in_ok-instr.instr in
    let m = c.load_all.new.self in
    subst
    (λ (w : Result Work ℕ). Does (step_within c.args.left (charged w)) c.run.new.self c.run.result)
    (ap (λ (op : Option Op).
    Ok (work_of op (record m { pc = i.next }) c.load_all.new.args i.stores.items))
    c.of-op.ensures.value
    ∙ fetched_is c.args.self.now i (m, c.load_all.new.args) c.width_of.result
    (c.width_of.ensures.value ∙ ap width_of c.of-op.ensures.value)
    c.in_ok-instr.ensures.value c.in_ok-load_all.ensures.does)
    c.run.ensures.does

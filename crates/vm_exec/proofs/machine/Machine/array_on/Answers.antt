use Rattle.std.proofs.Common.{◌≡◌, ℕ, [], ◌∷◌, List, Result, Ok, Err, replicate, slice_index, subst}
use Rattle.std.proofs.Common.{sym}
use Rattle.vm_memory.specs.declared.fault.Trap.{Trap}
use Rattle.vm_operand.specs.declared.opcode.Op.{Op}
use Rattle.vm_operand.specs.declared.opcode.Op.TheVariants as op
use Rattle.vm_operand.specs.declared.operand.Dest.TheVariants as dest
use Rattle.vm_exec.specs.Answer.{Does}
use Rattle.vm_exec.specs.Fetch.{work_for}
use Rattle.vm_exec.specs.Row.{dest_by_index, work}
use Rattle.vm_exec.specs.Rows.Work.{budgeted}
use Rattle.vm_exec.specs.Run.{StaysOn, WorkGives}
use Rattle.vm_exec.specs.declared.fetch.Fetched.{Fetched}
use Rattle.vm_exec.specs.declared.machine.Machine.{Machine}
use Rattle.vm_exec.specs.declared.quick.Went.{Went}
use Rattle.vm_exec.specs.declared.step.Done.{Done}
use Rattle.vm_exec.proofs.RunLemmas.{work_quiet, works_err, works_handed, works_ok}
use Rattle.vm_exec.proofs.machine.Machine.array_on.Goals as goal

-- what work gave with these values it gave with those that were fetched
by_values : (o : Op) (m new : Machine) (q : Fetched) (args : List ℕ) (r : Result Done Trap)
    → args ≡ q.first ∷ q.second ∷ q.third ∷ q.fourth ∷ replicate 4 0
    → Does (budgeted 0 (work o m (slice_index args) (dest_by_index (q.to ∷ dest.Discard ∷ []))))
    new r
    → Does (budgeted 0 (work_for o m q)) new r
by_values o m new q args r is does =
    subst (λ (xs : List ℕ).
    Does (budgeted 0 (work o m (slice_index xs) (dest_by_index (q.to ∷ dest.Discard ∷ [])))) new r)
    is does

done : (c : goal.After-went)
    → budgeted 0 (work_for (op.Array c.args.array) c.args.self.now c.args.fetched)
    ≡ Ok (c.array_op.new.self, c.in_ok-done.done)
done c =
    by_values (op.Array c.args.array) c.args.self.now c.array_op.new.self c.args.fetched _
    (Ok c.in_ok-done.done) c.args-args.ensures c.in_ok-done.ensures.does

pub returns-in_err-done-clause-does : goal.returns-in_err-done-clause-does
returns-in_err-done-clause-does c =
    let e = c.in_err-done.field-0.0 in
    works_handed _ c.array_op.new.self e c.from_residual.result
    (works_err _ c.array_op.new.self e (work_quiet (op.Array c.args.array) _ _ _ tt)
    (by_values (op.Array c.args.array) c.args.self.now c.array_op.new.self c.args.fetched _ (Err e)
    c.args-args.ensures c.in_err-done.ensures.does))
    c.from_residual.ensures.1

pub returns-clause-does : goal.returns-clause-does
returns-clause-does c =
    subst (λ (g : Went). WorkGives (work_for (op.Array c.args.array) c.args.self.now c.args.fetched)
    c.array_op.new.self (Ok g)) (sym c.went.ensures)
    (works_ok _ c.array_op.new.self c.in_ok-done.done (work_quiet (op.Array c.args.array) _ _ _ tt)
    (done c)).0

pub returns-clause-fit : goal.returns-clause-fit
returns-clause-fit c = λ fit.
    subst (StaysOn c.array_op.new.self) (sym c.went.ensures)
    ((works_ok _ c.array_op.new.self c.in_ok-done.done (work_quiet (op.Array c.args.array) _ _ _ tt)
    (done c)).1 (c.in_ok-done.ensures.fit fit))

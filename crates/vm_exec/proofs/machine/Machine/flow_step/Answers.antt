use Rattle.std.proofs.Common.{◌≡◌, ℕ, Err, Ok, Result, subst}
use Rattle.vm_memory.specs.declared.fault.Trap.{Trap}
use Rattle.vm_memory.specs.declared.fault.Trap.TheVariants.{NoMemory}
use Rattle.vm_operand.specs.declared.opcode.Flow.{Flow}
use Rattle.vm_operand.specs.declared.opcode.Flow.TheVariants as flow
use Rattle.vm_operand.specs.declared.opcode.Op.TheVariants as op
use Rattle.vm_exec.specs.Fetch.{Fetches, work_for}
use Rattle.vm_exec.specs.Rows.Function.{flow_work}
use Rattle.vm_exec.specs.Run.{GoesBy, WorkGives}
use Rattle.vm_exec.specs.Want.{FlowMayWant, HasNoFault}
use Rattle.vm_exec.specs.declared.fetch.Fetched.{Fetched}
use Rattle.vm_exec.specs.declared.machine.Machine.{Machine}
use Rattle.vm_exec.specs.declared.quick.Went.{Went}
use Rattle.vm_exec.proofs.RunLemmas.{goes_by}
use Rattle.vm_exec.proofs.machine.Machine.flow_step.Goals as goal

-- a call or a return that was fetched goes by its rule
flow_goes : (m n new : Machine) (f g : Flow) (q : Fetched) (r : Result Went Trap)
    → f ≡ g → Fetches m (op.Flow f) n (Ok q)
    → WorkGives (work_for (op.Flow g) n q) new r
    → (r ≡ Err NoMemory
    → FlowMayWant g n q.first × HasNoFault (op.Flow g) (work_for (op.Flow g) n q)) → GoesBy m new r
flow_goes m n new f g q r e taken gives want =
    goes_by m n new (op.Flow g) q r
    (subst (λ (h : Flow). Fetches m (op.Flow h) n (Ok q)) e taken) gives want

pub returns-in_ok-fetched-in-Return-clause-does : goal.returns-in_ok-fetched-in-Return-clause-does
unfolding flow_work
returns-in_ok-fetched-in-Return-clause-does c =
    flow_goes _ _ _ _ flow.Return _ _ c.in-Return.is
    c.in_ok-fetched-in-Return.ensures.fetched c.give_back_on.ensures.does
    (λ e. (c.give_back_on.ensures.want e, c.give_back_on.ensures.done e))

pub returns-in_ok-fetched-in-Throw-clause-does : goal.returns-in_ok-fetched-in-Throw-clause-does
unfolding flow_work
returns-in_ok-fetched-in-Throw-clause-does c =
    flow_goes _ _ _ _ flow.Throw _ _ c.in-Throw.is
    c.in_ok-fetched-in-Throw.ensures.fetched c.throw_on.ensures.does
    (λ e. (tt, tt))

pub returns-in_ok-fetched-in-Tailcall-clause-does :
    goal.returns-in_ok-fetched-in-Tailcall-clause-does
unfolding flow_work
returns-in_ok-fetched-in-Tailcall-clause-does c =
    flow_goes _ _ _ _ flow.Tailcall _ _ c.in-Tailcall.is
    c.in_ok-fetched-in-Tailcall.ensures.fetched c.tailcall_on.ensures.does
    (λ e. (tt, tt))

pub returns-in_ok-fetched-in-Call-clause-does : goal.returns-in_ok-fetched-in-Call-clause-does
unfolding flow_work
returns-in_ok-fetched-in-Call-clause-does c =
    flow_goes _ _ _ _ flow.Call _ _ c.in-Call.is
    c.in_ok-fetched-in-Call.ensures.fetched c.call_with_on.ensures.does
    (λ e. (tt, tt))

pub returns-in_ok-fetched-in-Callf-clause-does : goal.returns-in_ok-fetched-in-Callf-clause-does
unfolding flow_work
returns-in_ok-fetched-in-Callf-clause-does c =
    flow_goes _ _ _ _ flow.Callf _ _ c.in-Callf.is
    c.in_ok-fetched-in-Callf.ensures.fetched c.call_on.ensures.does
    (λ e. ((λ front. c.call_on.ensures.want front e), tt))

pub returns-in_ok-fetched-in-Callfi-clause-does : goal.returns-in_ok-fetched-in-Callfi-clause-does
unfolding flow_work
returns-in_ok-fetched-in-Callfi-clause-does c =
    flow_goes _ _ _ _ flow.Callfi _ _ c.in-Callfi.is
    c.in_ok-fetched-in-Callfi.ensures.fetched c.call_on-in-Callfi.ensures.does
    (λ e. ((λ front. c.call_on-in-Callfi.ensures.want front e), tt))

pub returns-in_ok-fetched-in-Callfii-clause-does : goal.returns-in_ok-fetched-in-Callfii-clause-does
unfolding flow_work
returns-in_ok-fetched-in-Callfii-clause-does c =
    flow_goes _ _ _ _ flow.Callfii _ _ c.in-Callfii.is
    c.in_ok-fetched-in-Callfii.ensures.fetched c.call_on-in-Callfii.ensures.does
    (λ e. ((λ front. c.call_on-in-Callfii.ensures.want front e), tt))

pub returns-in_ok-fetched-in-Callfiii-clause-does :
    goal.returns-in_ok-fetched-in-Callfiii-clause-does
unfolding flow_work
returns-in_ok-fetched-in-Callfiii-clause-does c =
    flow_goes _ _ _ _ flow.Callfiii _ _ c.in-Callfiii.is
    c.in_ok-fetched-in-Callfiii.ensures.fetched c.call_on-in-Callfiii.ensures.does
    (λ e. ((λ front. c.call_on-in-Callfiii.ensures.want front e), tt))

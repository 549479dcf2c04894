use Rattle.std.proofs.Common.{subst}
use Rattle.std.specs.Prelude.{OnOk}
use Rattle.vm_stack.specs.StackState.{StackState}
use Rattle.vm_flow.specs.Call.{GetsLocals, GetsValues}
use Rattle.vm_flow.proofs.calls.tail_call.Goals as goal

pub returns-clause-locals : goal.returns-clause-locals
returns-clause-locals c =
    subst (λ (s : StackState). OnOk c.call.result
    (GetsLocals c.args.memory.now s c.args.at c.args.args.now c.call.new.stack))
    c.leave.ensures.ok c.call.ensures.locals

pub returns-clause-values : goal.returns-clause-values
returns-clause-values c =
    subst (λ (s : StackState). OnOk c.call.result
    (GetsValues c.args.memory.now s c.args.at c.args.args.now c.call.new.stack))
    c.leave.ensures.ok c.call.ensures.values

use Rattle.std.proofs.Common.{sym, subst, refl}
use Rattle.vm_stack.specs.StackState.{StackState}
use Rattle.vm_stack.specs.Chain.{EndsInOwnStub}
use Rattle.vm_flow.specs.Answer.{GivesOrStops}
use Rattle.vm_flow.specs.Return.{stub_or_end}
use Rattle.vm_flow.proofs.returns.give_back_in_steps.Goals as goal

pub returns : goal.returns
returns c = record {
  ok =
      subst
      (λ (s : StackState). GivesOrStops (stub_or_end s) c.take_top.new.stack c.take_top.result)
      c.leave.ensures.ok c.take_top.ensures.ok;
  chain = λ chain. c.take_top.ensures.ready (c.leave.ensures.ready chain);
  kept = λ chain. c.take_top.ensures.kept (c.leave.ensures.kept chain)
      (subst EndsInOwnStub (sym c.leave.ensures.ok) refl);
  there = λ chain. c.take_top.ensures.there (c.leave.ensures.kept chain);
}

use Rattle.vm_flow.proofs.LocalLemmas.{c1_begun}
use Rattle.vm_flow.proofs.ValueLemmas.{c0_begun}
use Rattle.vm_flow.proofs.calls.begin_in_steps.Goals as goal

pub returns-clause-locals : goal.returns-clause-locals
returns-clause-locals c = λ c1.
    c1_begun c.args.stack.now c.enter.new.self c.give.new.stack c.args.kind c.args.format.now
    c.args.args.now c.requires.format c.in_ok-enter.ensures.size c.in_ok-enter.ensures.ok
    c.in_ok-give.ensures.ok c1

pub returns-clause-values : goal.returns-clause-values
returns-clause-values c = λ c0.
    c0_begun c.args.stack.now c.enter.new.self c.give.new.stack c.args.kind c.args.format.now
    c.args.args.now c.in_ok-enter.ensures.ok c.in_ok-give.ensures.ok c0

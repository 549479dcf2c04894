use Rattle.glk_dispatch.specs.Answer.{glk_call}
use Rattle.glk_dispatch.proofs.CalledLemmas.{call_keeps, call_stands}
use Rattle.glk_dispatch.proofs.dispatch.call.Goals as goal

pub returns-in_ok-values-in-Some-clause-kept : goal.returns-in_ok-values-in-Some-clause-kept
returns-in_ok-values-in-Some-clause-kept c =
    call_keeps (glk_call c.args.glk.now c.args.memory.now c.args.stack.now) c.in-Some.call
    c.in-Some.count c.args.args
    c.take_arguments.new.stack c.in_ok-values-in-Some.values
    c.work.new.glk c.work.new.memory c.work.new.stack c.work.result c.in_ok-values-in-Some.ensures
    c.work.ensures

pub returns-in_ok-values-in-Some-clause-valid : goal.returns-in_ok-values-in-Some-clause-valid
returns-in_ok-values-in-Some-clause-valid c =
    call_stands (glk_call c.args.glk.now c.args.memory.now c.args.stack.now) c.in-Some.call
    c.in-Some.count c.args.args
    c.take_arguments.new.stack c.in_ok-values-in-Some.values
    c.work.new.glk c.work.new.memory c.work.new.stack c.work.result c.in_ok-values-in-Some.ensures
    c.work.ensures

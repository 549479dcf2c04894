use Rattle.std.proofs.Common.{◌+◌, ◌-◌, ◌∙◌, arith}
use Rattle.vm_exec.proofs.ArgumentLemmas.{copied_up-begin, copied_up-more}
use Rattle.vm_exec.proofs.ArgumentLemmas.{copied_up-stop, copied_up-end, one_less}
use Rattle.vm_exec.proofs.values.copy_up.Goals as goal

pub loop-init : goal.loop-init
loop-init c = record {
  same = copied_up-begin c.args.stack.now (c.args.count - 1) c.args.count;
  kept = λ chain there. (chain, there);
}

pub returns-in-Err-clause-does : goal.returns-in-Err-clause-does
returns-in-Err-clause-does c =
    rw c.of_stack.ensures
    (c.loop.invariant.same
    ∙ copied_up-stop c.loop.stack (c.args.count - 1) (c.args.count - c.loop.counter)
    (c.args.count - (c.loop.counter + 1)) c.in-Err.fault
    (one_less c.args.count c.loop.counter c.loop-test.true) c.in-Err.ensures.does)

pub loop-preserved : goal.loop-preserved
loop-preserved c = record {
  same =
      c.loop.invariant.same
      ∙ copied_up-more c.loop.stack c.copy_one.new.stack (c.args.count - 1)
      (c.args.count - c.loop.counter) (c.args.count - (c.loop.counter + 1))
      (one_less c.args.count c.loop.counter c.loop-test.true) c.in-Ok.ensures.does;
  kept = λ chain there.
      let old = c.loop.invariant.kept chain there in
      c.in-Ok.ensures.kept old.0 old.1;
}

pub returns-clause-does : goal.returns-clause-does
returns-clause-does c =
    c.loop.invariant.same
    ∙ copied_up-end c.loop.stack (c.args.count - 1) (c.args.count - c.loop.counter)
    (omega (arith, c.loop-test.false))

use Rattle.std.proofs.Common.{ℕ, ◌+◌, ◌-◌, ◌∙◌, ap, sym, arith, List}
use Rattle.vm_exec.specs.Rules as table
use Rattle.vm_exec.proofs.ArgumentLemmas.{with_front, arguments-begin, arguments-more}
use Rattle.vm_exec.proofs.ArgumentLemmas.{arguments-stop, arguments-end, one_less}
use Rattle.vm_exec.proofs.arguments.take_arguments.Goals as goal

pub loop-init : goal.loop-init
loop-init c = record {
  same = rw c.requires (arguments-begin c.args.stack.now c.args.count);
  kept = λ chain there. (chain, there);
}

pub returns-in-Err-clause-does : goal.returns-in-Err-clause-does
returns-in-Err-clause-does c =
    rw c.of_stack.ensures
    (c.loop.invariant.same
    ∙ arguments-stop c.loop.stack (c.args.count - c.loop.counter)
    (c.args.count - (c.loop.counter + 1)) c.in-Err.fault c.loop.args.items
    (one_less c.args.count c.loop.counter c.loop-test.true) c.in-Err.ensures.ok)

pub loop-preserved : goal.loop-preserved
loop-preserved c = record {
  same =
      c.loop.invariant.same
      ∙ arguments-more c.loop.stack c.pop.new.self c.in-Ok.value (c.args.count - c.loop.counter)
      (c.args.count - (c.loop.counter + 1)) c.loop.args.items
      (one_less c.args.count c.loop.counter c.loop-test.true) c.in-Ok.ensures.ok
      ∙ ap (λ (ys : List ℕ).
      with_front ys (table.arguments c.pop.new.self (c.args.count - (c.loop.counter + 1))))
      (sym c.in-Ok-push.ensures.ok);
  kept = λ chain there.
      let old = c.loop.invariant.kept chain there in
      (c.in-Ok.ensures.kept old.0, c.in-Ok.ensures.there old.0);
}

pub returns-clause-does : goal.returns-clause-does
returns-clause-does c =
    c.loop.invariant.same
    ∙ arguments-end c.loop.stack (c.args.count - c.loop.counter) c.loop.args.items
    (omega (arith, c.loop-test.false))

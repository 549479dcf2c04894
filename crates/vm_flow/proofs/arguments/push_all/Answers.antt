use Rattle.vm_flow.proofs.ArgumentLemmas.{all_pushed_stops}
use Rattle.vm_flow.proofs.arguments.push_all.Goals as goal

pub returns-in-Err-clause-ok : goal.returns-in-Err-clause-ok
returns-in-Err-clause-ok c =
    all_pushed_stops c.args.stack.now c.loop-left.stack c.args.values.now c.loop-left.left
    c.in-Err.fault c.loop-left-test.true c.loop-left.invariant.inside
    c.loop-left.invariant.same c.in-Err.ensures.ok

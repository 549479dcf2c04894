use Rattle.std.proofs.Common.{rules, arith, ◌≡◌, ◌<◌, ◌-◌, ◌+◌}
use Rattle.glk_dispatch.proofs.StepLemmas.{got_array-more, got_array-none}
use Rattle.glk_dispatch.proofs.streams.get_array.Goals as goal

pub returns-in_err-code : goal.returns-in_err-code
returns-in_err-code c =
    let h : 0 < c.args.most - c.loop-count.count = omega arith in
    rw (← c.loop-count.invariant.sofar, got_array-more) (search rules)

pub returns-in_default : goal.returns-in_default
returns-in_default c =
    let h : 0 < c.args.most - c.loop-count.count = omega arith in
    rw (← c.loop-count.invariant.sofar, got_array-more) (search rules)

pub returns-then-ends : goal.returns-then-ends
returns-then-ends c =
    let h : 0 < c.args.most - c.loop-count.count = omega arith in
    rw (← c.loop-count.invariant.sofar, got_array-more) (search rules)

pub loop-count-preserved : goal.loop-count-preserved
loop-count-preserved c =
    let h : 0 < c.args.most - c.loop-count.count = omega arith in
    let k : (c.args.most - c.loop-count.count) - 1 ≡ c.args.most - (c.loop-count.count + 1) =
    omega arith in
    record {
      below = omega arith;
      sofar = rw
          (← k, ← c.loop-count.invariant.sofar, got_array-more (c.args.most - c.loop-count.count))
          (search rules);
    }

pub returns : goal.returns
returns c =
    let h : c.args.most - c.loop-count.count ≡ 0 = omega arith in
    rw (← c.loop-count.invariant.sofar, h) (got_array-none _ _ _ _ _ _ _)

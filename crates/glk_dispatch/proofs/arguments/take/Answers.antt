use Rattle.std.proofs.Common.{rules, arith, ◌≡◌, ◌<◌, ◌-◌, ◌+◌}
use Rattle.glk_dispatch.proofs.StepLemmas.{taken-more, taken-none}
use Rattle.glk_dispatch.proofs.arguments.take.Goals as goal

pub returns-in_err-value : goal.returns-in_err-value
returns-in_err-value c =
    let h : 0 < c.args.given - c.loop-index.index = omega arith in
    rw (← c.loop-index.invariant.sofar, taken-more) (search rules)

pub loop-index-preserved : goal.loop-index-preserved
loop-index-preserved c =
    let h : 0 < c.args.given - c.loop-index.index = omega arith in
    let k : (c.args.given - c.loop-index.index) - 1 ≡ c.args.given - (c.loop-index.index + 1) =
    omega arith in
    record {
      below = omega arith;
      sofar = rw
          (← k, ← c.loop-index.invariant.sofar, taken-more (c.args.given - c.loop-index.index))
          (search rules);
    }

pub returns : goal.returns
returns c =
    let h : c.args.given - c.loop-index.index ≡ 0 = omega arith in
    rw (← c.loop-index.invariant.sofar, h) (taken-none _ _ _)

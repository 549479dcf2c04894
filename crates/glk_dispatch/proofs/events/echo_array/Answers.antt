use Rattle.std.proofs.Common.{rules, arith, ◌≡◌, ◌<◌}
use Rattle.glk_dispatch.proofs.StepLemmas.{echo_array-more, echo_array-none}
use Rattle.glk_dispatch.proofs.events.echo_array.Goals as goal

pub returns-in_err-echo_item : goal.returns-in_err-echo_item
returns-in_err-echo_item c =
    let h : 0 < c.loop-left.left = omega arith in
    rw (← c.loop-left.invariant, echo_array-more) (search rules)

pub loop-left-preserved : goal.loop-left-preserved
loop-left-preserved c =
    let h : 0 < c.loop-left.left = omega arith in
    rw (← c.loop-left.invariant, echo_array-more c.loop-left.left) (search rules)

pub returns : goal.returns
returns c =
    let h : c.loop-left.left ≡ 0 = omega arith in
    rw (← c.loop-left.invariant, h) (echo_array-none _ _ _ _ _)

use Rattle.std.proofs.Common.{rules, arith, ◌≡◌, ◌<◌}
use Rattle.glk_dispatch.proofs.StepLemmas.{put_array-more, put_array-none}
use Rattle.glk_dispatch.proofs.output.put_array.Goals as goal

pub returns-in_err-put_item : goal.returns-in_err-put_item
returns-in_err-put_item c =
    let h : 0 < c.loop-left.left = omega arith in
    rw (← c.loop-left.invariant, put_array-more) (search rules)

pub loop-left-preserved : goal.loop-left-preserved
loop-left-preserved c =
    let h : 0 < c.loop-left.left = omega arith in
    rw (← c.loop-left.invariant, put_array-more c.loop-left.left) (search rules)

pub returns : goal.returns
returns c =
    let h : c.loop-left.left ≡ 0 = omega arith in
    rw (← c.loop-left.invariant, h) (put_array-none _ _ _ _ _)

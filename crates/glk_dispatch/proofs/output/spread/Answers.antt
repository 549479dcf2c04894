use Rattle.std.proofs.Common.{rules, arith, ◌≡◌, ◌<◌}
use Rattle.glk_dispatch.proofs.StepLemmas.{spread-more, spread-none, spread-nowhere}
use Rattle.glk_dispatch.proofs.output.spread.Goals as goal

pub returns-in_err-put_once : goal.returns-in_err-put_once
returns-in_err-put_once c =
    let h : 0 < c.loop-left.left = omega arith in
    rw (← c.loop-left.invariant, spread-more) (search rules)

pub loop-left-preserved : goal.loop-left-preserved
loop-left-preserved c =
    let h : 0 < c.loop-left.left = omega arith in
    rw (← c.loop-left.invariant, spread-more c.loop-left.left) (search rules)

pub returns-else-stream-ne0 : goal.returns-else-stream-ne0
returns-else-stream-ne0 c =
    let h : c.loop-left.stream ≡ 0 = omega arith in
    rw (← c.loop-left.invariant, h) (spread-nowhere _ _ _ _)

pub returns-after-loop-left : goal.returns-after-loop-left
returns-after-loop-left c =
    let h : c.loop-left.left ≡ 0 = omega arith in
    rw (← c.loop-left.invariant, h) (spread-none _ _ _ _)

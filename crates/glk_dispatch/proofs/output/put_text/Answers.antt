use Rattle.std.proofs.Common.{rules, arith, ◌≡◌, ◌<◌}
use Rattle.glk_dispatch.proofs.StepLemmas.{put_text-more, put_text-none}
use Rattle.glk_dispatch.proofs.output.put_text.Goals as goal

pub returns-in_err-code : goal.returns-in_err-code
returns-in_err-code c =
    let h : 0 < c.loop-left.left = omega arith in
    rw (← c.loop-left.invariant, put_text-more) (search rules)

pub returns-then-code-eq0 : goal.returns-then-code-eq0
returns-then-code-eq0 c =
    let h : 0 < c.loop-left.left = omega arith in
    rw (← c.loop-left.invariant, put_text-more) (search rules)

pub returns-in_err-put_code : goal.returns-in_err-put_code
returns-in_err-put_code c =
    let h : 0 < c.loop-left.left = omega arith in
    rw (← c.loop-left.invariant, put_text-more) (search rules)

pub loop-left-preserved : goal.loop-left-preserved
loop-left-preserved c =
    let h : 0 < c.loop-left.left = omega arith in
    rw (← c.loop-left.invariant, put_text-more c.loop-left.left) (search rules)

pub returns : goal.returns
returns c =
    let h : c.loop-left.left ≡ 0 = omega arith in
    rw (← c.loop-left.invariant, h) (put_text-none _ _ _ _ _)

use Rattle.std.proofs.Common.{rules, arith, ◌≡◌, ◌<◌}
use Rattle.story_run.proofs.SaveLemmas.{rest_of-more, rest_of-none}
use Rattle.story_run.proofs.save.rest_of.Goals as goal

pub returns-in_err-code : goal.returns-in_err-code
returns-in_err-code c =
    let h : 0 < c.loop-left.left = omega arith in
    rw (
      ← c.loop-left.invariant,
      rest_of-more c.loop-left.left c.loop-left.glk c.args.memory.now
          c.args.stream c.loop-left.bytes.items h,
    ) (search rules)

pub returns-in_default : goal.returns-in_default
returns-in_default c =
    let h : 0 < c.loop-left.left = omega arith in
    rw (
      ← c.loop-left.invariant,
      rest_of-more c.loop-left.left c.loop-left.glk c.args.memory.now
          c.args.stream c.loop-left.bytes.items h,
    ) (search rules)

pub loop-left-preserved : goal.loop-left-preserved
loop-left-preserved c =
    let h : 0 < c.loop-left.left = omega arith in
    rw (
      ← c.loop-left.invariant,
      rest_of-more c.loop-left.left c.loop-left.glk c.args.memory.now
          c.args.stream c.loop-left.bytes.items h,
    ) (search rules)

pub returns : goal.returns
returns c =
    let h : c.loop-left.left ≡ 0 = omega arith in
    rw (← c.loop-left.invariant, h) (rest_of-none _ _ _ _)

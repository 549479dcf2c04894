use Rattle.std.proofs.Common.{arith, ◌<◌}
use Rattle.std.proofs.lemmas.Grind.{common_steps}
use Rattle.glk_windows.proofs.ReadingLemmas.{is_below-more, is_below-none}
use Rattle.glk_windows.proofs.arranging.is_below.Goals as goal

pub returns-then-at-pair : goal.returns-then-at-pair
returns-then-at-pair c =
    let h : 0 < c.loop-left.left = omega arith in
    let m : _ = is_below-more c.loop-left.left c.args.slots.now c.loop-left.at c.args.pair h in
    let i : _ = c.loop-left.invariant in
    grind (arith, common_steps, m, i, c.parent_at-at.ensures, c.if-at-pair.true)

pub loop-left-preserved : goal.loop-left-preserved
loop-left-preserved c =
    let h : 0 < c.loop-left.left = omega arith in
    let m : _ = is_below-more c.loop-left.left c.args.slots.now c.loop-left.at c.args.pair h in
    let i : _ = c.loop-left.invariant in
    grind (arith, common_steps, m, i, c.parent_at-at.ensures, c.if-at-pair.false)

pub returns : goal.returns
returns c =
    let m : _ =
    is_below-none c.loop-left.left c.args.slots.now c.loop-left.at c.args.pair (omega arith) in
    let i : _ = c.loop-left.invariant in
    grind (arith, common_steps, m, i)

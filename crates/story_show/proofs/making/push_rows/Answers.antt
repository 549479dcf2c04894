use Rattle.std.proofs.Common.{arith, ◌≡◌, ◌<◌, ◌-◌, ◌+◌, append_assoc}
use Rattle.std.proofs.lemmas.Grind.{common_steps}
use Rattle.story_show.proofs.RowLemmas.{row_parts-more, row_parts-none}
use Rattle.story_show.proofs.making.push_rows.Goals as goal

pub loop-y-preserved : goal.loop-y-preserved
loop-y-preserved c =
    let h : 0 < c.args.h - c.loop-y.y = omega arith in
    let m : _ = row_parts-more
    (c.args.h - c.loop-y.y) c.args.id c.loop-y.y c.args.w c.loop-y.rest.now h in
    let e : c.args.h - c.loop-y.y - 1 ≡ c.args.h - (c.loop-y.y + 1) = omega arith in
    let i : _ = c.loop-y.invariant in
    grind (
      arith,
      common_steps,
      append_assoc,
      m,
      e,
      i,
      c.in_ok-push.ensures.items,
      c.in_ok-text.ensures,
    )

pub returns : goal.returns
returns c =
    let m : _ = row_parts-none
    (c.args.h - c.loop-y.y) c.args.id c.loop-y.y c.args.w c.loop-y.rest.now (omega arith) in
    let i : _ = c.loop-y.invariant in
    grind (arith, common_steps, m, i)

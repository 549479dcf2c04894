use Rattle.std.proofs.Common.{arith, ◌<◌, append_assoc}
use Rattle.std.proofs.lemmas.Grind.{common_steps}
use Rattle.glk_windows.proofs.RowLemmas.{rows_sized-more, rows_sized-none}
use Rattle.glk_windows.proofs.resizing.push_rows.Goals as goal

pub loop-left-preserved : goal.loop-left-preserved
loop-left-preserved c =
    let h : 0 < c.loop-left.left = omega arith in
    let more : _ = rows_sized-more c.loop-left.left c.args.w c.args.old c.loop-left.rest.now h in
    let i : _ = c.loop-left.invariant in
    grind (arith, common_steps, append_assoc, more, i, c.in_ok-push_row.ensures)

pub returns : goal.returns
returns c =
    let none : _ =
    rows_sized-none c.loop-left.left c.args.w c.args.old c.loop-left.rest.now (omega arith) in
    let i : _ = c.loop-left.invariant in
    grind (arith, common_steps, none, i)

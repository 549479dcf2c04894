use Rattle.std.proofs.Common.{arith}
use Rattle.std.proofs.lemmas.Grind.{common_steps}
use Rattle.glk_numbers.proofs.NumberedLemmas.{changed_at-none, changed_at-some}
use Rattle.glk_windows.specs.Resizing.{sized}
use Rattle.glk_windows.specs.Tree.{window_number}
use Rattle.glk_windows.proofs.placing.size_at_number.Goals as goal

pub returns-in-None-clause-ok : goal.returns-in-None-clause-ok
returns-in-None-clause-ok c =
    changed_at-none window_number (sized c.args.area) _ _ c.in-None.ensures.value

pub returns-in-Some-clause-ok : goal.returns-in-Some-clause-ok
returns-in-Some-clause-ok c =
    let f =
    changed_at-some window_number (sized c.args.area) c.args.slots.now c.args.win c.in-Some.at
    c.index-slots-at.result c.resize.new.window c.in-Some.ensures.value in
    grind (arith, common_steps, f)

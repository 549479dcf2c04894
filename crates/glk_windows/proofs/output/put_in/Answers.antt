use Rattle.std.proofs.Common.{arith}
use Rattle.std.proofs.lemmas.Grind.{common_steps}
use Rattle.glk_numbers.proofs.NumberedLemmas.{changed_at-none, changed_at-some}
use Rattle.glk_windows.specs.Output.{window_put}
use Rattle.glk_windows.specs.Tree.{window_number}
use Rattle.glk_windows.proofs.output.put_in.Goals as goal

pub returns-in-None-clause-ok : goal.returns-in-None-clause-ok
returns-in-None-clause-ok c =
    changed_at-none window_number
    (λ w. window_put w c.args.code c.args.style) _ _ c.in-None.ensures.value

pub returns-in-Some-clause-ok : goal.returns-in-Some-clause-ok
returns-in-Some-clause-ok c =
    let f =
    changed_at-some window_number (λ w. window_put w c.args.code c.args.style) c.args.slots.now
    c.args.win c.in-Some.at c.index-slots-at.result c.put_window.new.window
    c.in-Some.ensures.value in
    grind (arith, common_steps, f)

use Rattle.glk_numbers.proofs.NumberedLemmas.{changed_at-none, changed_at-some}
use Rattle.glk_windows.specs.Output.{window_cleared}
use Rattle.glk_windows.specs.Tree.{window_number}
use Rattle.glk_windows.proofs.output.clear_in.Goals as goal

pub returns-in-None : goal.returns-in-None
returns-in-None c = changed_at-none window_number window_cleared _ _ c.in-None.ensures.value

pub returns-in-Some : goal.returns-in-Some
returns-in-Some c =
    changed_at-some window_number window_cleared _ _ _ c.index-slots-at.result _
    c.in-Some.ensures.value c.clear_window.ensures

use Rattle.glk_input.specs.Request.{changed_by, input_window_number}
use Rattle.glk_numbers.proofs.NumberedLemmas.{changed_at-none, changed_at-some}
use Rattle.glk_input.proofs.requests.change_at.Goals as goal

pub returns-in-None : goal.returns-in-None
returns-in-None c = changed_at-none input_window_number _ _ _ c.in-None.ensures.value

pub returns-in-Some : goal.returns-in-Some
returns-in-Some c =
    changed_at-some input_window_number (changed_by c.args.change) _ _ _ c.index-windows-at.result _
    c.in-Some.ensures.value c.apply.ensures

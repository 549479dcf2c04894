use Rattle.std.proofs.Common.{sym}
use Rattle.glk_numbers.proofs.PlaceLemmas.{without-none, without-some}
use Rattle.glk_windows.proofs.closing.take_out.Goals as goal
use Rattle.glk_windows.specs.Tree.{window_number}

pub returns-in-None : goal.returns-in-None
returns-in-None c =
    sym (without-none window_number _ _ (rw c.deref.ensures.value at c.in-None.ensures.value))

pub returns-in-Some : goal.returns-in-Some
returns-in-Some c =
    rw c.remove-gone.ensures.items
    (sym (without-some window_number _ _ _ (rw c.deref.ensures.value at c.in-Some.ensures.value)))

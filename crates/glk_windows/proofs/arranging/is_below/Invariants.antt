use Rattle.std.proofs.Common.{◌≡◌, length}
use Rattle.glk_windows.specs.Reading.{is_below}
use Rattle.glk_windows.proofs.arranging.is_below.Given as goal

abbrev pub invariant-loop-left : goal.invariant-loop-left
invariant-loop-left l =
    is_below (length l.slots) l.slots l.win l.pair ≡ is_below l.left l.slots l.at l.pair

abbrev pub decreases-loop-left : goal.decreases-loop-left
decreases-loop-left l = l.left

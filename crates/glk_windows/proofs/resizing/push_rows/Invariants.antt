use Rattle.std.proofs.Common.{◌≡◌, ◌++◌}
use Rattle.glk_windows.specs.Resizing.{rows_sized}
use Rattle.glk_windows.proofs.resizing.push_rows.Given as goal

-- the rows that are there and those that are left are all
abbrev pub invariant-loop-left : goal.invariant-loop-left
invariant-loop-left l =
    l.out.items ++ rows_sized l.left l.w l.old l.rest
    ≡ l.fn.out.items ++ rows_sized l.count l.w l.old l.cells

abbrev pub decreases-loop-left : goal.decreases-loop-left
decreases-loop-left l = l.left

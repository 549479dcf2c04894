use Rattle.std.proofs.Common.{◌≡◌, []}
use Rattle.glk_dispatch.specs.FileRefs as rows
use Rattle.glk_dispatch.proofs.filerefs.read_name.Given as goal

-- what is left to read gives what was to read
abbrev pub invariant-loop-left : goal.invariant-loop-left
invariant-loop-left l =
    rows.name_read l.left l.glk l.memory l.at l.name.items
    ≡ rows.name_read l.fn.most l.fn.glk l.memory l.from []

abbrev pub decreases-loop-left : goal.decreases-loop-left
decreases-loop-left l = l.left

use Rattle.std.proofs.Common.{◌≡◌, ◌++◌, ◌-◌}
use Rattle.story_show.specs.Making.{row_parts}
use Rattle.story_show.proofs.making.push_rows.Given as goal

-- the rows that are there and those that are left are all
abbrev pub invariant-loop-y : goal.invariant-loop-y
invariant-loop-y l =
    l.out.items ++ row_parts (l.h - l.y) l.id l.y l.w l.rest
    ≡ l.fn.out.items ++ row_parts l.h l.id 0 l.w l.cells

abbrev pub decreases-loop-y : goal.decreases-loop-y
decreases-loop-y l = l.h - l.y

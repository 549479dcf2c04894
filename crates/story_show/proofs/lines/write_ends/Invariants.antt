use Rattle.std.proofs.Common.{◌≡◌, ◌++◌, drop}
use Rattle.std.specs.List.{flat_map}
use Rattle.story_show.specs.Lines.{end_line}
use Rattle.story_show.proofs.lines.write_ends.Given as goal

-- the lines that are there and those that are left are all
abbrev pub invariant-loop-end : goal.invariant-loop-end
invariant-loop-end l =
    l.out.items ++ flat_map end_line (drop l.end-index l.ends)
    ≡ l.fn.out.items ++ flat_map end_line l.ends

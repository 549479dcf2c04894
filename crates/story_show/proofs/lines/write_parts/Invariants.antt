use Rattle.std.proofs.Common.{◌≡◌, ◌++◌, drop}
use Rattle.std.specs.List.{flat_map}
use Rattle.story_show.specs.Lines.{part_line}
use Rattle.story_show.proofs.lines.write_parts.Given as goal

-- the lines that are there and those that are left are all
abbrev pub invariant-loop-part : goal.invariant-loop-part
invariant-loop-part l =
    l.out.items ++ flat_map part_line (drop l.part-index l.parts)
    ≡ l.fn.out.items ++ flat_map part_line l.parts

use Rattle.std.proofs.Common.{◌≡◌, ◌++◌, drop}
use Rattle.std.specs.List.{flat_map}
use Rattle.story_show.specs.Lines.{place_line}
use Rattle.story_show.proofs.lines.write_places.Given as goal

-- the lines that are there and those that are left are all
abbrev pub invariant-loop-place : goal.invariant-loop-place
invariant-loop-place l =
    l.out.items ++ flat_map place_line (drop l.place-index l.places)
    ≡ l.fn.out.items ++ flat_map place_line l.places

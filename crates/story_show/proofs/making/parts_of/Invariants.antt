use Rattle.std.proofs.Common.{◌≡◌, ◌++◌, drop}
use Rattle.std.specs.List.{flat_map}
use Rattle.story_show.specs.Making.{window_parts}
use Rattle.story_show.proofs.making.parts_of.Given as goal

-- the parts that are there and those that are left are all
abbrev pub invariant-loop-window : goal.invariant-loop-window
invariant-loop-window l =
    l.out.items ++ flat_map window_parts (drop l.window-index l.windows)
    ≡ flat_map window_parts l.windows

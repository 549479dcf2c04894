use Rattle.std.proofs.Common.{◌≡◌, ◌++◌, drop}
use Rattle.std.specs.List.{flat_map}
use Rattle.story_show.specs.Making.{window_places}
use Rattle.story_show.proofs.making.places_of.Given as goal

-- the places that are there and those that are left are all
abbrev pub invariant-loop-window : goal.invariant-loop-window
invariant-loop-window l =
    l.out.items ++ flat_map window_places (drop l.window-index l.windows)
    ≡ flat_map window_places l.windows

use Rattle.std.proofs.Common.{◌≡◌, ◌++◌, drop}
use Rattle.std.specs.List.{flat_map}
use Rattle.story_run.specs.Show.{window_wants}
use Rattle.story_run.proofs.ends.wants_of.Given as goal

-- the wants that are there and those that are left are all
abbrev pub invariant-loop-window : goal.invariant-loop-window
invariant-loop-window l =
    l.ends.items ++ flat_map (window_wants l.memory) (drop l.window-index l.windows)
    ≡ flat_map (window_wants l.memory) l.windows

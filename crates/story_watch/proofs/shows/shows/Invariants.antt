use Rattle.std.proofs.Common.{◌≡◌, ◌-◌, ◌<◌, take}
use Rattle.session_core.specs.History.{world_of}
use Rattle.story_watch.specs.Watch.{shows_from}
use Rattle.story_watch.proofs.shows.shows.Given as goal

-- the shows up to this one are there, and the world is that behind the last of them
abbrev pub invariant-loop-n : goal.invariant-loop-n
invariant-loop-n l =
    (l.text.items ≡ shows_from l.fn.stories l.game l.s l.fn.from (l.n - l.fn.from))
    × (l.world ≡ world_of l.fn.stories (take l.n l.game))
    × (l.fn.from < l.n)

use Rattle.std.proofs.Common.{◌≡◌, ◌++◌, take}
use Rattle.session_core.specs.History.{world_of}
use Rattle.story_replay.specs.Text.{shows_below}
use Rattle.story_replay.proofs.text.push_shows.Given as goal

abbrev pub invariant-loop-number : goal.invariant-loop-number
invariant-loop-number g l =
    (l.world ≡ world_of l.stories (take l.number l.game.commands))
    × (l.text.items ≡ l.fn.text.items ++ shows_below l.stories l.game l.number)

use Rattle.std.proofs.Common.{◌≡◌, ◌++◌, drop}
use Rattle.story_replay.specs.Games.{games_in}
use Rattle.story_replay.proofs.gather.push_games.Given as goal

abbrev pub invariant-loop-at : goal.invariant-loop-at
invariant-loop-at l =
    l.games.items ++ games_in l.session (drop l.at l.rows)
    ≡ l.fn.games.items ++ games_in l.session l.rows

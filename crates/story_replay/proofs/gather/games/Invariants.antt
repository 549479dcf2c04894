use Rattle.std.proofs.Common.{◌≡◌}
use Rattle.story_replay.specs.Games.{games_below}
use Rattle.story_replay.proofs.gather.games.Given as goal

abbrev pub invariant-loop-session : goal.invariant-loop-session
invariant-loop-session l = l.games.items ≡ games_below l.session l.rows

use Rattle.std.proofs.Common.{◌≡◌, ◌++◌, drop}
use Rattle.story_replay.specs.Games.{commands_from}
use Rattle.story_replay.proofs.gather.push_commands.Given as goal

abbrev pub invariant-loop-at : goal.invariant-loop-at
invariant-loop-at l =
    l.commands ++ commands_from l.session (drop l.at l.rows)
    ≡ l.fn.commands ++ commands_from l.session l.rows

use Rattle.std.proofs.Common.{◌≡◌, ◌+◌, ◌≤◌, drop}
use Rattle.std.specs.List.{filter_map}
use Rattle.story_run.specs.Solo.{turned_by}
use Rattle.session_core.specs.History.{input_of}
use Rattle.session_core.specs.Turns.{turns_by}
use Rattle.session_core.proofs.world.play_on.Given as goal

abbrev pub invariant-loop-at : goal.invariant-loop-at
invariant-loop-at g l =
    (turned_by l.after (filter_map input_of (drop l.at l.commands))
    ≡ turned_by l.fn.world (filter_map input_of l.fn.commands))
    × (l.steps + turns_by l.after (filter_map input_of (drop l.at l.commands))
    ≡ l.fn.steps + turns_by l.fn.world (filter_map input_of l.fn.commands))
    × (l.fn.steps ≤ l.steps)

use Rattle.std.proofs.Common.{◌≡◌, ◌≤◌, length, drop}
use Rattle.session_core.specs.History.{game_of, later}
use Rattle.session_core.proofs.history.game_of.Given as goal

abbrev pub invariant-loop-at : goal.invariant-loop-at
invariant-loop-at l =
    (later l.game (game_of (drop l.at l.history)) ≡ game_of l.history)
    × (length l.game ≤ length l.history)

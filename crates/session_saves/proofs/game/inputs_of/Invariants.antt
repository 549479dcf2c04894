use Rattle.std.proofs.Common.{◌≡◌, ◌≤◌, ◌+◌, length, drop}
use Rattle.session_saves.specs.Game.{inputs_of}
use Rattle.session_saves.proofs.game.inputs_of.Given as goal

abbrev pub invariant-loop-at : goal.invariant-loop-at
invariant-loop-at l =
    (l.count + length (inputs_of (drop l.at l.game)) ≡ length (inputs_of l.fn.game))
    × (l.count ≤ l.at)

use Rattle.std.proofs.Common.{◌≡◌, drop}
use Rattle.session_saves.specs.Game.{inputs_of}
use Rattle.session_saves.proofs.game.behind.Given as goal

abbrev pub invariant-loop-at : goal.invariant-loop-at
invariant-loop-at l =
    drop l.left (inputs_of (drop l.at l.game)) ≡ drop l.fn.inputs (inputs_of l.fn.game)

use Rattle.std.proofs.Common.{◌≡◌, ◌++◌, map, take, drop}
use Rattle.glk_windows.specs.Closing.{unechoed}
use Rattle.glk_windows.proofs.closing.silence.Given as goal

abbrev pub invariant-loop-slot : goal.invariant-loop-slot
invariant-loop-slot l =
    l.slots ≡ map (unechoed l.stream) (take l.slot-index l.initial.slots)
    ++ drop l.slot-index l.initial.slots

use Rattle.std.proofs.Common.{◌≡◌, ◌++◌, map, take, drop}
use Rattle.glk_windows.specs.Closing.{unlinked}
use Rattle.glk_windows.proofs.closing.forget.Given as goal

abbrev pub invariant-loop-slot : goal.invariant-loop-slot
invariant-loop-slot l =
    l.slots ≡ map (unlinked l.key l.stream) (take l.slot-index l.initial.slots)
    ++ drop l.slot-index l.initial.slots

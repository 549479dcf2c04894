use Rattle.std.proofs.Common.{◌≡◌, ◌++◌, map, take, drop}
use Rattle.glk_windows.specs.Output.{window_kept}
use Rattle.glk_windows.proofs.output.keep_all.Given as goal

abbrev pub invariant-loop-slot : goal.invariant-loop-slot
invariant-loop-slot l =
    l.slots
    ≡ map window_kept (take l.slot-index l.initial.slots) ++ drop l.slot-index l.initial.slots

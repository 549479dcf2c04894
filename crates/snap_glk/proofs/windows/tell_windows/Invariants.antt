use Rattle.std.proofs.Common.{◌≡◌, length, map, take}
use Rattle.std.specs.List.{zip}
use Rattle.snap_glk.specs.Told.{window_told}
use Rattle.snap_glk.proofs.windows.tell_windows.Given as goal

abbrev pub invariant-loop-window : goal.invariant-loop-window
invariant-loop-window l =
    l.list.items ≡ map window_told (take (length l.yielded) (zip l.windows l.inputs))

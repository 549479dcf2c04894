use Rattle.std.proofs.Common.{◌≡◌, drop}
use Rattle.glk_windows.specs.OneTree.{once, shape_of}
use Rattle.glk_windows.proofs.valid.are_met.Given as goal

abbrev pub invariant-loop-window : goal.invariant-loop-window
invariant-loop-window l = record {
  sofar : once l.met (shape_of l.depth l.slots l.win)
      ≡ once (drop l.window-index l.met) (shape_of l.depth l.slots l.win);
}

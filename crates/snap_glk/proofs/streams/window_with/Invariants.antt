use Rattle.std.proofs.Common.{◌≡◌, drop}
use Rattle.snap_glk.specs.Made.{window_with}
use Rattle.snap_glk.proofs.streams.window_with.Given as goal

abbrev pub invariant-loop-window : goal.invariant-loop-window
invariant-loop-window l = record {
  sofar : window_with l.windows l.stream ≡ window_with (drop l.window-index l.windows) l.stream;
}

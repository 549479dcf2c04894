use Rattle.std.proofs.Common.{◌≡◌, drop}
use Rattle.glk_input.specs.Valid.{are_windows}
use Rattle.glk_input.proofs.valid.are_valid.Given as goal

abbrev pub invariant-loop-window : goal.invariant-loop-window
invariant-loop-window l = record {
  sofar : are_windows l.windows ≡ are_windows (drop l.window-index l.windows);
}

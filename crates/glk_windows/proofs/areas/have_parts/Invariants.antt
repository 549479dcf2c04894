use Rattle.std.proofs.Common.{◌≡◌, drop}
use Rattle.glk_windows.specs.Fields.{have_parts}
use Rattle.glk_windows.proofs.areas.have_parts.Given as goal

abbrev pub invariant-loop-window : goal.invariant-loop-window
invariant-loop-window l = record {
  sofar : have_parts l.slots l.slots ≡ have_parts l.slots (drop l.window-index l.slots);
}

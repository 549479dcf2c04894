use Rattle.std.proofs.Common.{◌≡◌, drop}
use Rattle.glk_windows.specs.Valid.{are_sound_windows}
use Rattle.glk_windows.proofs.valid.are_sound.Given as goal

abbrev pub invariant-loop-window : goal.invariant-loop-window
invariant-loop-window l = record {
  sofar : are_sound_windows l.slots ≡ are_sound_windows (drop l.window-index l.slots);
}

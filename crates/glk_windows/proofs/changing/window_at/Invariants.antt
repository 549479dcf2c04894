use Rattle.std.proofs.Common.{◌≡◌, drop}
use Rattle.glk_numbers.specs.Numbered.{found}
use Rattle.glk_windows.specs.Tree.{window_number}
use Rattle.glk_windows.proofs.changing.window_at.Given as goal

abbrev pub invariant-loop-slot : goal.invariant-loop-slot
invariant-loop-slot l = record {
  sofar : found window_number l.slots l.win ≡ found window_number (drop l.slot-index l.slots) l.win;
}

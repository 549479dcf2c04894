use Rattle.std.proofs.Common.{◌≡◌, ◌<◌, ◌+◌, length, slice_index, ℕ}
use Rattle.store_events.proofs.look.bytes_at.Given as goal

abbrev pub invariant-loop-i : goal.invariant-loop-i
invariant-loop-i l = record {
  size : length l.bytes ≡ 16;
  each : (k : ℕ) → k < l.i → slice_index l.bytes k ≡ slice_index l.file (l.at + k);
}

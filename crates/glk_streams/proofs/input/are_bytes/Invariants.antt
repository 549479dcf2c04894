use Rattle.std.proofs.Common.{ℕ, ◌<◌, slice_index}
use Rattle.glk_streams.proofs.input.are_bytes.Given as goal

abbrev pub invariant-loop-index : goal.invariant-loop-index
invariant-loop-index l = record {
  sofar : (k : ℕ) → k < l.index → slice_index l.bytes k < 256;
}

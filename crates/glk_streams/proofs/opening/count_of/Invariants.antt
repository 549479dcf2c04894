use Rattle.std.proofs.Common.{◌≡◌, ◌+◌, ◌≤◌, drop}
use Rattle.glk_streams.specs.Opening.{count_of}
use Rattle.glk_streams.proofs.opening.count_of.Given as goal

abbrev pub invariant-loop-stream : goal.invariant-loop-stream
invariant-loop-stream l = record {
  sofar : l.count + count_of (drop l.stream-index l.streams) ≡ count_of l.streams;
  bound : l.count ≤ l.stream-index;
}

use Rattle.std.proofs.Common.{◌≡◌, drop}
use Rattle.glk_streams.specs.Streams.{stream_of_window}
use Rattle.glk_streams.proofs.find.stream_of_window.Given as goal

abbrev pub invariant-loop-stream : goal.invariant-loop-stream
invariant-loop-stream l = record {
  sofar : stream_of_window l.items l.win ≡ stream_of_window (drop l.stream-index l.items) l.win;
}

use Rattle.std.proofs.Common.{◌≡◌, drop}
use Rattle.std.specs.List.{list_all}
use Rattle.glk_dispatch.specs.Fields.{stream_fits}
use Rattle.glk_dispatch.proofs.fields.streams_fit.Given as goal

abbrev pub invariant-loop-stream : goal.invariant-loop-stream
invariant-loop-stream l = record {
  sofar : list_all (stream_fits l.glk) l.stream-items
      ≡ list_all (stream_fits l.glk) (drop l.stream-index l.stream-items);
}

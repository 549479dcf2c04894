use Rattle.std.proofs.Common.{◌≡◌, ◌+◌, drop}
use Rattle.glk_streams.specs.Files.{spot_of}
use Rattle.glk_streams.proofs.file.spot_of.Given as goal

abbrev pub invariant-loop-index : goal.invariant-loop-index
invariant-loop-index l = record {
  sofar : spot_of l.list l.usage l.name ≡ l.index + spot_of (drop l.index l.list) l.usage l.name;
}

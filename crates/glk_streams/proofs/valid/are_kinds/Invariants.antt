use Rattle.std.proofs.Common.{◌≡◌, drop}
use Rattle.glk_streams.specs.Valid.{are_kinds}
use Rattle.glk_streams.proofs.valid.are_kinds.Given as goal

abbrev pub invariant-loop-file : goal.invariant-loop-file
invariant-loop-file l = record {
  sofar : are_kinds l.list ≡ are_kinds (drop l.file-index l.list);
}

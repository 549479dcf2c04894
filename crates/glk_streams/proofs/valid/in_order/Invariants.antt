use Rattle.std.proofs.Common.{◌≡◌, drop}
use Rattle.glk_streams.specs.Valid.{files_in_order}
use Rattle.glk_streams.proofs.valid.in_order.Given as goal

abbrev pub invariant-loop-index : goal.invariant-loop-index
invariant-loop-index l = record {
  sofar : files_in_order l.list ≡ files_in_order (drop l.index l.list);
}

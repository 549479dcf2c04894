use Rattle.std.proofs.Common.{◌≡◌, drop, nat_le}
use Rattle.glk_streams.specs.Files.{sum_of_bytes}
use Rattle.glk_streams.proofs.valid.is_within.Given as goal

abbrev pub invariant-loop-file : goal.invariant-loop-file
invariant-loop-file l = record {
  sofar : nat_le (sum_of_bytes l.list) 1048576
      ≡ nat_le (sum_of_bytes (drop l.file-index l.list)) l.left;
}

use Rattle.std.proofs.Common.{◌≡◌, ◌%◌, ◌^◌}
use Rattle.glulx_image.specs.Checksum.{sum_of_words}
use Rattle.glulx_image.proofs.checksum.sum_of.Given as goal

abbrev pub invariant-loop-k : goal.invariant-loop-k
invariant-loop-k l = l.sum ≡ sum_of_words l.bytes l.k % 2 ^ 32

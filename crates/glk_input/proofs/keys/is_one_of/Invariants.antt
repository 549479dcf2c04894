use Rattle.std.proofs.Common.{◌≡◌, drop}
use Rattle.glk_input.specs.Delivery.{is_among}
use Rattle.glk_input.proofs.keys.is_one_of.Given as goal

abbrev pub invariant-loop-k : goal.invariant-loop-k
invariant-loop-k l = is_among l.keys l.key ≡ is_among (drop l.k-index l.keys) l.key

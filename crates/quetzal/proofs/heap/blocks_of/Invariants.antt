use Rattle.std.proofs.Common.{◌≡◌, ◌++◌, ◌*◌, ◌/◌, ◌-◌, length, drop}
use Rattle.quetzal.specs.Heap.{blocks_in}
use Rattle.quetzal.proofs.heap.blocks_of.Given as goal

abbrev pub invariant-loop-index : goal.invariant-loop-index
invariant-loop-index l = record {
  sofar : l.blocks.items ++ blocks_in (length l.pairs / 8 - l.index) (drop (8 * l.index) l.pairs)
      ≡ blocks_in (length l.pairs / 8) l.pairs;
}

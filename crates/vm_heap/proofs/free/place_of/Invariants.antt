use Rattle.std.proofs.Common.{◌≡◌, ◌++◌, take, drop}
use Rattle.vm_heap.specs.Allocation.{begins, blocks_without}
use Rattle.vm_heap.proofs.free.place_of.Given as goal

abbrev pub invariant-loop-index : goal.invariant-loop-index
invariant-loop-index l = record {
  passed : begins l.at l.blocks ≡ begins l.at (drop l.index l.blocks);
  before : blocks_without l.at l.blocks
      ≡ take l.index l.blocks ++ blocks_without l.at (drop l.index l.blocks);
}

use Rattle.std.proofs.Common.{◌≡◌, ◌≤◌, drop}
use Rattle.vm_heap.specs.HeapMap.{in_order}
use Rattle.vm_heap.proofs.block.in_order.Given as goal

abbrev pub invariant-loop-block : goal.invariant-loop-block
invariant-loop-block l = record {
  small : l.from ≤ 8589934592;
  sofar : in_order l.start l.blocks ≡ in_order l.from (drop l.block-index l.blocks);
}

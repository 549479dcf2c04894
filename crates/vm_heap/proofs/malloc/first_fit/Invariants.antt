use Rattle.std.proofs.Common.{length, ◌-◌, ◌≡◌, ◌≤◌, ◌++◌, take, drop, IsTrue}
use Rattle.vm_heap.specs.HeapMap.{in_order}
use Rattle.vm_heap.specs.Allocation.{with_block}
use Rattle.vm_heap.specs.declared.block.Block.{Block}
use Rattle.vm_heap.proofs.FitLemmas.{walk}
use Rattle.vm_heap.proofs.malloc.first_fit.Given as goal

abbrev pub invariant-loop-index : goal.invariant-loop-index
invariant-loop-index l = record {
  room : l.index ≤ length l.blocks;
  order : IsTrue (in_order l.at (drop l.index l.blocks));
  walking : walk l.size l.start l.blocks ≡ walk l.size l.at (drop l.index l.blocks);
  behind : (new : Block) → l.at ≤ new.at
      → with_block new l.blocks ≡ take l.index l.blocks ++ with_block new (drop l.index l.blocks);
}

abbrev pub decreases-loop-index : goal.decreases-loop-index
decreases-loop-index l = length l.blocks - l.index

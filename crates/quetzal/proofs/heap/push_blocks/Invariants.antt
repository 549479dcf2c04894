use Rattle.std.proofs.Common.{◌≡◌, ◌++◌, drop}
use Rattle.quetzal.specs.Heap.{block_bytes}
use Rattle.quetzal.proofs.heap.push_blocks.Given as goal

abbrev pub invariant-loop-block : goal.invariant-loop-block
invariant-loop-block l = record {
  sofar : l.out.items ++ block_bytes (drop l.block-index l.blocks)
      ≡ l.fn.out.items ++ block_bytes l.blocks;
}

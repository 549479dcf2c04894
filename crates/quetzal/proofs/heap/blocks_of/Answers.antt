use Rattle.std.proofs.Common.{rules, ◌/◌, length}
use Rattle.quetzal.proofs.HeapLemmas.{blocks_end, blocks_step}
use Rattle.quetzal.proofs.heap.blocks_of.Goals as goal

pub loop-index-preserved : goal.loop-index-preserved
loop-index-preserved c = record {
  sofar = blocks_step (length c.args.pairs.now / 8) c.loop-index.index c.args.pairs.now
      c.loop-index.blocks.items _ _ c.loop-index-test.true c.loop-index.invariant.sofar
      (search rules);
}

pub returns : goal.returns
returns c =
    blocks_end (length c.args.pairs.now / 8) c.loop-index.index _ c.loop-index.blocks.items _
    c.loop-index-test.false c.loop-index.invariant.sofar

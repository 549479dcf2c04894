use Rattle.std.proofs.Common.{arith}
use Rattle.quetzal.proofs.PrintLemmas.{length-chunk}
use Rattle.quetzal.proofs.writer.push_heap.Goals as goal

pub push_chunk-requires : goal.push_chunk-requires
push_chunk-requires c =
    let fits = rw c.in-Some.is at c.requires in
    omega (arith, fits, length-chunk 0x4D416C6C c.in-Some.contents.now)

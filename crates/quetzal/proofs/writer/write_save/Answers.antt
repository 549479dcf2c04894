use Rattle.quetzal.specs.Chunks.{now_of}
use Rattle.quetzal.proofs.PrintLemmas.{parts_fit}
use Rattle.quetzal.proofs.writer.write_save.Goals as goal

pub push_chunk-requires : goal.push_chunk-requires
push_chunk-requires c =
    (parts_fit c.args.header.now c.args.memory.now c.args.stack.now
    (now_of c.args.heap) c.requires).0

pub push_chunk-requires-2 : goal.push_chunk-requires-2
push_chunk-requires-2 c =
    (parts_fit c.args.header.now c.args.memory.now c.args.stack.now
    (now_of c.args.heap) c.requires).1

pub push_chunk-requires-3 : goal.push_chunk-requires-3
push_chunk-requires-3 c =
    (parts_fit c.args.header.now c.args.memory.now c.args.stack.now
    (now_of c.args.heap) c.requires).2

pub push_heap-requires : goal.push_heap-requires
push_heap-requires c =
    (parts_fit c.args.header.now c.args.memory.now c.args.stack.now
    (now_of c.args.heap) c.requires).3

use Rattle.vm_heap.proofs.HeapLemmas.{start_within}
use Rattle.vm_heap.proofs.heap.Heap.start.Goals as goal

pub returns-clause-within : goal.returns-clause-within
returns-clause-within c =
    start_within c.self.inside.start c.self.inside.blocks.items c.self.invariant

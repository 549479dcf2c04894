use Rattle.std.proofs.Common.{arith, ◌≡◌, ◌∙◌, sym, subst, ◌++◌, ◌+◌, take, drop}
use Rattle.std.proofs.lemmas.Grind.{common_steps}
use Rattle.vm_heap.specs.Allocation.{blocks_without}
use Rattle.vm_heap.proofs.HeapLemmas.{is_heap-without}
use Rattle.vm_heap.proofs.heap.Heap.free.Goals as goal

pub invariant_of-self-else-is_empty : goal.invariant_of-self-else-is_empty
invariant_of-self-else-is_empty c =
    is_heap-without c.args.at c.self.inside.start c.self.inside.blocks.items
    c.remove.new.self.items c.self.invariant
    (c.remove.ensures.by_index.2
    ∙ sym (subst
    (λ xs. blocks_without c.args.at xs ≡ take c.in-Some.index xs ++ drop (c.in-Some.index + 1) xs)
    c.deref.ensures.value c.in-Some.ensures.others))
    (grind (arith, common_steps))

use Rattle.std.proofs.Common.{rules, arith, ◌≡◌, ◌<◌, ◌≤◌, ◌+◌, sym, subst, IsTrue}
use Rattle.std.proofs.lemmas.Grind.{common_steps}
use Rattle.vm_heap.specs.HeapMap.{is_heap, in_order}
use Rattle.vm_heap.specs.Allocation.{with_block}
use Rattle.vm_heap.specs.FirstFit.{first_fit}
use Rattle.vm_heap.proofs.FitLemmas.{first_fit-in_order, is_heap-with_block}
use Rattle.vm_heap.proofs.heap.Heap.malloc.Goals.{then-self-eq0, else-self-eq0}
use Rattle.vm_heap.proofs.heap.Heap.malloc.Goals as goal

pub invariant_of-self-2 : goal.invariant_of-self-2
invariant_of-self-2 c =
    let positive : 0 < c.if-self-eq0.start = elim c.if-self-eq0.branch [
      | then-self-eq0 w ↦ grind (arith, common_steps)
      | else-self-eq0 w ↦ grind (arith, common_steps)
    ] in
    let order : IsTrue (in_order c.if-self-eq0.start c.self.inside.blocks.items) = search rules in
    let items : c.insert.new.self.items
    ≡ with_block (record { at = c.first_fit-at.result.0; length = c.args.size })
    c.self.inside.blocks.items = search rules in
    let fit : c.first_fit-at.result.0
    ≡ first_fit c.if-self-eq0.start c.self.inside.blocks.items c.args.size = search rules in
    let room : c.first_fit-at.result.0 + c.args.size ≤ 16777216 = grind (arith, common_steps) in
    subst (λ xs. IsTrue (is_heap c.if-self-eq0.start xs)) (sym items)
    (is_heap-with_block c.if-self-eq0.start _ c.self.inside.blocks.items positive
    (first_fit-in_order c.self.inside.blocks.items c.if-self-eq0.start c.args.size
    c.first_fit-at.result.0 c.requires.size order fit room))

use Rattle.std.proofs.Common.{ap, sym, ◌∙◌}
use Rattle.vm_heap.proofs.HeapLemmas.{heap_end-last}
use Rattle.quetzal.specs.Heap.{is_placed}
use Rattle.quetzal.proofs.OrderLemmas.{fits-filled}
use Rattle.quetzal.proofs.heap.fits.Goals as goal

pub returns-then-is_heap : goal.returns-then-is_heap
returns-then-is_heap c =
    let last = heap_end-last c.args.blocks.now c.in-len1-up.len_at_least in
    let filled =
    fits-filled c.args.endmem c.args.size c.args.start c.args.blocks.now c.in-len1-up.len_at_least
    (sym c.is_heap.ensures.value ∙ c.if-is_heap.true) in
    c.is_placed.ensures
    ∙ ap (is_placed c.args.endmem c.args.size c.args.start) (sym last)
    ∙ sym filled

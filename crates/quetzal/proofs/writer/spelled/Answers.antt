use Rattle.std.proofs.Common.{rules, arith, ap, length}
use Rattle.vm_heap.proofs.HeapLemmas.{is_heap-order}
use Rattle.quetzal.proofs.WriteLemmas.{in_order-count, save_fits}
use Rattle.quetzal.proofs.writer.spelled.Goals as goal

pub write_heap-requires : goal.write_heap-requires
write_heap-requires c =
    let heap = c.args.state.now in
    let count = in_order-count heap.heap_start heap.heap
    (is_heap-order heap.heap_start heap.heap c.requires.saved.saved.heap.heap) in
    let same = ap length c.as_slice.ensures.value in
    omega (arith, count, same)

pub write_save-requires : goal.write_save-requires
write_save-requires c =
    let fits =
    save_fits c.args.image.now c.args.state.now c.ramstart-ramstart.ensures.kept c.requires in
    search (rules, fits)

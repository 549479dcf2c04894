use Rattle.std.proofs.Common.{sym}
use Rattle.vm_heap.proofs.HeapLemmas.{heap_end-last}
use Rattle.vm_undo.proofs.fits.end_of_heap.Goals as goal

pub returns-in-len1-up : goal.returns-in-len1-up
returns-in-len1-up c =
    rw (c.from.ensures, c.from-in-len1-up.ensures)
    (sym (heap_end-last c.args.blocks.now c.in-len1-up.len_at_least))

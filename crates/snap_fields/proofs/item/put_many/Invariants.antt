use Rattle.snap_fields.proofs.PutLemmas.{PutsFront}
use Rattle.snap_fields.proofs.item.put_many.Given as goal

abbrev pub invariant-loop-item : goal.invariant-loop-item
invariant-loop-item g l =
    PutsFront g.T.Item.print g.T.Item.is_printable l.items l.item-index l.fn.out.items l.out.items

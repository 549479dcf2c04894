use Rattle.snap_fields.proofs.PutLemmas.{at_place, puts_one_more, puts_all}
use Rattle.snap_fields.proofs.item.put_many.Goals as goal

pub write-requires : goal.write-requires
write-requires g c =
    at_place g.T.Item.has_counts c.args.items.now c.loop-item.item-index c.item-item.result
    c.loop-item-test.true c.item-item.is c.requires

pub loop-item-preserved : goal.loop-item-preserved
loop-item-preserved g c =
    puts_one_more g.T.Item.print g.T.Item.is_printable c.args.items.now c.loop-item.item-index
    c.item-item.result c.args.out.now.items c.loop-item.out.items c.write.new.out.items
    c.loop-item-test.true c.item-item.is c.loop-item.invariant c.in_ok-write.ensures

pub returns : goal.returns
returns g c =
    puts_all g.T.Item.print g.T.Item.is_printable c.args.items.now c.loop-item.item-index
    c.args.out.now.items c.loop-item.out.items c.loop-item-test.false c.loop-item.invariant

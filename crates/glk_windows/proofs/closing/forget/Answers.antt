use Rattle.std.proofs.Common.{arith, ◌<◌, length}
use Rattle.std.proofs.lemmas.List.Edits.{map_over_more}
use Rattle.glk_windows.specs.Closing.{unlinked}
use Rattle.glk_windows.proofs.closing.forget.Goals as goal

pub loop-slot-preserved : goal.loop-slot-preserved
loop-slot-preserved c =
    let h : c.loop-slot.slot-index < length c.args.slots.now = omega arith in
    let e = rw (← c.slot-item.is) at c.unlink.ensures in
    rw e (map_over_more (unlinked c.args.key c.args.stream)
    c.args.slots.now c.loop-slot.slots c.loop-slot.slot-index
    c.slot-item.result h c.loop-slot.invariant c.slot-item.is)

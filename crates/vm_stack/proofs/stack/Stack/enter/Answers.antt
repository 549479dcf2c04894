use Rattle.std.proofs.Common.{◌<◌, sym, arith, subst}
use Rattle.vm_stack.specs.Frame.{frame_len_of}
use Rattle.vm_stack.specs.Chain.{Chain}
use Rattle.vm_stack.proofs.ChainLemmas.{entered_keeps}
use Rattle.vm_stack.proofs.stack.Stack.enter.Goals as goal

pub returns-clause-kept : goal.returns-clause-kept
returns-clause-kept c = λ chain ready is.
    let room = c.has_room.ensures.within c.if-not-has_room.false in
    let fits : frame_len_of c.args.format.now < 4294967296 =
    rw (← c.locals_end.ensures.value) (let h = c.aligned-head.ensures.value in
    let l = c.aligned-locals.ensures.value in
    omega (arith, room, h, l)) in
    subst Chain (sym c.add_frame.ensures)
    (entered_keeps c.args.self.now c.args.format.now chain ready is fits)

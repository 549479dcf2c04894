use Rattle.std.proofs.Common.{sym, arith, subst}
use Rattle.vm_stack.specs.Chain.{Chain}
use Rattle.vm_stack.proofs.PlainLemmas.{plain_keeps}
use Rattle.vm_stack.proofs.stack.Stack.enter_plain.Goals as goal

pub returns-clause-kept : goal.returns-clause-kept
returns-clause-kept c = λ chain ready _.
    let room = c.has_room.ensures.within c.if-not-has_room.false in
    let same = c.from.ensures in
    subst Chain (sym c.add_plain.ensures)
    (plain_keeps c.args.self.now c.args.format.now c.args.values.now c.in-Some.count
    c.in-Some.ensures.plain c.in-Some.ensures.count (omega (arith, room, same)) chain ready)

use Rattle.vm_flow.proofs.LocalLemmas.{c1_begins, plain_frame}
use Rattle.vm_flow.proofs.calls.begin.Goals as goal

pub returns-then-enter_plain-clause-ok : goal.returns-then-enter_plain-clause-ok
returns-then-enter_plain-clause-ok c =
    let yes = c.if-enter_plain.true in
    c1_begins c.args.stack.now c.enter_plain.new.self c.args.kind c.args.at c.args.format.now
    c.args.args.now c.requires.format (c.enter_plain.ensures.size yes)
    (c.enter_plain.ensures.fits yes) c.if-kind-ne193.false
    (plain_frame c.args.stack.now c.enter_plain.new.self c.args.format.now c.args.args.now
    (c.enter_plain.ensures.plain yes) (c.enter_plain.ensures.made yes))

pub returns-then-enter_plain-clause-locals : goal.returns-then-enter_plain-clause-locals
returns-then-enter_plain-clause-locals c = λ c1.
    let yes = c.if-enter_plain.true in
    plain_frame c.args.stack.now c.enter_plain.new.self c.args.format.now c.args.args.now
    (c.enter_plain.ensures.plain yes) (c.enter_plain.ensures.made yes)

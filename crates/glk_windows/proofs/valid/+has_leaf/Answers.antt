use Rattle.std.proofs.Common.{arith, ◌<◌, sym, rules}
use Rattle.std.proofs.lemmas.Grind.{common_steps}
use Rattle.glk_windows.proofs.FieldLemmas.{shape_end, shape_fork, shape_leaf}
use Rattle.glk_windows.proofs.valid.+has_leaf.Goals as goal

pub returns-then-depth-eq0 : goal.returns-then-depth-eq0
returns-then-depth-eq0 t c =
    rw (shape_end c.args.depth c.args.slots.now c.args.win c.if-depth-eq0.true) (search rules)

pub returns-in-None : goal.returns-in-None
returns-in-None t c =
    rw (shape_leaf c.args.depth c.args.slots.now c.args.win (sym c.in-None.ensures)) (search rules)

pub returns-then-has_leaf : goal.returns-then-has_leaf
returns-then-has_leaf t c =
    let h : 0 < c.args.depth = omega arith in
    rw (shape_fork c.args.depth c.args.slots.now c.args.win c.in-Some.pair h
    (sym c.in-Some.ensures))
    (grind (arith, common_steps))

pub returns-else-has_leaf : goal.returns-else-has_leaf
returns-else-has_leaf t c =
    let h : 0 < c.args.depth = omega arith in
    rw (shape_fork c.args.depth c.args.slots.now c.args.win c.in-Some.pair h
    (sym c.in-Some.ensures))
    (grind (arith, common_steps))

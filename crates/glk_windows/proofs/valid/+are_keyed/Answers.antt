use Rattle.std.proofs.Common.{arith, ◌<◌, sym, rules}
use Rattle.std.proofs.lemmas.Grind.{common_steps}
use Rattle.glk_windows.proofs.FieldLemmas.{key_found, shape_end, shape_fork, shape_leaf}
use Rattle.glk_windows.proofs.valid.+are_keyed.Goals as goal

pub returns-then-depth-eq0 : goal.returns-then-depth-eq0
returns-then-depth-eq0 t c =
    rw (shape_end c.args.depth c.args.slots.now c.args.win c.if-depth-eq0.true) (search rules)

pub returns-in-None : goal.returns-in-None
returns-in-None t c =
    rw (shape_leaf c.args.depth c.args.slots.now c.args.win (sym c.in-None.ensures)) (search rules)

pub returns-then-are_keyed : goal.returns-then-are_keyed
returns-then-are_keyed t c =
    let h : 0 < c.args.depth = omega arith in
    rw (shape_fork c.args.depth c.args.slots.now c.args.win c.in-Some.pair h
    (sym c.in-Some.ensures))
    (rw (key_found c.args.slots.now c.args.win c.in-Some.pair (sym c.in-Some.ensures))
    (grind (arith, common_steps)))

pub returns-else-are_keyed : goal.returns-else-are_keyed
returns-else-are_keyed t c =
    let h : 0 < c.args.depth = omega arith in
    rw (shape_fork c.args.depth c.args.slots.now c.args.win c.in-Some.pair h
    (sym c.in-Some.ensures))
    (rw (key_found c.args.slots.now c.args.win c.in-Some.pair (sym c.in-Some.ensures))
    (grind (arith, common_steps)))

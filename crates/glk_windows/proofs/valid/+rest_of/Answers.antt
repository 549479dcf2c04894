use Rattle.std.proofs.Common.{arith, ◌<◌, sym}
use Rattle.glk_windows.specs.OneTree.{shape_of}
use Rattle.glk_windows.proofs.FieldLemmas.{rest-away, rest-cut, rest-fork, rest-full, rest-leaf}
use Rattle.glk_windows.proofs.FieldLemmas.{rest-none}
use Rattle.glk_windows.proofs.valid.+rest_of.Goals as goal
use Rattle.glk_windows.proofs.valid.+rest_of.Goals.{then-most-eq0-via-then-most-eq0}
use Rattle.glk_windows.proofs.valid.+rest_of.Goals.{
  then-most-eq0-via-else-most-eq0+then-not-is_under,
}

pub returns-then-most-eq0 : goal.returns-then-most-eq0
returns-then-most-eq0 t c = elim c.then-most-eq0.branch [
  | then-most-eq0-via-then-most-eq0 w ↦
      rest-full c.args.slots.now c.args.up (shape_of c.args.depth c.args.slots.now c.args.win)
      c.args.most w.if-most-eq0.true
  | then-most-eq0-via-else-most-eq0+then-not-is_under w ↦
      rest-away c.args.slots.now c.args.up c.args.depth c.args.win c.args.most
      (sym w.if-not-is_under.ensures)
]

pub returns-then-depth-eq0 : goal.returns-then-depth-eq0
returns-then-depth-eq0 t c =
    rest-cut c.args.slots.now c.args.up c.args.depth c.args.win c.args.most c.in-Some.pair
    c.if-depth-eq0.true (sym c.in-Some.ensures)

pub returns-in_err-rest-in-Some : goal.returns-in_err-rest-in-Some
returns-in_err-rest-in-Some t c =
    let h : 0 < c.args.depth = omega arith in
    let m : 0 < c.args.most = omega arith in
    rw c.from_residual.ensures
    (rest-none c.args.slots.now c.args.up c.args.depth c.args.win c.args.most c.in-Some.pair h m
    (sym c.in-Some.ensures) c.in_err-rest-in-Some.ensures)

pub returns-in-None : goal.returns-in-None
returns-in-None t c =
    let m : 0 < c.args.most = omega arith in
    rest-leaf c.args.slots.now c.args.up c.args.depth c.args.win c.args.most m
    (sym c.if-not-is_under.ensures) (sym c.in-None.ensures)

pub returns-in_ok-rest-in-Some : goal.returns-in_ok-rest-in-Some
returns-in_ok-rest-in-Some t c =
    let h : 0 < c.args.depth = omega arith in
    let m : 0 < c.args.most = omega arith in
    rest-fork c.args.slots.now c.args.up c.args.depth c.args.win c.args.most
    c.in_ok-rest-in-Some.rest c.in-Some.pair c.rest_of-in-Some.result h m
    (sym c.if-not-is_under.ensures) (sym c.in-Some.ensures) c.in_ok-rest-in-Some.ensures
    c.rest_of-in-Some.ensures

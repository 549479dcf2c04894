use Rattle.std.proofs.Common.{arith, ℕ, ◌<◌, ◌≤◌, ◌≡◌, ◌==◌, inl, inr, sym}
use Rattle.std.proofs.lemmas.Grind.{common_steps}
use Rattle.std.proofs.lemmas.Bool.{cases_Bool}
use mir.Val.{bool_byte}
use Rattle.glk_windows.proofs.FieldLemmas.{shape_end, shape_fork, shape_leaf, size_fork}
use Rattle.glk_windows.proofs.valid.+count_at.Goals as goal

-- whether it is this one, counted
here-one : (m n k : ℕ) → k ≡ bool_byte (m == n) → k ≤ 1
here-one m n k e = elim (cases_Bool (m == n)) [
  | inl h ↦ rw (e, h) (omega arith)
  | inr h ↦ rw (e, h) (omega arith)
]

pub returns-then-depth-eq0-clause-value : goal.returns-then-depth-eq0-clause-value
returns-then-depth-eq0-clause-value t c =
    rw (shape_end c.args.depth c.args.slots.now c.args.win c.if-depth-eq0.true)
    (grind (arith, common_steps))

pub returns-then-depth-eq0-clause-within : goal.returns-then-depth-eq0-clause-within
returns-then-depth-eq0-clause-within t c =
    rw (shape_end c.args.depth c.args.slots.now c.args.win c.if-depth-eq0.true)
    (grind (arith, common_steps))

pub count_at-requires : goal.count_at-requires
count_at-requires t c =
    let h : 0 < c.args.depth = omega arith in
    let r = size_fork c.args.depth c.args.slots.now c.args.win c.in-Some.pair h
    (sym c.in-Some.ensures) in
    (omega arith, omega (arith, r))

pub overflow_add-result : goal.overflow_add-result
overflow_add-result t c =
    let h : 0 < c.args.depth = omega arith in
    let r = size_fork c.args.depth c.args.slots.now c.args.win c.in-Some.pair h
    (sym c.in-Some.ensures) in
    let l = c.count_at.ensures.within in
    let k : c.from-here.result ≤ 1 =
    here-one c.args.win c.args.sought c.from-here.result c.from-here.ensures in
    omega (arith, r, l, k)

pub count_at-requires-in-Some : goal.count_at-requires-in-Some
count_at-requires-in-Some t c =
    let h : 0 < c.args.depth = omega arith in
    let r = size_fork c.args.depth c.args.slots.now c.args.win c.in-Some.pair h
    (sym c.in-Some.ensures) in
    (omega arith, omega (arith, r))

pub overflow_add-result-in-Some : goal.overflow_add-result-in-Some
overflow_add-result-in-Some t c =
    let h : 0 < c.args.depth = omega arith in
    let r = size_fork c.args.depth c.args.slots.now c.args.win c.in-Some.pair h
    (sym c.in-Some.ensures) in
    let l = c.count_at.ensures.within in
    let j = c.count_at-in-Some.ensures.within in
    let k : c.from-here.result ≤ 1 =
    here-one c.args.win c.args.sought c.from-here.result c.from-here.ensures in
    omega (arith, r, l, j, k)

pub returns-in-None-clause-value : goal.returns-in-None-clause-value
returns-in-None-clause-value t c =
    rw (shape_leaf c.args.depth c.args.slots.now c.args.win (sym c.in-None.ensures))
    (grind (arith, common_steps))

pub returns-in-None-clause-within : goal.returns-in-None-clause-within
returns-in-None-clause-within t c =
    rw (shape_leaf c.args.depth c.args.slots.now c.args.win (sym c.in-None.ensures))
    (grind (arith, common_steps))

pub returns-in-Some-clause-value : goal.returns-in-Some-clause-value
returns-in-Some-clause-value t c =
    let h : 0 < c.args.depth = omega arith in
    rw (shape_fork c.args.depth c.args.slots.now c.args.win c.in-Some.pair h
    (sym c.in-Some.ensures))
    (grind (arith, common_steps))

pub returns-in-Some-clause-within : goal.returns-in-Some-clause-within
returns-in-Some-clause-within t c =
    let h : 0 < c.args.depth = omega arith in
    rw (shape_fork c.args.depth c.args.slots.now c.args.win c.in-Some.pair h
    (sym c.in-Some.ensures))
    (grind (arith, common_steps))

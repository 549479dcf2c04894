use Rattle.std.proofs.Common.{◌⊎◌, inl, inr, [], ◌∷◌, ◌+◌, ◌++◌, List, ℕ, subst, sym, arith}
use Rattle.disk_model.specs.Disk.{Holds}
use Rattle.disk_model.proofs.Moments.{holds_now, weaker}
use Rattle.disk_model.proofs.WorkLaws.{through, then_, looser, failed}
use Rattle.disk_model.proofs.CountLaws.{good_then, failed_then}
use Rattle.gate_journal.specs.Gate.{IsShut, IsUnsure}
use Rattle.gate_journal.proofs.Steps.{shut_torn, shut_written, unsure_torn, unsure_opened}
use Rattle.gate_journal.proofs.gate.write_row.Goals as goal

-- the row failed, behind its closed gate
pub returns-in_default-clause-triple : goal.returns-in_default-clause-triple
returns-in_default-clause-triple g c front is =
    let past = c.args.past.now in
    failed {after = IsUnsure front past}
    (looser {later = λ f. IsShut front f ⊎ IsUnsure front past f} (λ f shut. inl shut)
    (through (c.args.gate + 1) past _ (g.met.D.Disk.seen_may_stay c.args.disk.now)
    c.write_through.ensures.ok c.write_through.ensures.crash
    (shut_torn front (c.args.gate + 1) _ (omega arith))
    (shut_written front past (c.args.gate + 1) (omega arith))))

pub returns-in_default-clause-before : goal.returns-in_default-clause-before
returns-in_default-clause-before g c is_before front is each told_then =
    let told = rw c.write_through.ensures.kept.telling at told_then in
    holds_now g.D.Disk c.args.disk.now c.write_through.new.disk (IsShut front)
    (g.met.D.Disk.counts_now c.write_through.new.disk)
    (weaker g.D.Disk c.args.disk.now c.write_through.new.disk _
    (IsShut front) (c.write_through.ensures.crash told)
    (λ f now.
    shut_torn front (c.args.gate + 1) _ (omega arith) f now.0 (each told now.0 now.1) now.2))

-- the gate's write failed, or its sync
pub returns-in_default-write_through-clause-triple :
    goal.returns-in_default-write_through-clause-triple
returns-in_default-write_through-clause-triple g c front is =
    let past = c.args.past.now in
    failed {after = λ f. Holds f 0 (front ++ 1 ∷ past)}
    (then_ {S = Unit {0}} {F = Unit {0}} {first = tt} (looser (λ f shut. inl shut)
    (through (c.args.gate + 1) past _
    (g.met.D.Disk.seen_may_stay c.args.disk.now) c.in-Ok.ensures.ok c.write_through.ensures.crash
    (shut_torn front (c.args.gate + 1) _ (omega arith))
    (shut_written front past (c.args.gate + 1) (omega arith))))
    c.write_through.ensures.kept.telling
    (looser (λ f unsure. inr unsure)
    (through c.args.gate (1 ∷ []) _ (g.met.D.Disk.seen_may_stay c.write_through.new.disk)
    c.write_through-2.ensures.ok c.write_through-2.ensures.crash
    (unsure_torn front past c.args.gate is) (unsure_opened front past c.args.gate is))))

pub returns-in_default-write_through-clause-at_gate :
    goal.returns-in_default-write_through-clause-at_gate
returns-in_default-write_through-clause-at_gate g c is_at front is each told_last =
    let told_then = rw c.write_through-2.ensures.kept.telling at told_last in
    let told = rw c.write_through.ensures.kept.telling at told_then in
    let past = c.args.past.now in
    let seen = g.D.Disk.seen c.args.disk.now in
    let unsure : (f : List ℕ)
    → g.D.Disk.may_leave c.write_through.new.disk f
    → IsUnsure front past f = λ f now.
    subst (λ (l : List ℕ). IsUnsure front past l) (sym (c.in-Ok.ensures.ok told f now))
    (shut_written front past (c.args.gate + 1) (omega arith) seen
    (each told seen (g.met.D.Disk.seen_may_stay c.args.disk.now))) in
    holds_now g.D.Disk c.write_through.new.disk c.write_through-2.new.disk (IsUnsure front past)
    (g.met.D.Disk.counts_now c.write_through-2.new.disk)
    (weaker g.D.Disk c.write_through.new.disk c.write_through-2.new.disk
    _ (IsUnsure front past) (c.write_through-2.ensures.crash told_then)
    (λ f now. unsure_torn front past c.args.gate is f now.0 (unsure now.0 now.1) now.2))

-- and both were durable
pub returns-clause-triple : goal.returns-clause-triple
returns-clause-triple g c front is =
    let past = c.args.past.now in
    then_ {S = Unit {0}} {F = Unit {0}} {first = tt} (looser (λ f shut. inl shut)
    (through (c.args.gate + 1) past _
    (g.met.D.Disk.seen_may_stay c.args.disk.now) c.in-Ok.ensures.ok c.write_through.ensures.crash
    (shut_torn front (c.args.gate + 1) _ (omega arith))
    (shut_written front past (c.args.gate + 1) (omega arith))))
    c.write_through.ensures.kept.telling
    (looser (λ f unsure. inr unsure)
    (through c.args.gate (1 ∷ []) _ (g.met.D.Disk.seen_may_stay c.write_through.new.disk)
    c.in-Ok-write_through.ensures.ok c.write_through-2.ensures.crash
    (unsure_torn front past c.args.gate is) (unsure_opened front past c.args.gate is)))

-- the device calls: the first two are of the row, the next two of its gate
pub returns-in_default-clause-row_failed : goal.returns-in_default-clause-row_failed
returns-in_default-clause-row_failed g c is_before told = c.in_default.ensures.calls told

pub returns-in_default-write_through-clause-gate_failed :
    goal.returns-in_default-write_through-clause-gate_failed
returns-in_default-write_through-clause-gate_failed g c is_at told =
    let told_then = rw (← c.write_through.ensures.kept.telling) at told in
    let at = c.in_default-write_through.ensures.calls told_then in (
      at.0,
      at.1,
      failed_then 2 at.0 _ _ (c.in-Ok.ensures.calls told) c.write_through.ensures.kept.size
          (omega arith) at.2,
    )

pub returns-clause-calls : goal.returns-clause-calls
returns-clause-calls g c told =
    let told_then = rw (← c.write_through.ensures.kept.telling) at told in
    good_then 2 2 (c.in-Ok.ensures.calls told) (c.in-Ok-write_through.ensures.calls told_then)

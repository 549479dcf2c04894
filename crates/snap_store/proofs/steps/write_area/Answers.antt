use Rattle.std.proofs.Common.{◌≡◌, ◌+◌, ◌∙◌, ℕ, Bool, arith, inl, inr, length, refl, subst, sym}
use Rattle.std.specs.Prelude.{Some, IsTrue}
use Rattle.disk_model.specs.Work.{GoodCalls}
use Rattle.disk_model.proofs.CountLaws.{among_more, among_then, good_then}
use Rattle.snap_store.specs.Slots.{closing_calls}
use Rattle.snap_store.proofs.CallLemmas.{gate_low}
use Rattle.disk_model.proofs.WorkLaws.{done, failed, images_after, images_meanwhile, looser, then_}
use Rattle.snap_store.specs.File.{area_with, gate_of, side_start}
use Rattle.snap_store.proofs.steps.write_area.Goals as goal

-- the gate wasn't closed
pub returns-in_default-clause-triple : goal.returns-in_default-clause-triple
returns-in_default-clause-triple g c area beside_area beside spares =
    failed (looser (λ f laid. inl laid) (c.close_gate.ensures.triple area beside_area beside))

pub returns-in_default-clause-err : goal.returns-in_default-clause-err
returns-in_default-clause-err g c area beside_area beside spares each =
    let now = images_meanwhile (g.met.D.Disk.counts_now c.close_gate.new.disk)
    c.close_gate.ensures.ran.same.telling
    (c.close_gate.ensures.triple area beside_area beside) each in (
      area,
      inl (c.loosened.ensures, refl),
      rw c.loosened.ensures now,
    )

-- the area wasn't written
pub returns-in_default-fill-clause-triple : goal.returns-in_default-fill-clause-triple
returns-in_default-fill-clause-triple g c area beside_area beside spares =
    failed (then_ (looser (λ f laid. inl laid) (c.in-Ok.ensures.triple area beside_area beside))
    c.close_gate.ensures.ran.same.telling
    (looser (λ f laid. inr (inl laid)) (c.fill.ensures.triple area beside_area beside spares)))

pub returns-in_default-fill-clause-err : goal.returns-in_default-fill-clause-err
returns-in_default-fill-clause-err g c area beside_area beside spares each =
    let shut = images_after c.close_gate.ensures.ran.same.telling
    (c.in-Ok.ensures.triple area beside_area beside) each in (
      area,
      inr (inl (refl, refl)),
      images_meanwhile (g.met.D.Disk.counts_now c.fill.new.disk)
          c.fill.ensures.ran.same.telling
          (c.fill.ensures.triple area beside_area beside spares) shut,
    )

-- the gate wasn't opened
pub returns-in_default-open_gate-clause-triple : goal.returns-in_default-open_gate-clause-triple
returns-in_default-open_gate-clause-triple g c area beside_area beside spares =
    let put = area_with c.args.place c.args.count c.args.bytes.now in
    failed (then_ (looser (λ f laid. inl laid) (c.in-Ok.ensures.triple area beside_area beside))
    c.close_gate.ensures.ran.same.telling
    (then_
    (looser (λ f laid. inr (inl laid)) (c.in-Ok-fill.ensures.triple area beside_area beside spares))
    c.fill.ensures.ran.same.telling
    (looser (λ f laid. inr (inr laid)) (c.open_gate.ensures.triple put beside_area beside))))

pub returns-in_default-open_gate-clause-err : goal.returns-in_default-open_gate-clause-err
returns-in_default-open_gate-clause-err g c area beside_area beside spares each =
    let put = area_with c.args.place c.args.count c.args.bytes.now in
    let shut = images_after c.close_gate.ensures.ran.same.telling
    (c.in-Ok.ensures.triple area beside_area beside) each in
    let full = images_after c.fill.ensures.ran.same.telling
    (c.in-Ok-fill.ensures.triple area beside_area beside spares) shut in (
      Some put,
      inr (inr (refl, refl)),
      images_meanwhile (g.met.D.Disk.counts_now c.open_gate.new.disk)
          c.open_gate.ensures.ran.same.telling
          (c.open_gate.ensures.triple put beside_area beside) full,
    )

-- all three were done
pub returns-clause-triple : goal.returns-clause-triple
returns-clause-triple g c area beside_area beside spares =
    let put = area_with c.args.place c.args.count c.args.bytes.now in
    done (then_ (looser (λ f laid. inl laid) (c.in-Ok.ensures.triple area beside_area beside))
    c.close_gate.ensures.ran.same.telling
    (then_
    (looser (λ f laid. inr (inl laid)) (c.in-Ok-fill.ensures.triple area beside_area beside spares))
    c.fill.ensures.ran.same.telling
    (looser (λ f laid. inr (inr laid)) (c.in-Ok-open_gate.ensures.triple put beside_area beside))))

pub returns-in_default-clause-calls : goal.returns-in_default-clause-calls
returns-in_default-clause-calls g c told =
    among_more (closing_calls c.args.slot) (closing_calls c.args.slot + 5) _ _ (omega arith)
    (gate_low c.args.side (length c.args.bytes.now)) (c.in_default.ensures.calls told)

pub returns-in_default-fill-clause-calls : goal.returns-in_default-fill-clause-calls
returns-in_default-fill-clause-calls g c told =
    let n = closing_calls c.args.slot in
    let told_then =
    subst (λ (b : Bool). IsTrue b) (sym c.close_gate.ensures.ran.same.telling) told in
    let far = side_start c.args.side + 16 + length c.args.bytes.now in
    among_more (n + 3) (n + 5) far far (omega arith) (omega arith)
    (among_then n 3 far far (c.in-Ok.ensures.calls told) c.close_gate.ensures.ran.same.size
    (omega arith) (c.in_default-fill.ensures.calls told_then))

pub returns-in_default-open_gate-clause-calls : goal.returns-in_default-open_gate-clause-calls
returns-in_default-open_gate-clause-calls g c told =
    let n = closing_calls c.args.slot in
    let told_then =
    subst (λ (b : Bool). IsTrue b) (sym c.close_gate.ensures.ran.same.telling) told in
    let told_last =
    subst (λ (b : Bool). IsTrue b) (sym c.fill.ensures.ran.same.telling) told_then in
    let far = side_start c.args.side + 16 + length c.args.bytes.now in
    among_more (n + 3 + 2) (n + 5) far far (omega arith) (omega arith)
    (among_then (n + 3) 2 (gate_of c.args.side + 1) far
    (good_then n 3 (c.in-Ok.ensures.calls told) (c.in-Ok-fill.ensures.calls told_then))
    (c.fill.ensures.ran.same.size ∙ c.close_gate.ensures.ran.same.size)
    (gate_low c.args.side (length c.args.bytes.now))
    (c.in_default-open_gate.ensures.calls told_last))

pub returns-clause-calls : goal.returns-clause-calls
returns-clause-calls g c told =
    let n = closing_calls c.args.slot in
    let told_then =
    subst (λ (b : Bool). IsTrue b) (sym c.close_gate.ensures.ran.same.telling) told in
    let told_last =
    subst (λ (b : Bool). IsTrue b) (sym c.fill.ensures.ran.same.telling) told_then in
    subst (λ (k : ℕ). GoodCalls g.D.Disk k c.args.disk.now c.open_gate.new.disk) (omega arith)
    (good_then (n + 3) 2
    (good_then n 3 (c.in-Ok.ensures.calls told) (c.in-Ok-fill.ensures.calls told_then))
    (c.in-Ok-open_gate.ensures.calls told_last))

use Rattle.std.proofs.Common.{◌≡◌, ◌+◌, ◌∙◌, ap, length, subst}
use Rattle.disk_model.proofs.WorkLaws.{done, failed}
use Rattle.snap_store.specs.declared.side.Side.{Side}
use Rattle.snap_store.specs.declared.slot.Slot.{Slot}
use Rattle.disk_model.specs.Work.{EachImage, GoodCalls}
use Rattle.disk_model.proofs.CountLaws.{FailsAmong}
use Rattle.snap_store.specs.File.{area_with, side_start}
use Rattle.snap_store.specs.Slots.{closing_calls, opposite_side, slot_of, with_slot, taken_side}
use Rattle.snap_store.specs.Images.{IsLaid, Spares, IsLeft}
use Rattle.snap_store.proofs.PutLemmas.{put_on_side}
use Rattle.snap_store.proofs.SlotLemmas.{spares_taken}
use Rattle.snap_store.proofs.steps.replace.Goals as goal

pub returns-in-Ok-clause-triple : goal.returns-in-Ok-clause-triple
returns-in-Ok-clause-triple g c area beside_area =
    let slots = c.args.slots.now in
    let is = c.taken-side.ensures in
    let beside = slot_of slots (opposite_side (taken_side slots)) in
    put_on_side is (c.of-slot.ensures ∙ ap (λ (s : Side). slot_of slots s) is)
    (done (c.in-Ok.ensures.triple area beside_area beside (rw is (spares_taken slots))))

pub returns-in-Err-clause-triple : goal.returns-in-Err-clause-triple
returns-in-Err-clause-triple g c area beside_area =
    let slots = c.args.slots.now in
    let is = c.taken-side.ensures in
    let beside = slot_of slots (opposite_side (taken_side slots)) in
    put_on_side is (c.of-slot.ensures ∙ ap (λ (s : Side). slot_of slots s) is)
    (failed (c.write_area.ensures.triple area beside_area beside (rw is (spares_taken slots))))

pub returns-in-Err-clause-err : goal.returns-in-Err-clause-err
returns-in-Err-clause-err g c =
    let new = c.write_area.new.disk in
    let slots = c.args.slots.now in
    let side = taken_side slots in
    let beside = slot_of slots (opposite_side side) in
    let put = area_with c.args.place c.args.count c.args.bytes.now in
    let is : c.taken-side.result ≡ side = c.taken-side.ensures in
    let slot_is : c.of-slot.result ≡ slot_of slots side =
    c.of-slot.ensures ∙ ap (λ (s : Side). slot_of slots s) is in
    let spares : Spares c.taken-side.result beside = rw is (spares_taken slots) in (
      c.in-Err.now,
      c.set-in-Err.ensures ∙ ap (λ (s : Side). with_slot slots s c.in-Err.now) is,
      λ area beside_area each.
          let found = c.in-Err.ensures.err area beside_area beside spares
          (λ told f now. rw (is, slot_is) (each told f now)) in (
            found.0,
            subst (λ (k : Slot). IsLeft k area put c.in-Err.now found.0) slot_is found.1,
            subst (λ (s : Side). EachImage g.D.Disk new
                (IsLaid s c.in-Err.now found.0 beside beside_area)) is found.2,
          ),
    )

pub returns-in-Ok-clause-calls : goal.returns-in-Ok-clause-calls
returns-in-Ok-clause-calls g c told =
    let is = c.taken-side.ensures in
    subst (λ (s : Slot). GoodCalls g.D.Disk (closing_calls s + 5)
    c.args.disk.now c.write_area.new.disk)
    (c.of-slot.ensures ∙ ap (λ (s : Side). slot_of c.args.slots.now s) is)
    (c.in-Ok.ensures.calls told)

pub returns-in-Err-clause-calls : goal.returns-in-Err-clause-calls
returns-in-Err-clause-calls g c told =
    let is = c.taken-side.ensures in
    let slot_is = c.of-slot.ensures ∙ ap (λ (s : Side). slot_of c.args.slots.now s) is in
    subst (λ (x : Side × Slot). FailsAmong g.D.Disk
    (side_start x.0 + 16 + length c.args.bytes.now) (closing_calls x.1 + 5) c.args.disk.now
    c.write_area.new.disk) (λ i. (is i, slot_is i)) (c.in-Err.ensures.calls told)

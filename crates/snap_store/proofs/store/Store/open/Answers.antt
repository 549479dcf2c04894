use Rattle.std.proofs.Common.{◌∙◌, ap, subst, Bool, List, ℕ}
use Rattle.std.specs.Prelude.{IsTrue}
use Rattle.snap_store.specs.declared.outline.Outline.{Outline}
use Rattle.snap_store.specs.declared.slot.Slot.{Slot}
use Rattle.snap_store.specs.Slots.{slot_in}
use Rattle.snap_store.specs.Store.{Snapshots, area_held}
use Rattle.snap_store.proofs.StoreLemmas.{sound_read, sound_images, held_in, slots_are}
use Rattle.snap_store.proofs.store.Store.open.Goals as goal

pub invariant_of-result : goal.invariant_of-result
invariant_of-result g c =
    let file = g.D.Disk.seen c.args.disk in
    let S : Snapshots g.row.D.Denot = record {
      disk = c.synced_outline.new.disk;
      made = c.in-Ok.outline.made;
      slots = record { a = c.slot.result; b = c.slot-2.result };
    } in
    sound_read g.D.Disk S file
    (λ told_last.
    let told =
    subst (λ (b : Bool). IsTrue b) c.synced_outline.ensures.kept.same.telling told_last in
    let read = c.in-Ok.ensures.ok told in
    record {
      made = ap (λ (o : Outline). o.made) read.0;
      a = c.slot.ensures.value file read.0;
      b = c.slot-2.ensures.value file read.0;
      sees = c.in-Ok.ensures.seen told;
      only = read.1;
    })
    (λ made. (c.slot.ensures.unmade made, c.slot-2.ensures.unmade made))

pub returns-clause-images : goal.returns-clause-images
returns-clause-images g c = sound_images _ _ (invariant_of-result g c)

pub returns-clause-areas : goal.returns-clause-areas
returns-clause-areas g c told side =
    let file = g.D.Disk.seen c.args.disk in
    let new = g.D.Disk.seen c.synced_outline.new.disk in
    let read = c.in-Ok.ensures.ok told in
    let slot =
    slots_are (record { a = c.slot.result; b = c.slot-2.result }) file
    (c.slot.ensures.value file read.0) (c.slot-2.ensures.value file read.0) side in
    ap (λ (s : Slot). area_held side s new) slot
    ∙ ap (λ (l : List ℕ). area_held side (slot_in side file) l) (c.in-Ok.ensures.seen told)
    ∙ held_in side file

use Rattle.std.proofs.Common.{refl}
use Rattle.disk_model.proofs.WorkLaws.{images_after}
use Rattle.snap_store.specs.File.{area_with}
use Rattle.snap_store.proofs.StoreLemmas.{sound_images}
use Rattle.snap_store.proofs.PutLemmas.{laid_before, crash_of, sound_after, beside_after, put_after}
use Rattle.snap_store.proofs.PutLemmas.{left_after, opened_after}
use Rattle.snap_store.proofs.store.Store.put.Goals as goal

-- the put failed
pub invariant_of-self : goal.invariant_of-self
invariant_of-self g c =
    let put = area_with c.args.place c.args.count c.args.bytes.now in
    let stays = g.met.D.Disk.seen_may_stay in
    let made = c.if-not-self.false in
    let step = c.in_default.ensures.err in
    let found = step.2 _ _ (laid_before stays c.self.invariant made put) in
    sound_after stays c.self.invariant made put c.replace.ensures.ran.same.telling step.1 found.2

pub returns-in_default-clause-images : goal.returns-in_default-clause-images
returns-in_default-clause-images g c = sound_images _ _ (invariant_of-self g c)

pub returns-in_default-clause-crash : goal.returns-in_default-clause-crash
returns-in_default-clause-crash g c =
    crash_of g.met.D.Disk.seen_may_stay c.self.invariant c.if-not-self.false
    (area_with c.args.place c.args.count c.args.bytes.now) c.self.view_is
    (c.replace.ensures.triple _ _)

pub returns-in_default-clause-beside : goal.returns-in_default-clause-beside
returns-in_default-clause-beside g c =
    let put = area_with c.args.place c.args.count c.args.bytes.now in
    let stays = g.met.D.Disk.seen_may_stay in
    let made = c.if-not-self.false in
    let step = c.in_default.ensures.err in
    let found = step.2 _ _ (laid_before stays c.self.invariant made put) in
    beside_after stays c.self.invariant made put c.replace.ensures.ran.same.telling step.1
    found.2 c.self.view_is

pub returns-in_default-clause-taken : goal.returns-in_default-clause-taken
returns-in_default-clause-taken g c =
    let put = area_with c.args.place c.args.count c.args.bytes.now in
    let stays = g.met.D.Disk.seen_may_stay in
    let made = c.if-not-self.false in
    let step = c.in_default.ensures.err in
    let found = step.2 _ _ (laid_before stays c.self.invariant made put) in
    left_after stays c.self.invariant made put c.replace.ensures.ran.same.telling step.1
    found.2 c.self.view_is found.1

-- it was done
pub invariant_of-self-2 : goal.invariant_of-self-2
invariant_of-self-2 g c =
    let put = area_with c.args.place c.args.count c.args.bytes.now in
    let stays = g.met.D.Disk.seen_may_stay in
    let made = c.if-not-self.false in
    let telling = c.replace.ensures.ran.same.telling in
    let laid = images_after telling (c.in-Ok.ensures.triple _ _)
    (laid_before stays c.self.invariant made put) in
    sound_after stays c.self.invariant made put telling c.in-Ok.ensures.ok laid

pub returns-clause-images : goal.returns-clause-images
returns-clause-images g c = sound_images _ _ (invariant_of-self-2 g c)

pub returns-clause-crash : goal.returns-clause-crash
returns-clause-crash g c =
    crash_of g.met.D.Disk.seen_may_stay c.self.invariant c.if-not-self.false
    (area_with c.args.place c.args.count c.args.bytes.now) c.self.view_is
    (c.replace.ensures.triple _ _)

pub returns-clause-beside : goal.returns-clause-beside
returns-clause-beside g c =
    let put = area_with c.args.place c.args.count c.args.bytes.now in
    let stays = g.met.D.Disk.seen_may_stay in
    let made = c.if-not-self.false in
    let telling = c.replace.ensures.ran.same.telling in
    let laid = images_after telling (c.in-Ok.ensures.triple _ _)
    (laid_before stays c.self.invariant made put) in
    beside_after stays c.self.invariant made put telling c.in-Ok.ensures.ok laid c.self.view_is

pub returns-clause-taken : goal.returns-clause-taken
returns-clause-taken g c =
    let put = area_with c.args.place c.args.count c.args.bytes.now in
    let stays = g.met.D.Disk.seen_may_stay in
    let made = c.if-not-self.false in
    let telling = c.replace.ensures.ran.same.telling in
    let laid = images_after telling (c.in-Ok.ensures.triple _ _)
    (laid_before stays c.self.invariant made put) in
    put_after stays c.self.invariant made put telling c.in-Ok.ensures.ok laid
    c.self.view_is refl refl

pub returns-clause-durable : goal.returns-clause-durable
returns-clause-durable g c =
    let put = area_with c.args.place c.args.count c.args.bytes.now in
    let stays = g.met.D.Disk.seen_may_stay in
    let made = c.if-not-self.false in
    let telling = c.replace.ensures.ran.same.telling in
    let laid = images_after telling (c.in-Ok.ensures.triple _ _)
    (laid_before stays c.self.invariant made put) in
    opened_after stays c.self.invariant made put telling c.in-Ok.ensures.ok laid
    c.self.view_is refl refl

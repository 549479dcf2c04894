use Rattle.std.proofs.Common.{refl}
use Rattle.snap_store.proofs.StoreLemmas.{sound_looked, sound_images, given_is}
use Rattle.snap_store.proofs.store.Store.newest.Goals as goal

pub returns-clause-images : goal.returns-clause-images
returns-clause-images g c =
    sound_images _ _ (sound_looked _ g.met.D.Disk.seen_may_stay _ c.self.invariant _
    c.find.ensures.kept.same.telling c.find.ensures.kept.images)

pub returns-in_err-area-clause-images : goal.returns-in_err-area-clause-images
returns-in_err-area-clause-images g c =
    sound_images _ _ (sound_looked _ g.met.D.Disk.seen_may_stay _ c.self.invariant _
    c.find.ensures.kept.same.telling c.find.ensures.kept.images)

pub returns-clause-found : goal.returns-clause-found
returns-clause-found g c =
    rw (← c.self.view_is) (λ told.
    let shows =
    sound_images g.D.Disk _ c.self.invariant told _ (g.met.D.Disk.seen_may_stay _) in
    rw (c.in_ok-area.ensures.ok told)
    (given_is g.D.Disk.seen _ shows c.args.place c.args.most _ refl))

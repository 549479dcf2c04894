use Rattle.snap_store.proofs.StoreLemmas.{sound_images}
use Rattle.snap_store.proofs.store.Store.is_made.Goals as goal

pub returns-clause-images : goal.returns-clause-images
returns-clause-images g c = rw (← c.self.view_is) (sound_images _ _ c.self.invariant)

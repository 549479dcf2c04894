-- Rows of the rules of a disk, said of the definitions.
use Rattle.std.proofs.Common.{◌≡◌, refl, ◌^◌, [], ◌∷◌, true, false}
use Rattle.disk_model.specs.Disk.{file_written}
use Rattle.disk_model.specs.DiskState.{settled, after_write, after_sync}

-- a write inside, and one past the end, whose gap is filled with zeros
pub inside : file_written (1 ∷ 2 ∷ 3 ∷ []) 1 (9 ∷ []) ≡ 1 ∷ 9 ∷ 3 ∷ []
inside = refl

pub gap : file_written (1 ∷ 2 ∷ []) 4 (9 ∷ []) ≡ 1 ∷ 2 ∷ 0 ∷ 0 ∷ 9 ∷ []
gap = refl

-- a failed write has a range, and isn't read
pub failed_write :
    after_write false 1 (9 ∷ []) (settled (1 ∷ 2 ∷ []))
    ≡ record { synced = 1 ∷ 2 ∷ []; seen = 1 ∷ 2 ∷ []; ranges = (1, 2) ∷ [] }
failed_write = refl

-- past the room nothing is written, and no range is added
pub past_the_room : after_write true (2 ^ 40) (9 ∷ []) (settled []) ≡ settled []
past_the_room = refl

-- a sync makes what is read the synced bytes; one that fails doesn't
pub good_sync : after_sync true (after_write true 0 (9 ∷ []) (settled [])) ≡ settled (9 ∷ [])
good_sync = refl

pub failed_sync :
    after_sync false (after_write true 0 (9 ∷ []) (settled []))
    ≡ record { synced = []; seen = 9 ∷ []; ranges = (0, 1) ∷ [] }
failed_sync = refl

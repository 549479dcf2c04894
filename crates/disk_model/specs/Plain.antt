-- The test of an image that a stop may leave, and a disk that reads otherwise (own).
use Rattle.std.specs.Prelude.{ℕ, zero, suc, Bool, true, false, ◌&&◌, ◌||◌, nat_eq, nat_le, nat_lt}
use Rattle.std.specs.Prelude.{List, [], ◌∷◌, length, slice_index}
use Rattle.disk_model.specs.DiskState.{DiskState, Ranges, greatest_end}

-- the disk reads as these bytes
abbrev pub reading : List ℕ → DiskState → DiskState
reading bytes p = record { synced = p.synced; seen = bytes; ranges = p.ranges }

-- the test whether a range has this place
abbrev pub is_touched : ℕ → Ranges → Bool
is_touched i [] = false
is_touched i (r ∷ ranges) = (nat_le r.0 i && nat_lt i r.1) || is_touched i ranges

-- below this place, the bytes are the synced ones outside the ranges
abbrev pub agree : ℕ → List ℕ → Ranges → List ℕ → Bool
agree zero synced ranges c = true
agree (suc n) synced ranges c =
    (is_touched n ranges || nat_eq (slice_index c n) (slice_index synced n))
    && agree n synced ranges c

-- the test of an image that a stop may leave
abbrev pub is_image : DiskState → List ℕ → Bool
is_image p c =
    nat_le (length p.synced) (length c)
    && nat_le (length c) (greatest_end p.ranges (length p.synced))
    && agree (length p.synced) p.synced p.ranges c

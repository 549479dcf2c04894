-- What a disk holds: synced bytes, those that it reads as, and the ranges written since (own).
use Rattle.std.specs.Prelude.{◌≡◌, ◌⊎◌, ℕ, ◌+◌, ◌^◌, ◌<◌, ◌≤◌, max, List, [], ◌∷◌, ◌++◌, length}
use Rattle.std.specs.Prelude.{Bool, nat_le, if◌then◌else◌, slice_index}
use Rattle.disk_model.specs.Disk.{file_written}

-- a range is its place and its end
abbrev pub Ranges : Type 0
Ranges = List (ℕ × ℕ)

-- the bytes as a sync left them, as they are read, and the ranges written since that sync
pub record DiskState : Type 0 where
  pub synced : List ℕ
  pub seen : List ℕ
  pub ranges : Ranges

-- the greatest of this size and the ends of the ranges
abbrev pub greatest_end : Ranges → ℕ → ℕ
greatest_end [] n = n
greatest_end (r ∷ ranges) n = max r.1 (greatest_end ranges n)

-- no range has this place
abbrev pub Untouched : ℕ → Ranges → Type 0
Untouched i [] = Unit {0}
Untouched i (r ∷ ranges) = ((i < r.0) ⊎ (r.1 ≤ i)) × Untouched i ranges

-- An image that a stop may leave: the synced bytes outside the ranges, and anything in them. Its
-- size is from the synced one to the greatest end written.
pub record IsDiskImage (p : DiskState) (c : List ℕ) : Type 0 where
  pub no_shorter : length p.synced ≤ length c
  pub no_longer : length c ≤ greatest_end p.ranges (length p.synced)
  pub same :
      (i : ℕ) → i < length p.synced → Untouched i p.ranges
      → slice_index c i ≡ slice_index p.synced i

-- an image that has the greatest size
pub record IsLanded (p : DiskState) (c : List ℕ) : Type 0 where
  pub image : IsDiskImage p c
  pub size : length c ≡ greatest_end p.ranges (length p.synced)

-- all of it synced, and nothing written since
abbrev pub settled : List ℕ → DiskState
settled start = record { synced = start; seen = start; ranges = [] }

-- with one range more, and read as these bytes
abbrev pub with_range : DiskState → List ℕ → ℕ × ℕ → DiskState
with_range p seen r = record { synced = p.synced; seen = seen; ranges = p.ranges ++ r ∷ [] }

-- After a write. One that is good puts its piece; one that fails has a range too; past the room,
-- which is 2^40 bytes, nothing happens.
abbrev pub after_write : Bool → ℕ → List ℕ → DiskState → DiskState
after_write good at piece p =
    if nat_le (at + length piece) (2 ^ 40)
    then with_range p (if good then file_written p.seen at piece else p.seen)
    (at, at + length piece)
    else p

-- after a sync: one that fails changes nothing
abbrev pub after_sync : Bool → DiskState → DiskState
after_sync good p = if good then settled p.seen else p

-- what is asked of a disk: its size or what it reads as, a write, or a sync
pub data Asked : Type 0 where
  Looked : Asked
  Wrote : ℕ → List ℕ → Asked
  Synced : Asked

-- after what was asked, where that was good and where it failed
abbrev pub after_asked : Asked → Bool → DiskState → DiskState
after_asked Looked good p = p
after_asked (Wrote at piece) good p = after_write good at piece p
after_asked Synced good p = after_sync good p

-- a state as calls make it: as it reads it is one of its images, and it is within 2^40 bytes
pub record IsWell (p : DiskState) : Type 0 where
  pub stays : IsDiskImage p p.seen
  pub within : length p.seen ≤ 2 ^ 40
  pub ends : greatest_end p.ranges (length p.synced) ≤ 2 ^ 40

-- What a call leaves of a disk, and whether it may happen so (own).
use Rattle.std.specs.Prelude.{ℕ, ◌+◌, ◌-◌, ◌^◌, min, nat_le, Bool, true, false, List, length}
use Rattle.disk_model.specs.DiskState.{DiskState, after_write, after_sync}
use Rattle.disk_model.specs.Plain.{is_image, reading}
use Rattle.store_events.specs.declared.disk.DiskCall.{DiskCall}
use Rattle.store_events.specs.declared.disk.DiskCall.TheVariants.{Write, Sync, Look}

-- the disk after a call; after one that isn't good it reads as these bytes
abbrev pub disk_after : DiskCall → Bool → List ℕ → DiskState → DiskState
disk_after (Write at piece) true reads p = after_write true at piece p
disk_after (Write at piece) false reads p = reading reads (after_write false at piece p)
disk_after Sync true reads p = after_sync true p
disk_after Sync false reads p = reading reads (after_sync false p)
disk_after Look true reads p = p
disk_after Look false reads p = reading reads p

-- the call may be good: a write that passes the disk's room can't
abbrev pub may_work : DiskCall → Bool
may_work (Write at piece) = nat_le (at + length piece) (2 ^ 40)
may_work Sync = true
may_work Look = true

-- a count of faults, one higher; it stands still at the end of a u64
abbrev pub fault_counted : ℕ → ℕ
fault_counted faults = min (faults + 1) (2 ^ 64 - 1)

-- Whether a call may happen so: a write past the room isn't good, and after a call that isn't good
-- a disk reads as one of its images.
abbrev pub may_happen : DiskCall → Bool → List ℕ → DiskState → Bool
may_happen call true reads p = may_work call
may_happen call false reads p = is_image (disk_after call false reads p) reads

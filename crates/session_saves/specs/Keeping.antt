-- What becomes of a snapshot that is due (own).
use Rattle.std.specs.Prelude.{◌≡◌, ◌⊎◌, ◌≤◌, ◌<◌, ℕ, Bool, true, false, List, length, Option, Some}
use Rattle.disk_model.specs.Disk.{Rose}
use Rattle.disk_model.specs.Work.{EachImage, LeavesOnly}
use Rattle.disk_model.specs.declared.disk.Disk.{Ghosts as DiskWords}
use Rattle.story_run.specs.World.{WorldState}
use Rattle.story_snap.specs.Bytes.{HasBytes}
use Rattle.snap_store.specs.File.{Stored, area_with, open_area}
use Rattle.snap_store.specs.Slots.{taken_side, with_slot}
use Rattle.snap_store.specs.Store.{Snapshots, IsImageOf, IsPutImage, store_area}
use Rattle.snap_store.specs.declared.outline.TheConstants.{MAX_SNAPSHOT}
use Rattle.snap_store.specs.declared.side.Side.{Side}
use Rattle.snap_store.specs.declared.slot.Slot.TheVariants.{Closed, Open, Unsure}
use Rattle.session_saves.specs.Saves.{HasOpenSince, HasSince, SavesState, with_cause}
use Rattle.session_saves.specs.declared.missed.Cause.{Cause}
use Rattle.session_saves.specs.declared.missed.Cause.TheVariants.{NoMemory, TooLong, DiskFailed}
use Rattle.session_saves.specs.declared.missed.Cause.TheVariants.{NotMade}

-- bytes of the world that a store takes
pub record Fits (world : WorldState) (bytes : List ℕ) : Type 0 where
  pub of_world : HasBytes world.image bytes world
  pub short : length bytes ≤ MAX_SNAPSHOT

-- bytes of the world that are too many for a store
pub record IsTooLong (world : WorldState) (bytes : List ℕ) : Type 0 where
  pub of_world : HasBytes world.image bytes world
  pub long : MAX_SNAPSHOT < length bytes

-- When each cause prevents a put, by whether the store is made and by the disk's counts of faults.
-- Memory may run out at any place.
abbrev pub Prevents : Cause → Bool → WorldState → ℕ → ℕ → Type 0
Prevents NotMade made world before now = (made ≡ false) × (now ≡ before)
Prevents NoMemory made world before now = (made ≡ true) × (now ≡ before)
Prevents TooLong made world before now =
    (made ≡ true) × (now ≡ before) × ((bytes : List ℕ) × IsTooLong world bytes)
Prevents DiskFailed made world before now =
    (made ≡ true) × (before ≤ now) × Rose before now × ((bytes : List ℕ) × Fits world bytes)

-- a put that didn't begin leaves the store; one that failed has taken the area that isn't the
-- newest, whose gate isn't known to be open then
abbrev pub FailedPutLeaves : {D : Type 0} → Cause → Snapshots D → Snapshots D → Type 0
FailedPutLeaves DiskFailed old new =
    (new.slots ≡ with_slot old.slots (taken_side old.slots) Closed)
    ⊎ (new.slots ≡ with_slot old.slots (taken_side old.slots) Unsure)
FailedPutLeaves NotMade old new = new ≡ old
FailedPutLeaves NoMemory old new = new ≡ old
FailedPutLeaves TooLong old new = new ≡ old

-- the snapshot of a world was missed
pub record IsMissed
    {D : Type 0}
    (faults : D → ℕ)
    (world : WorldState)
    (place count : ℕ)
    (old new : SavesState D) : Type 0 where
  pub cause : Cause
  pub prevents :
      Prevents cause old.store.made world (faults old.store.disk) (faults new.store.disk)
  pub leaves : FailedPutLeaves cause old.store new.store
  pub counted : new.missed ≡ with_cause cause old.missed
  pub last : new.last ≡ Some (record { place = place; count = count })

-- what is left where this cause prevented a put before it began
abbrev pub with_missed : {D : Type 0} → Cause → ℕ → ℕ → SavesState D → SavesState D
with_missed cause place count old =
    record {
      store = old.store;
      missed = with_cause cause old.missed;
      last = Some (record { place = place; count = count });
    }

-- The counts are exact. Where the store isn't made `none` rises, and nowhere else. Where it is made
-- and some bytes of the world are too many for it, `size` rises, unless memory ran out before; and
-- where none are, `size` doesn't.
pub record CountsExactly
    {D : Type 0}
    (world : WorldState)
    (place count : ℕ)
    (old new : SavesState D) : Type 0 where
  pub unmade : old.store.made ≡ false → new ≡ with_missed NotMade place count old
  pub made : old.store.made ≡ true → new.missed.none ≡ old.missed.none
  pub long :
      old.store.made ≡ true → (bytes : List ℕ) → IsTooLong world bytes
      → (new ≡ with_missed TooLong place count old)
      ⊎ (new ≡ with_missed NoMemory place count old)
  pub short :
      ((bytes : List ℕ) → IsTooLong world bytes → ⊥) → new.missed.size ≡ old.missed.size

-- it was put into a store: its area is known to be open, and is in each image
pub record PutsWorld
    {D : Type 0} (disks : DiskWords D) (world : WorldState) (place count : ℕ)
    (old new : Snapshots D) : Type 0 where
  pub bytes : List ℕ
  pub fits : Fits world bytes
  pub made : old.made ≡ true
  pub slots : new.slots ≡ with_slot old.slots (taken_side old.slots) (Open place count)
  pub durable :
      EachImage disks new.disk (λ image.
      open_area (taken_side old.slots) image ≡ Some (area_with place count bytes))
  pub same_faults : disks.faults new.disk ≡ disks.faults old.disk

-- and nothing was missed
pub record IsPut
    {D : Type 0} (disks : DiskWords D) (world : WorldState) (place count : ℕ)
    (old new : SavesState D) : Type 0 where
  pub store : PutsWorld disks world place count old.store new.store
  pub missed : new.missed ≡ old.missed
  pub last : new.last ≡ old.last

-- the area is the one of beforehand, or the snapshot of this world
abbrev pub IsOldOrNew : WorldState → ℕ → ℕ → Option Stored → Stored → Type 0
IsOldOrNew world place count old area =
    (old ≡ Some area)
    ⊎ ((bytes : List ℕ) × HasBytes world.image bytes world
    × (area ≡ area_with place count bytes))

-- each area of the store afterwards is
abbrev pub AddsOnly :
    {D : Type 0} → (D → List ℕ) → WorldState → ℕ → ℕ → Snapshots D → Snapshots D → Type 0
AddsOnly seen world place count old new =
    (side : Side) (area : Stored) → store_area seen new side ≡ Some area
    → IsOldOrNew world place count (store_area seen old side) area

-- an image that a stop may leave meanwhile: one of the store, or one during a put of the snapshot,
-- in which the newest area of beforehand stands
abbrev pub MayStandMeanwhile :
    {D : Type 0} → (D → List ℕ) → WorldState → ℕ → ℕ → Snapshots D → List ℕ → Type 0
MayStandMeanwhile seen world place count store image =
    IsImageOf seen store image
    ⊎ ((bytes : List ℕ) × HasBytes world.image bytes world
    × IsPutImage seen store (area_with place count bytes) image)

-- An area of this OPEN row and of at least so many inputs isn't lost: one is still known to be open,
-- and one is open in each image since.
pub record KeepsOpen
    {D : Type 0} (disks : DiskWords D) (place least : ℕ) (old new : Snapshots D) : Type 0 where
  pub known : HasSince place least new.slots
  pub images : LeavesOnly disks old.disk new.disk (HasOpenSince place least)

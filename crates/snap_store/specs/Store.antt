-- A store as contracts see it: whole areas, at most one for A and one for B (own).
use Rattle.std.specs.Prelude.{◌≡◌, ◌⊎◌, ◌≤◌, ℕ, Bool, true, false, List, Option, Some, None}
use Rattle.disk_model.specs.Work.{EachImage}
use Rattle.disk_model.specs.declared.disk.Disk.{Ghosts as DiskWords}
use Rattle.snap_store.specs.declared.side.Side.{Side}
use Rattle.snap_store.specs.declared.side.Side.TheVariants.{A, B}
use Rattle.snap_store.specs.declared.slot.Slot.{Slot}
use Rattle.snap_store.specs.declared.slot.Slot.TheVariants.{Closed, Open, Unsure}
use Rattle.snap_store.specs.declared.slot.Slots.{Slots}
use Rattle.snap_store.specs.declared.area.Area.{Area}
use Rattle.snap_store.specs.File.{Stored, has_header, whole_area, open_area, openable_area}
use Rattle.snap_store.specs.Slots.{opposite_side, slot_of, newest_side, taken_side}
use Rattle.snap_store.specs.Images.{IsLaid}

pub record Snapshots (D : Type 0) : Type 0 where
  pub disk : D
  -- the file has its header
  pub made : Bool
  pub slots : Slots

-- The area behind a gate, of the file as it reads: none behind a closed one, nor where none is
-- whole.
abbrev pub area_held : Side → Slot → List ℕ → Option Stored
area_held side Closed file = None
area_held side Unsure file = whole_area side file
area_held side (Open place count) file = whole_area side file

-- the store's area of one side
abbrev pub store_area : {D : Type 0} → (D → List ℕ) → Snapshots D → Side → Option Stored
store_area seen store side = area_held side (slot_of store.slots side) (seen store.disk)

-- it is open in the image, and the store has it
pub record IsOpenIn
    {D : Type 0}
    (seen : D → List ℕ)
    (store : Snapshots D)
    (side : Side)
    (image : List ℕ) : Type 0 where
  pub area : Stored
  pub kept : store_area seen store side ≡ Some area
  pub there : open_area side image ≡ Some area

-- an image that a stop may leave of a store
pub record IsImageOf
    {D : Type 0}
    (seen : D → List ℕ)
    (store : Snapshots D)
    (image : List ℕ) : Type 0 where
  pub header : has_header image ≡ store.made
  -- each area that may open is in the list, and so is each open one
  pub openable :
      (side : Side) (area : Stored) → openable_area side image ≡ Some area
      → store_area seen store side ≡ Some area
  pub opened :
      (side : Side) (area : Stored) → open_area side image ≡ Some area
      → store_area seen store side ≡ Some area
  -- the newest is open
  pub newest :
      (side : Side) → newest_side store.slots ≡ Some side
      → IsOpenIn seen store side image
  -- and so is each whose gate is known to be; what is known of its row and count is the area's
  pub synced :
      (side : Side) (place count : ℕ) → slot_of store.slots side ≡ Open place count
      → (area : Stored) × (store_area seen store side ≡ Some area)
      × (open_area side image ≡ Some area) × (area.place ≡ place) × (area.count ≡ count)

-- an image that a stop may leave while a put of an area goes on, or after it
pub record IsPutImage
    {D : Type 0}
    (seen : D → List ℕ)
    (store : Snapshots D)
    (put : Stored)
    (image : List ℕ) : Type 0 where
  pub header : has_header image ≡ true
  -- the newest area of beforehand is open and unchanged
  pub newest :
      (side : Side) → newest_side store.slots ≡ Some side
      → IsOpenIn seen store side image
  -- the area that is taken, where it may open, is unchanged or the new one whole
  pub taken :
      (area : Stored) → openable_area (taken_side store.slots) image ≡ Some area
      → (store_area seen store (taken_side store.slots) ≡ Some area) ⊎ (area ≡ put)
  -- the other one, where it may open, is unchanged
  pub beside :
      (area : Stored) → openable_area (opposite_side (taken_side store.slots)) image ≡ Some area
      → store_area seen store (opposite_side (taken_side store.slots)) ≡ Some area

-- what is given of an area: one of the store's, open as the file reads, of this OPEN row, and after
-- no more inputs than `most`
pub record IsGiven
    {D : Type 0}
    (seen : D → List ℕ)
    (store : Snapshots D)
    (place most : ℕ)
    (given : Area) : Type 0 where
  pub side : Side
  pub area : Stored
  pub kept : store_area seen store side ≡ Some area
  pub there : open_area side (seen store.disk) ≡ Some area
  pub row : area.place ≡ place
  pub fits : area.count ≤ most
  pub count : given.count ≡ area.count
  pub bytes : given.bytes ≡ area.bytes

-- what is true of each store
pub record IsSoundStore
    {D : Type 0} (disks : DiskWords D) (store : Snapshots D) : Type 0 where
  pub header : EachImage disks store.disk (λ image. has_header image ≡ store.made)
  pub laid :
      store.made ≡ true → EachImage disks store.disk
      (IsLaid A store.slots.a (whole_area A (disks.seen store.disk))
      store.slots.b (whole_area B (disks.seen store.disk)))
  pub unmade : store.made ≡ false → (store.slots.a ≡ Closed) × (store.slots.b ≡ Closed)

-- What stands in an image of a file that has its header (own).
use Rattle.std.specs.Prelude.{◌≡◌, ◌⊎◌, ℕ, true, List, Option, Some, None}
use Rattle.snap_store.specs.declared.side.Side.{Side}
use Rattle.snap_store.specs.declared.side.Side.TheVariants.{A, B}
use Rattle.snap_store.specs.declared.slot.Slot.{Slot}
use Rattle.snap_store.specs.declared.slot.Slot.TheVariants.{Closed, Open, Unsure}
use Rattle.snap_store.specs.File.{Stored, has_header, gate_byte, whole_area}
use Rattle.snap_store.specs.Slots.{opposite_side, slot_of, taken_side}
use Rattle.snap_store.specs.declared.slot.Slots.{Slots}

-- there is an area, of this OPEN row and after so many inputs
abbrev pub IsAreaOf : ℕ → ℕ → Option Stored → Type 0
IsAreaOf place count None = ⊥
IsAreaOf place count (Some area) = (area.place ≡ place) × (area.count ≡ count)

-- The gate and the area of one side. Behind a gate of which nothing is known stands this area, or
-- none that is whole.
abbrev pub StandsOnSide : Side → Slot → Option Stored → List ℕ → Type 0
StandsOnSide side Closed area image = gate_byte side image ≡ 0
StandsOnSide side Unsure area image = whole_area side image ≡ area
StandsOnSide side (Open place count) area image =
    (gate_byte side image ≡ 1) × (whole_area side image ≡ area) × IsAreaOf place count area

-- both sides, seen from one of them
pub record IsLaid
    (side : Side)
    (own : Slot)
    (area : Option Stored)
    (beside : Slot)
    (beside_area : Option Stored)
    (image : List ℕ) : Type 0 where
  pub header : has_header image ≡ true
  pub here : StandsOnSide side own area image
  pub there : StandsOnSide (opposite_side side) beside beside_area image

-- the same, seen from the side that a put takes
abbrev pub IsLaidTaken : Slots → Slot → Option Stored → Option Stored → List ℕ → Type 0
IsLaidTaken slots own area beside_area =
    IsLaid (taken_side slots) own area
    (slot_of slots (opposite_side (taken_side slots))) beside_area

-- the gate, once its closing has begun
abbrev pub loosened : Slot → Slot
loosened Closed = Closed
loosened Unsure = Unsure
loosened (Open place count) = Unsure

-- While area B is written area A isn't one that passes the file's end: its gate is known.
abbrev pub Spares : Side → Slot → Type 0
Spares A beside = Unit {0}
Spares B Closed = Unit {0}
Spares B (Open place count) = Unit {0}
Spares B Unsure = ⊥

-- while a put goes on: the old area behind a gate that is being closed, a closed gate, and the new
-- area behind a gate that is being opened
abbrev pub DuringPut :
    Side → Slot → Option Stored → Stored → Slot → Option Stored → List ℕ
    → Type 0
DuringPut side slot area put beside beside_area image =
    IsLaid side (loosened slot) area beside beside_area image
    ⊎ IsLaid side Closed area beside beside_area image
    ⊎ IsLaid side Unsure (Some put) beside beside_area image

-- what is known of the gate, and the area behind it, after a put that failed in one of these
abbrev pub IsLeft : Slot → Option Stored → Stored → Slot → Option Stored → Type 0
IsLeft slot area put now left =
    ((now ≡ loosened slot) × (left ≡ area))
    ⊎ ((now ≡ Closed) × (left ≡ area))
    ⊎ ((now ≡ Unsure) × (left ≡ Some put))

-- What a store knows of its two gates, and which area a put takes (own).
use Rattle.std.specs.Prelude.{ℕ, Bool, true, false, ◌&&◌, ◌||◌, not, ◌==◌, nat_lt, if◌then◌else◌}
use Rattle.std.specs.Prelude.{List, Option, Some, None}
use Rattle.snap_store.specs.declared.side.Side.{Side}
use Rattle.snap_store.specs.declared.side.Side.TheVariants.{A, B}
use Rattle.snap_store.specs.declared.slot.Slot.{Slot}
use Rattle.snap_store.specs.declared.slot.Slot.TheVariants.{Closed, Open, Unsure}
use Rattle.snap_store.specs.declared.slot.Slots.{Slots}
use Rattle.snap_store.specs.File.{has_header, gate_byte, area_place, count_at, is_open_area}

-- the other area
abbrev pub opposite_side : Side → Side
opposite_side A = B
opposite_side B = A

-- what is known of one gate
abbrev pub slot_of : Slots → Side → Slot
slot_of slots A = slots.a
slot_of slots B = slots.b

-- the same, once this is known of one of them
abbrev pub with_slot : Slots → Side → Slot → Slots
with_slot slots A slot = record slots { a = slot }
with_slot slots B slot = record slots { b = slot }

-- the gate is known to be 0
abbrev pub is_closed : Slot → Bool
is_closed Closed = true
is_closed Unsure = false
is_closed (Open place count) = false

-- the device calls with which a gate is closed: a sync where it is 0, else a write and a sync
abbrev pub closing_calls : Slot → ℕ
closing_calls slot = if is_closed slot then 1 else 2

-- what is known of a file of which nothing is pending
abbrev pub slot_in : Side → List ℕ → Slot
slot_in side file =
    if has_header file && not (gate_byte side file == 0)
    then (if is_open_area side file then Open (area_place side file) (count_at side file)
    else Unsure)
    else Closed

-- an OPEN row and a count of inputs are before others
abbrev pub is_before : ℕ → ℕ → ℕ → ℕ → Bool
is_before place count place' count' =
    nat_lt place place' || ((place == place') && nat_lt count count')

-- Of the areas whose gate 1 has been synced, the one with the greatest place and then the greatest
-- count; area A at equal ones.
abbrev only_b : Slot → Option Side
only_b (Open place count) = Some B
only_b Closed = None
only_b Unsure = None

abbrev beside_a : ℕ → ℕ → Slot → Option Side
beside_a place count (Open place' count') =
    Some (if is_before place count place' count' then B else A)
beside_a place count Closed = Some A
beside_a place count Unsure = Some A

abbrev newest_of : Slot → Slot → Option Side
newest_of (Open place count) b = beside_a place count b
newest_of Closed b = only_b b
newest_of Unsure b = only_b b

abbrev pub newest_side : Slots → Option Side
newest_side slots = newest_of slots.a slots.b

-- the area that a put takes: the one that isn't the newest; area A where none is open
abbrev pub beside : Option Side → Side
beside None = A
beside (Some side) = opposite_side side

abbrev pub taken_side : Slots → Side
taken_side slots = beside (newest_side slots)

-- the gate is known to be open, before the area of this OPEN row after so many inputs
abbrev pub is_open_for : ℕ → ℕ → Slot → Bool
is_open_for place count Closed = false
is_open_for place count Unsure = false
is_open_for place count (Open place' count') = (place' == place) && (count' == count)

-- one of the two gates is
abbrev pub is_stored : ℕ → ℕ → Slots → Bool
is_stored place count slots =
    is_open_for place count slots.a || is_open_for place count slots.b

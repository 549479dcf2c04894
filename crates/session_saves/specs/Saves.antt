-- A session's snapshots: its store, what was missed, and when one is due (own).
use Rattle.std.specs.Prelude.{◌≡◌, ◌≤◌, ◌<◌, ℕ, ◌+◌, ◌-◌, ◌*◌, ◌%◌, ◌^◌, min, ◌==◌, ◌&&◌, not}
use Rattle.std.specs.Prelude.{nat_lt, Bool, false, List, Option, Some, None}
use Rattle.snap_store.specs.File.{Stored, open_area}
use Rattle.snap_store.specs.Slots.{slot_of, is_stored}
use Rattle.snap_store.specs.Store.{Snapshots}
use Rattle.snap_store.specs.declared.side.Side.{Side}
use Rattle.snap_store.specs.declared.slot.Slot.TheVariants.{Open}
use Rattle.snap_store.specs.declared.slot.Slots.{Slots}
use Rattle.session_saves.specs.declared.missed.Cause.{Cause}
use Rattle.session_saves.specs.declared.missed.Cause.TheVariants.{NoMemory, TooLong, DiskFailed}
use Rattle.session_saves.specs.declared.missed.Cause.TheVariants.{NotMade}
use Rattle.session_saves.specs.declared.missed.Missed.{Missed}
use Rattle.session_saves.specs.declared.saves.Point.{Point}

-- the store, how many puts were prevented, by cause, and which of them was the last
pub record SavesState (D : Type 0) : Type 0 where
  pub store : Snapshots D
  pub missed : Missed
  pub last : Option Point

-- nothing was missed
abbrev pub none_missed : Missed
none_missed = record { memory = 0; size = 0; fault = 0; none = 0 }

-- those of a store that was just opened
abbrev pub saves_of_opened_store : {D : Type 0} → Snapshots D → SavesState D
saves_of_opened_store store = record { store = store; missed = none_missed; last = None }

-- what is true of each: what was missed last is counted
abbrev pub IsMissCounted : Missed → Option Point → Type 0
IsMissCounted missed last = missed ≡ none_missed → last ≡ None

-- one more; at the end of a u64 a count stands still
abbrev pub one_more : ℕ → ℕ
one_more n = min (n + 1) (2 ^ 64 - 1)

-- one put more was prevented, by this cause
abbrev pub with_cause : Cause → Missed → Missed
with_cause NoMemory missed = record missed { memory = one_more missed.memory }
with_cause TooLong missed = record missed { size = one_more missed.size }
with_cause DiskFailed missed = record missed { fault = one_more missed.fault }
with_cause NotMade missed = record missed { none = one_more missed.none }

-- what was missed last is the snapshot of this OPEN row after so many inputs
abbrev pub is_at : ℕ → ℕ → Option Point → Bool
is_at place count None = false
is_at place count (Some point) = (point.place == place) && (point.count == count)

-- A snapshot is due after every 16th input.
abbrev pub falls_due : ℕ → Bool
falls_due count = nat_lt 0 count && (count % 16 == 0)

-- it fell due, and is neither stored nor counted among those that were missed
unfoldable pub due_in : Slots → Option Point → ℕ → ℕ → Bool
due_in slots last place count =
    falls_due count && (not (is_stored place count slots) && not (is_at place count last))

abbrev pub is_due : {D : Type 0} → SavesState D → ℕ → ℕ → Bool
is_due saves place count = due_in saves.store.slots saves.last place count

-- an area of this OPEN row and of at least so many inputs is known to be open
pub record HasSince (place least : ℕ) (slots : Slots) : Type 0 where
  pub side : Side
  pub count : ℕ
  pub open_there : slot_of slots side ≡ Open place count
  pub since : least ≤ count

-- an area of this OPEN row and of at least so many inputs is open in the file
pub record HasOpenSince (place least : ℕ) (file : List ℕ) : Type 0 where
  pub side : Side
  pub area : Stored
  pub open_there : open_area side file ≡ Some area
  pub row : area.place ≡ place
  pub since : least ≤ area.count

-- while nothing was missed: an open area of this OPEN row has each snapshot behind it that fell due
-- before the last of so many inputs
abbrev pub IsKeptUp : ℕ → ℕ → Slots → Missed → Type 0
IsKeptUp place count slots missed =
    missed ≡ none_missed → (due : ℕ) → 0 < due → due * 16 < count
    → HasSince place (due * 16) slots

-- What holds of a session's snapshot file at any time (own).
use Rattle.std.specs.Prelude.{◌≡◌, ◌^◌, ℕ, true, false, List, length, Some}
use Rattle.disk_model.specs.Disk.{file_written}
use Rattle.disk_model.specs.DiskState.{DiskState, IsDiskImage}
use Rattle.disk_model.specs.declared.disk.Disk.{Ghosts as DiskWords}
use Rattle.snap_store.specs.declared.side.Side.{Side}
use Rattle.snap_store.specs.declared.slot.Slot.TheVariants.{Closed, Open, Unsure}
use Rattle.snap_store.specs.File.{Stored, gate_byte, head_bytes, side_start, whole_area}
use Rattle.snap_store.specs.Images.{Spares, StandsOnSide, loosened}
use Rattle.snap_store.specs.Slots.{opposite_side, slot_of}
use Rattle.snap_store.specs.Store.{IsSoundStore, Snapshots}
use Rattle.store_events.specs.declared.state.OpeningStage.TheVariants.{FirstSync, AskSize, ReadFront}
use Rattle.store_events.specs.declared.state.OpeningStage.TheVariants.{ReadA, ReadB}
use Rattle.store_events.specs.declared.state.PutStage.{PutStage}
use Rattle.store_events.specs.declared.state.PutStage.TheVariants.{CloseWrite, CloseSync, HeadWrite}
use Rattle.store_events.specs.declared.state.PutStage.TheVariants.{BytesWrite, AreaSync, OpenWrite}
use Rattle.store_events.specs.declared.state.PutStage.TheVariants.{OpenSync}
use Rattle.store_events.specs.declared.state.FileStep.{FileStep}
use Rattle.store_events.specs.declared.state.FileStep.TheVariants.{Idle, Put, Opening}
use Rattle.store_events.specs.declared.state.StoreState.{StoreState}
use Rattle.store_events.specs.Events.{has_room}

-- what a disk reads as
abbrev pub seen_of : DiskState → List ℕ
seen_of p = p.seen

-- a disk's state by the words of a disk: it tells its bytes, and there is one moment
abbrev pub state_words : DiskWords DiskState
state_words = record {
  tells = λ p. true;
  steady = λ p. false;
  fails_at = λ p t. false;
  seen = seen_of;
  may_leave = IsDiskImage;
  moment = λ p. 0;
  left_since = λ p t. IsDiskImage p;
  faults = λ p. 0;
  reach = λ p. 0;
  room = λ p. 2 ^ 40;
  label = λ p. 0;
  makes = λ old asked good new. Unit {0};
}

-- the store, as snap_store's contracts see one
abbrev pub store_of : StoreState → Snapshots DiskState
store_of w = record { disk = w.disk; made = w.made; slots = w.slots }

-- while a put is under way: the file has room for the area, its gate isn't one that is known to be
-- open, and the other area isn't one that it writes over
pub record IsPutting (w : StoreState) (side : Side) (area : Stored) : Type 0 where
  pub room : has_room area ≡ true
  pub made : w.made ≡ true
  pub loose : loosened (slot_of w.slots side) ≡ slot_of w.slots side
  pub spares : Spares side (slot_of w.slots (opposite_side side))

-- what is known of its own gate then, and what the disk reads as
abbrev pub HasStage : StoreState → PutStage → Side → Stored → Type 0
HasStage w CloseWrite side area = slot_of w.slots side ≡ Unsure
HasStage w CloseSync side area = gate_byte side w.disk.seen ≡ 0
HasStage w HeadWrite side area = slot_of w.slots side ≡ Closed
HasStage w BytesWrite side area =
    (slot_of w.slots side ≡ Closed)
    × ((old : List ℕ) × (w.disk.seen
    ≡ file_written old (side_start side) (head_bytes area.place area.count (length area.bytes))))
HasStage w AreaSync side area =
    (slot_of w.slots side ≡ Closed) × (whole_area side w.disk.seen ≡ Some area)
HasStage w OpenWrite side area =
    (slot_of w.slots side ≡ Unsure) × (whole_area side w.disk.seen ≡ Some area)
HasStage w OpenSync side area =
    (slot_of w.slots side ≡ Unsure)
    × StandsOnSide side (Open area.place area.count) (Some area) w.disk.seen

-- nothing is pending once an opening's sync was good
abbrev pub IsSettled : DiskState → Type 0
IsSettled p = (image : List ℕ) → IsDiskImage p image → image ≡ p.seen

abbrev pub HasStep : StoreState → FileStep → Type 0
HasStep w Idle = Unit {0}
HasStep w (Put stage side area) = IsPutting w side area × HasStage w stage side area
HasStep w (Opening FirstSync) = Unit {0}
HasStep w (Opening AskSize) = IsSettled w.disk
HasStep w (Opening ReadFront) = IsSettled w.disk
HasStep w (Opening ReadA) = IsSettled w.disk
HasStep w (Opening ReadB) = IsSettled w.disk

-- What the slots say holds in each image that a stop may leave, at every moment: a put that is
-- under way included.
pub record IsSteady (w : StoreState) : Type 0 where
  pub reads : IsDiskImage w.disk w.disk.seen
  pub sound : IsSoundStore state_words (store_of w)
  pub step : HasStep w w.step

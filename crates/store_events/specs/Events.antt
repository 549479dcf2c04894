-- A session's snapshot file after an event, and after a list of events (own).
use Rattle.std.specs.Prelude.{ℕ, ◌+◌, ◌^◌, ◌&&◌, nat_le, nat_lt, if◌then◌else◌, Bool, true, false}
use Rattle.std.specs.Prelude.{List, [], ◌∷◌, length, Option, Some, None}
use Rattle.disk_model.specs.DiskState.{settled}
use Rattle.disk_model.specs.Plain.{is_image}
use Rattle.snap_store.specs.declared.outline.TheConstants.{MAX_SNAPSHOT}
use Rattle.snap_store.specs.declared.side.Side.{Side}
use Rattle.snap_store.specs.declared.side.Side.TheVariants.{A, B}
use Rattle.snap_store.specs.declared.slot.Slot.{Slot}
use Rattle.snap_store.specs.declared.slot.Slot.TheVariants.{Closed, Open, Unsure}
use Rattle.snap_store.specs.declared.slot.Slots.{Slots}
use Rattle.snap_store.specs.File.{Stored, gate_of, has_header, head_bytes, side_start}
use Rattle.snap_store.specs.Images.{loosened}
use Rattle.snap_store.specs.Slots.{is_closed, slot_in, slot_of, taken_side, with_slot}
use Rattle.store_events.specs.declared.disk.DiskCall.{DiskCall}
use Rattle.store_events.specs.declared.disk.DiskCall.TheVariants.{Write, Sync, Look}
use Rattle.store_events.specs.declared.event.FileEvent.{FileEvent}
use Rattle.store_events.specs.declared.event.FileEvent.TheVariants.{Keep, Call, Stop, Recover}
use Rattle.store_events.specs.declared.state.OpeningStage.TheVariants.{FirstSync, AskSize, ReadFront}
use Rattle.store_events.specs.declared.state.OpeningStage.TheVariants.{ReadA, ReadB}
use Rattle.store_events.specs.declared.state.PutStage.{PutStage}
use Rattle.store_events.specs.declared.state.PutStage.TheVariants.{CloseWrite, CloseSync, HeadWrite}
use Rattle.store_events.specs.declared.state.PutStage.TheVariants.{BytesWrite, AreaSync, OpenWrite}
use Rattle.store_events.specs.declared.state.PutStage.TheVariants.{OpenSync}
use Rattle.store_events.specs.declared.state.FileStep.{FileStep}
use Rattle.store_events.specs.declared.state.FileStep.TheVariants.{Idle, Put, Opening}
use Rattle.store_events.specs.declared.state.StoreState.{StoreState}
use Rattle.store_events.specs.Disk.{disk_after, may_work, fault_counted}

-- the device call that a stage of a put makes
abbrev pub put_call : PutStage → Side → Stored → DiskCall
put_call CloseWrite side area = Write (gate_of side) (0 ∷ [])
put_call CloseSync side area = Sync
put_call HeadWrite side area =
    Write (side_start side) (head_bytes area.place area.count (length area.bytes))
put_call BytesWrite side area = Write (side_start side + 16) area.bytes
put_call AreaSync side area = Sync
put_call OpenWrite side area = Write (gate_of side) (1 ∷ [])
put_call OpenSync side area = Sync

-- the device call that a step makes
abbrev pub next_store_call : FileStep → Option DiskCall
next_store_call Idle = None
next_store_call (Put stage side area) = Some (put_call stage side area)
next_store_call (Opening FirstSync) = Some Sync
next_store_call (Opening reading) = Some Look

-- the put goes on with this stage
abbrev pub comes_to : StoreState → PutStage → Side → Stored → StoreState
comes_to w stage side area = record w { step = Put stage side area }

-- from now on this is known of the gate of one side
abbrev pub knows : StoreState → Side → Slot → StoreState
knows w side slot = record w { slots = with_slot w.slots side slot }

-- nothing is under way
abbrev pub idle : StoreState → StoreState
idle w = record w { step = Idle }

-- what is known of both gates of a file of which nothing is pending
abbrev pub slots_in : List ℕ → Slots
slots_in file = record { a = slot_in A file; b = slot_in B file }

-- an opening has ended well
abbrev pub store_comes_up : StoreState → StoreState
store_comes_up w =
    record w {
      up = true;
      made = has_header w.disk.seen;
      slots = slots_in w.disk.seen;
      step = Idle;
    }

-- After a good call of a put. The gate is known to be 0 once its closing is synced; nothing is
-- known of it while it is opened; and it is known to be open once that is synced.
abbrev pub put_onward : StoreState → PutStage → Side → Stored → StoreState
put_onward w CloseWrite side area = comes_to w CloseSync side area
put_onward w CloseSync side area = comes_to (knows w side Closed) HeadWrite side area
put_onward w HeadWrite side area = comes_to w BytesWrite side area
put_onward w BytesWrite side area = comes_to w AreaSync side area
put_onward w AreaSync side area = comes_to (knows w side Unsure) OpenWrite side area
put_onward w OpenWrite side area = comes_to w OpenSync side area
put_onward w OpenSync side area = idle (knows w side (Open area.place area.count))

-- after a good call of this step
abbrev pub store_onward : StoreState → FileStep → StoreState
store_onward w Idle = w
store_onward w (Put stage side area) = put_onward w stage side area
store_onward w (Opening FirstSync) = record w { step = Opening AskSize }
store_onward w (Opening AskSize) = record w { step = Opening ReadFront }
store_onward w (Opening ReadFront) = record w { step = Opening ReadA }
store_onward w (Opening ReadA) = record w { step = Opening ReadB }
store_onward w (Opening ReadB) = store_comes_up w

-- The call that a step makes, by whether it is good and by what the disk then reads as. A write
-- past the room isn't good, and a disk reads as one of its images. Where it isn't good what was
-- under way ends.
abbrev pub store_called : StoreState → Bool → List ℕ → FileStep → Option DiskCall → StoreState
store_called w good reads step None = w
store_called w true reads step (Some call) =
    if may_work call
    then store_onward (record w { disk = disk_after call true reads w.disk }) step
    else w
store_called w false reads step (Some call) =
    if is_image (disk_after call false reads w.disk) reads
    then record w {
      disk = disk_after call false reads w.disk;
      faults = fault_counted w.faults;
      step = Idle;
    }
    else w

-- a gate that isn't known to be 0 is closed by a write, and then by the sync
abbrev pub first_stage : Slot → PutStage
first_stage slot = if is_closed slot then CloseSync else CloseWrite

-- A put begins, in the place of the area that isn't the newest. From now on its gate may be
-- anything, where it isn't known to be 0.
abbrev pub put_begins : StoreState → Side → Stored → StoreState
put_begins w side area =
    record w {
      slots = with_slot w.slots side (loosened (slot_of w.slots side));
      step = Put (first_stage (slot_of w.slots side)) side area;
    }

-- a file has room for an area: for its place, its count, and so many bytes
abbrev pub has_room : Stored → Bool
has_room area =
    nat_lt area.place (2 ^ 64) && nat_lt area.count (2 ^ 32)
    && nat_le (length area.bytes) MAX_SNAPSHOT

-- Keep, where nothing is under way
abbrev pub keep_at : StoreState → Stored → FileStep → StoreState
keep_at w area Idle =
    if w.up && w.made && has_room area
    then put_begins w (taken_side w.slots) area
    else w
keep_at w area step = w

-- Stop: the disk holds the image
abbrev pub store_stopped : StoreState → List ℕ → StoreState
store_stopped w image = record w { up = false; disk = settled image; step = Idle }

-- an opening begins
abbrev pub begins_opening : StoreState → StoreState
begins_opening w = record w { up = false; step = Opening FirstSync }

-- an opening is under way, or a put
abbrev pub is_opening : FileStep → Bool
is_opening Idle = false
is_opening (Put stage side area) = false
is_opening (Opening reading) = true

abbrev pub is_putting : FileStep → Bool
is_putting Idle = false
is_putting (Put stage side area) = true
is_putting (Opening reading) = false

-- the file after an event; one that isn't enabled leaves it
abbrev pub file_after : StoreState → FileEvent → StoreState
file_after w (Keep place count bytes) =
    keep_at w (record { place = place; count = count; bytes = bytes }) w.step
file_after w (Call good reads) = store_called w good reads w.step (next_store_call w.step)
file_after w (Stop image) = if is_image w.disk image then store_stopped w image else w
file_after w Recover = if w.up then w else begins_opening w

-- the file after these events, one after the other
abbrev pub run_store : StoreState → List FileEvent → StoreState
run_store w [] = w
run_store w (event ∷ events) = run_store (file_after w event) events

-- a host is down over a file that holds these bytes, with nothing pending
abbrev pub store_down_over : List ℕ → StoreState
store_down_over bytes =
    record {
      up = false;
      disk = settled bytes;
      faults = 0;
      made = has_header bytes;
      slots = slots_in bytes;
      step = Idle;
    }

-- What the slots say holds in each image, through every event.
use Rattle.std.proofs.Common.{◌≡◌, ◌∙◌, ℕ, Bool, true, false, List, refl, sym, subst}
use Rattle.std.specs.Prelude.{◌&&◌, if◌then◌else◌}
use Rattle.std.proofs.lemmas.Bool.{and_parts}
use Rattle.disk_model.specs.DiskState.{IsDiskImage, settled}
use Rattle.disk_model.proofs.StateLaws.{only_settled, settled_image}
use Rattle.snap_store.specs.declared.side.Side.{Side}
use Rattle.snap_store.specs.declared.slot.Slot.{Slot}
use Rattle.snap_store.specs.declared.slot.Slot.TheVariants.{Closed, Open, Unsure}
use Rattle.snap_store.specs.File.{Stored, whole_area}
use Rattle.snap_store.specs.Images.{StandsOnSide, loosened}
use Rattle.snap_store.specs.Slots.{is_closed, opposite_side, slot_of, taken_side, with_slot}
use Rattle.snap_store.proofs.LaidLemmas.{laid_loosened}
use Rattle.snap_store.proofs.PutLemmas.{slot_kept, slot_set}
use Rattle.snap_store.proofs.SlotLemmas.{spares_taken}
use Rattle.store_events.specs.declared.event.FileEvent.{FileEvent}
use Rattle.store_events.specs.declared.event.FileEvent.TheVariants.{Keep, Call, Stop, Recover}
use Rattle.store_events.specs.declared.state.OpeningStage.{OpeningStage}
use Rattle.store_events.specs.declared.state.OpeningStage.TheVariants.{FirstSync, AskSize, ReadFront}
use Rattle.store_events.specs.declared.state.OpeningStage.TheVariants.{ReadA, ReadB}
use Rattle.store_events.specs.declared.state.PutStage.TheVariants.{CloseWrite, CloseSync}
use Rattle.store_events.specs.declared.state.FileStep.{FileStep}
use Rattle.store_events.specs.declared.state.FileStep.TheVariants.{Idle, Put, Opening}
use Rattle.store_events.specs.declared.state.StoreState.{StoreState}
use Rattle.store_events.specs.Events.{file_after, store_called, store_down_over, has_room}
use Rattle.store_events.specs.Events.{next_store_call, begins_opening}
use Rattle.store_events.specs.Events.{put_begins, put_call, store_stopped}
use Rattle.store_events.specs.Steady.{HasStage, HasStep, IsSettled, IsSteady}
use Rattle.store_events.proofs.ImageLemmas.{sync_leaves}
use Rattle.store_events.proofs.EventLemmas.{bad_call, bad_reading, good_call, good_reading, keeps}
use Rattle.store_events.proofs.EventLemmas.{reopens, stops}
use Rattle.store_events.proofs.PuttingLemmas.{LaidBy, laid_by, put_goes_on, put_sound, sound_laid}
use Rattle.store_events.proofs.PuttingLemmas.{sound_narrowed, sound_shown}

-- ---- every call

called_steady : (w : StoreState) → IsSteady w → (good : Bool) (reads : List ℕ) (step : FileStep)
    → HasStep w step → IsSteady (store_called w good reads step (next_store_call step))
called_steady w steady good reads Idle has = steady
called_steady w steady true reads (Put stage side area) has =
    good_call IsSteady w steady (Put stage side area) (put_call stage side area) reads
    (put_goes_on w steady side area has.0 stage has.1 reads)
called_steady w steady false reads (Put stage side area) has =
    bad_call IsSteady w steady (Put stage side area) (put_call stage side area) reads (λ read.
    record {
      reads = read;
      sound = put_sound w steady side area has.0 stage has.1 false reads read;
      step = tt;
    })
called_steady w steady true reads (Opening reading) has =
    good_reading IsSteady w steady reading has reads
    (record {
      reads = settled_image w.disk.seen;
      sound = sound_narrowed w.disk (settled w.disk.seen) w.made w.slots steady.sound
          (λ c image. sync_leaves true reads w.disk c steady.reads image)
          (settled_image w.disk.seen);
      step = λ image of. only_settled w.disk.seen image of;
    })
    (λ only next.
    record { reads = steady.reads; sound = steady.sound; step = reads_on only next })
    (λ only. record { reads = steady.reads; sound = sound_shown w.disk only; step = tt })
  where
    reads_on : IsSettled w.disk → (next : OpeningStage)
        → HasStep (record w { step = Opening next }) (Opening next)
    reads_on only FirstSync = tt
    reads_on only AskSize = only
    reads_on only ReadFront = only
    reads_on only ReadA = only
    reads_on only ReadB = only
called_steady w steady false reads (Opening reading) has =
    bad_reading IsSteady w steady reading reads steady.reads (λ q narrower read.
    record {
      reads = read;
      sound = sound_narrowed w.disk q w.made w.slots steady.sound narrower read;
      step = tt;
    })

-- ---- the other events

not_closed : (slot : Slot) → is_closed slot ≡ false → loosened slot ≡ Unsure
not_closed Closed is = absurd cc
not_closed Unsure is = refl
not_closed (Open place count) is = refl

closed_is : (slot : Slot) → is_closed slot ≡ true → slot ≡ Closed
closed_is Closed is = refl
closed_is Unsure is = absurd cc
closed_is (Open place count) is = absurd cc

twice_loosened : (slot : Slot) → loosened (loosened slot) ≡ loosened slot
twice_loosened Closed = refl
twice_loosened Unsure = refl
twice_loosened (Open place count) = refl

module _ (w : StoreState) (steady : IsSteady w) (area : Stored) (room : has_room area ≡ true)
    (made : w.made ≡ true) where
  abbrev taken : Side
  taken = taken_side w.slots

  abbrev taken_slot : Slot
  taken_slot = slot_of w.slots taken

  laid_taken : (c : List ℕ) → IsDiskImage w.disk c → LaidBy taken w.slots w.disk.seen c
  laid_taken c image = laid_by w.disk w.made w.slots steady.sound made taken c image

  first_has : (b : Bool) → is_closed taken_slot ≡ b
      → HasStage (put_begins w taken area) (if b then CloseSync else CloseWrite) taken area
  first_has true is =
      subst (λ (s : Slot). StandsOnSide taken s (whole_area taken w.disk.seen) w.disk.seen)
      (closed_is taken_slot is) (laid_taken w.disk.seen steady.reads).here
  first_has false is =
      slot_set taken w.slots (loosened taken_slot) ∙ not_closed taken_slot is

  begins_steady : IsSteady (put_begins w taken area)
  begins_steady = record {
    reads = steady.reads;
    sound =
        sound_laid w.disk w.made (with_slot w.slots taken (loosened taken_slot)) taken
        (loosened taken_slot) (whole_area taken w.disk.seen) (slot_of w.slots (opposite_side taken))
        (whole_area (opposite_side taken) w.disk.seen) made steady.reads
        (slot_set taken w.slots (loosened taken_slot))
        (slot_kept taken w.slots (loosened taken_slot))
        (λ c image. laid_loosened taken taken_slot (whole_area taken w.disk.seen)
        (slot_of w.slots (opposite_side taken)) (whole_area (opposite_side taken) w.disk.seen) c
        (laid_taken c image));
    step = (
      record {
        room = room;
        made = made;
        loose = rw (slot_set taken w.slots (loosened taken_slot)) (twice_loosened taken_slot);
        spares = rw (slot_kept taken w.slots (loosened taken_slot)) (spares_taken w.slots);
      },
      first_has (is_closed taken_slot) refl,
    );
  }

pub stop_steady : (w : StoreState) → IsSteady w → (image : List ℕ) → IsDiskImage w.disk image
    → IsSteady (store_stopped w image)
stop_steady w steady image is = record {
  reads = settled_image image;
  sound = sound_narrowed w.disk (settled image) w.made w.slots steady.sound
      (λ c of. subst (λ (l : List ℕ). IsDiskImage w.disk l) (sym (only_settled image c of)) is)
      (settled_image image);
  step = tt;
}

pub opens_steady : (w : StoreState) → IsSteady w → IsSteady (begins_opening w)
opens_steady w steady = record { reads = steady.reads; sound = steady.sound; step = tt }

pub after_steady : (w : StoreState) (event : FileEvent) → IsSteady w → IsSteady (file_after w event)
after_steady w (Keep place count bytes) steady =
    let area : Stored = record { place = place; count = count; bytes = bytes } in
    keeps IsSteady w steady area w.step (λ is.
    let enabled = and_parts (w.up && w.made) (has_room area) is in
    begins_steady w steady area enabled.1 (and_parts w.up w.made enabled.0).1)
after_steady w (Call good reads) steady = called_steady w steady good reads w.step steady.step
after_steady w (Stop image) steady =
    stops IsSteady w steady image (stop_steady w steady image)
after_steady w Recover steady = reopens IsSteady w steady w.up (opens_steady w steady)

-- a host that is down over a file
pub down_steady : (bytes : List ℕ) → IsSteady (store_down_over bytes)
down_steady bytes = record {
  reads = settled_image bytes;
  sound = sound_shown (settled bytes) (λ image of. only_settled bytes image of);
  step = tt;
}

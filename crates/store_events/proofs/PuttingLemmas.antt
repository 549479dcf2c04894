-- What the slots say holds in each image, through the calls of a put.
use Rattle.std.proofs.Common.{◌≡◌, ◌∙◌, ℕ, ◌+◌, ◌^◌, ◌<◌, ◌≤◌, Bool, true, false, List}
use Rattle.std.proofs.Common.{[], ◌∷◌, length, refl, sym, ap, subst, arith}
use Rattle.std.specs.Prelude.{◌&&◌, nat_le, nat_lt, Option, Some}
use Rattle.std.proofs.lemmas.Bool.{and_parts, leb-true, ltb-true}
use Rattle.disk_model.specs.Disk.{file_written}
use Rattle.disk_model.specs.DiskState.{DiskState, IsDiskImage, settled}
use Rattle.disk_model.proofs.StateLaws.{only_settled, seen_write, settled_image}
use Rattle.snap_store.specs.declared.side.Side.{Side}
use Rattle.snap_store.specs.declared.side.Side.TheVariants.{A, B}
use Rattle.snap_store.specs.declared.slot.Slot.{Slot}
use Rattle.snap_store.specs.declared.slot.Slot.TheVariants.{Closed, Open, Unsure}
use Rattle.snap_store.specs.declared.slot.Slots.{Slots}
use Rattle.snap_store.specs.declared.outline.TheConstants.{MAX_SNAPSHOT}
use Rattle.snap_store.specs.File.{Stored, gate_byte, gate_of, has_header, head_bytes, side_start}
use Rattle.snap_store.specs.File.{whole_area}
use Rattle.snap_store.specs.Images.{IsLaid, StandsOnSide, loosened}
use Rattle.snap_store.specs.Slots.{opposite_side, slot_in, slot_of, with_slot}
use Rattle.snap_store.specs.Store.{IsSoundStore}
use Rattle.snap_store.proofs.AreaWritten.{length-head, whole_there}
use Rattle.snap_store.proofs.LaidLemmas.{laid_area_torn, laid_closed, laid_gate_torn, laid_opened}
use Rattle.snap_store.proofs.PutLemmas.{slot_kept, slot_set}
use Rattle.snap_store.proofs.StoreLemmas.{laid_seen, laid_turned, sound_read}
use Rattle.store_events.specs.declared.disk.DiskCall.TheVariants.{Write}
use Rattle.store_events.specs.declared.state.PutStage.{PutStage}
use Rattle.store_events.specs.declared.state.PutStage.TheVariants.{CloseWrite, CloseSync, HeadWrite}
use Rattle.store_events.specs.declared.state.PutStage.TheVariants.{BytesWrite, AreaSync, OpenWrite}
use Rattle.store_events.specs.declared.state.PutStage.TheVariants.{OpenSync}
use Rattle.store_events.specs.declared.state.StoreState.{StoreState}
use Rattle.store_events.specs.Disk.{disk_after}
use Rattle.store_events.specs.Events.{has_room, comes_to, knows, put_call, put_onward, slots_in}
use Rattle.store_events.specs.Steady.{HasStage, IsPutting, IsSettled}
use Rattle.store_events.specs.Steady.{IsSteady, state_words}
use Rattle.store_events.proofs.ImageLemmas.{stays_after, sync_leaves, write_leaves}

abbrev pub Sound : DiskState → Bool → Slots → Type 0
Sound p made slots =
    IsSoundStore state_words (record { disk = p; made = made; slots = slots })

true_false : true ≡ false → ⊥
true_false is = cc

-- ---- an area that there is room for

-- its place, its count and its bytes
fits : (area : Stored) → has_room area ≡ true
    → (area.place < 2 ^ 64) × (area.count < 2 ^ 32) × (length area.bytes ≤ MAX_SNAPSHOT)
fits area room =
    let all = and_parts (nat_lt area.place (2 ^ 64) && nat_lt area.count (2 ^ 32))
    (nat_le (length area.bytes) MAX_SNAPSHOT) room in
    let numbers = and_parts (nat_lt area.place (2 ^ 64)) (nat_lt area.count (2 ^ 32)) all.0 in (
      ltb-true area.place (2 ^ 64) numbers.0,
      ltb-true area.count (2 ^ 32) numbers.1,
      leb-true (length area.bytes) MAX_SNAPSHOT all.1,
    )

-- ---- both sides of an image, seen from one of them

-- by what is known of the gates, and with the areas that stand in this file
abbrev pub LaidBy : Side → Slots → List ℕ → List ℕ → Type 0
LaidBy side slots file c =
    IsLaid side (slot_of slots side) (whole_area side file) (slot_of slots (opposite_side side))
    (whole_area (opposite_side side) file) c

laid_back : (side : Side) (slots : Slots) (file c : List ℕ) → LaidBy side slots file c
    → IsLaid A slots.a (whole_area A file) slots.b (whole_area B file) c
laid_back A slots file c laid = laid
laid_back B slots file c laid =
    record { header = laid.header; here = laid.there; there = laid.here }

pub side_of_both : (side : Side) (slots : Slots) (file c : List ℕ) → LaidBy side slots file c
    → (s : Side) → StandsOnSide s (slot_of slots s) (whole_area s file) c
side_of_both A slots file c laid A = laid.here
side_of_both A slots file c laid B = laid.there
side_of_both B slots file c laid A = laid.there
side_of_both B slots file c laid B = laid.here

pub laid_by : (p : DiskState) (made : Bool) (slots : Slots) → Sound p made slots → made ≡ true
    → (side : Side) (c : List ℕ) → IsDiskImage p c → LaidBy side slots p.seen c
laid_by p made slots sound is side c image =
    laid_turned side slots p.seen c (sound.laid is refl c image)

-- each image is laid by the slots, whichever the areas are
pub sound_laid : (p : DiskState) (made : Bool) (slots : Slots) (side : Side) (own : Slot)
    (area : Option Stored) (beside : Slot) (beside_area : Option Stored)
    → made ≡ true → IsDiskImage p p.seen
    → slot_of slots side ≡ own → slot_of slots (opposite_side side) ≡ beside
    → ((c : List ℕ) → IsDiskImage p c → IsLaid side own area beside beside_area c)
    → Sound p made slots
sound_laid p made slots side own area beside beside_area is reads own_is beside_is laid = record {
  header = λ told c image. (laid c image).header ∙ sym is;
  laid = λ _ told c image.
      laid_back side slots p.seen c
      (subst
      (λ (s : Slot). IsLaid side s (whole_area side p.seen) (slot_of slots (opposite_side side))
      (whole_area (opposite_side side) p.seen) c) (sym own_is)
      (subst (λ (s : Slot). IsLaid side own (whole_area side p.seen) s
      (whole_area (opposite_side side) p.seen) c) (sym beside_is)
      (laid_seen side own area beside beside_area p.seen c (laid p.seen reads) (laid c image))));
  unmade = λ unmade. absurd (true_false (sym is ∙ unmade));
}

-- no image is new
pub sound_narrowed : (p q : DiskState) (made : Bool) (slots : Slots) → Sound p made slots
    → ((c : List ℕ) → IsDiskImage q c → IsDiskImage p c) → IsDiskImage q q.seen → Sound q made slots
sound_narrowed p q made slots sound narrower reads = record {
  header = λ told c image. sound.header refl c (narrower c image);
  laid = λ is told c image.
      laid_seen A slots.a (whole_area A p.seen) slots.b (whole_area B p.seen) q.seen c
      (sound.laid is refl q.seen (narrower q.seen reads)) (sound.laid is refl c (narrower c image));
  unmade = sound.unmade;
}

-- nothing is pending: the slots are those that the file shows
closed_in : (side : Side) (file : List ℕ) → has_header file ≡ false → slot_in side file ≡ Closed
closed_in side file is = rw is refl

pub sound_shown : (p : DiskState) → IsSettled p → Sound p (has_header p.seen) (slots_in p.seen)
sound_shown p only =
    sound_read state_words
    (record { disk = p; made = has_header p.seen; slots = slots_in p.seen }) p.seen
    (λ told. record { made = refl; a = refl; b = refl; sees = refl; only = only })
    (λ unmade. (closed_in A p.seen unmade, closed_in B p.seen unmade))

-- ---- places

gate_first : (side : Side) → gate_of side + 1 ≤ 2 ^ 40
gate_first A = omega arith
gate_first B = omega arith

start_first : (side : Side) → side_start side + 16 + 8388608 ≤ 2 ^ 40
start_first A = omega arith
start_first B = omega arith

-- ---- a call of a put

module _ (w : StoreState) (steady : IsSteady w) (side : Side) (area : Stored)
    (putting : IsPutting w side area) where
  abbrev p : DiskState
  p = w.disk

  abbrev own : Slot
  own = slot_of w.slots side

  abbrev old : Option Stored
  old = whole_area side w.disk.seen

  abbrev beside : Slot
  beside = slot_of w.slots (opposite_side side)

  abbrev beside_area : Option Stored
  beside_area = whole_area (opposite_side side) w.disk.seen

  abbrev Laid : Slot → Option Stored → List ℕ → Type 0
  Laid slot held c = IsLaid side slot held beside beside_area c

  laid : (c : List ℕ) → IsDiskImage p c → Laid own old c
  laid c image = laid_by p w.made w.slots steady.sound putting.made side c image

  laid_as : (slot : Slot) → own ≡ slot → (c : List ℕ) → IsDiskImage p c → Laid slot old c
  laid_as slot is c image = subst (λ (s : Slot). Laid s old c) is (laid c image)

  back : (slot : Slot) → own ≡ slot → (c : List ℕ) → Laid slot old c → Laid own old c
  back slot is c there = subst (λ (s : Slot). Laid s old c) (sym is) there

  gate_leaves : own ≡ Unsure → (byte : ℕ) (good : Bool) (reads : List ℕ) (c : List ℕ)
      → IsDiskImage (disk_after (Write (gate_of side) (byte ∷ [])) good reads p) c → Laid own old c
  gate_leaves is byte good reads c image =
      let from = write_leaves good (gate_of side) (byte ∷ []) reads p c image in
      back Unsure is c
      (laid_gate_torn side old beside beside_area c from.0 from.2 (laid_as Unsure is from.0 from.1))

  area_leaves : own ≡ Closed → (at : ℕ) (piece : List ℕ) (good : Bool) (reads : List ℕ)
      → side_start side ≤ at → at + length piece ≤ side_start side + 16 + 8388608
      → (c : List ℕ) → IsDiskImage (disk_after (Write at piece) good reads p) c → Laid own old c
  area_leaves is at piece good reads from to c image =
      let before = write_leaves good at piece reads p c image in
      back Closed is c
      (laid_area_torn side old beside beside_area c before.0 at
      (length piece) putting.spares from to
      before.2 (laid_as Closed is before.0 before.1))

  -- the images after each call of it, good or bad, by what was known before it
  pub put_leaves : (stage : PutStage) → HasStage w stage side area → (good : Bool) (reads c : List ℕ)
      → IsDiskImage (disk_after (put_call stage side area) good reads p) c → Laid own old c
  put_leaves CloseWrite has good reads c image = gate_leaves has 0 good reads c image
  put_leaves CloseSync has good reads c image =
      laid c (sync_leaves good reads p c steady.reads image)
  put_leaves HeadWrite has good reads c image =
      area_leaves has (side_start side)
      (head_bytes area.place area.count (length area.bytes)) good reads
      (omega arith) (omega (arith, length-head area.place area.count (length area.bytes))) c image
  put_leaves BytesWrite has good reads c image =
      area_leaves has.0 (side_start side + 16) area.bytes good reads
      (omega arith) (omega (arith, (fits area putting.room).2)) c image
  put_leaves AreaSync has good reads c image =
      laid c (sync_leaves good reads p c steady.reads image)
  put_leaves OpenWrite has good reads c image = gate_leaves has.0 1 good reads c image
  put_leaves OpenSync has good reads c image =
      laid c (sync_leaves good reads p c steady.reads image)

  -- so what is known stays true
  pub put_sound : (stage : PutStage) → HasStage w stage side area → (good : Bool) (reads : List ℕ)
      → (let q = disk_after (put_call stage side area) good reads p in IsDiskImage q q.seen
      → Sound q w.made w.slots)
  put_sound stage has good reads read =
      sound_laid (disk_after (put_call stage side area) good reads p) w.made w.slots side own old
      beside beside_area putting.made read refl refl (put_leaves stage has good reads)

  -- and more is known once all is synced
  seen_stands : (slot : Slot) (held : Option Stored) → StandsOnSide side slot held p.seen
      → Laid slot held p.seen
  seen_stands slot held stands =
      let there = laid p.seen steady.reads in
      record { header = there.header; here = stands; there = there.there }

  sound_known : (slot : Slot) (held : Option Stored) → StandsOnSide side slot held p.seen
      → Sound (settled p.seen) w.made (with_slot w.slots side slot)
  sound_known slot held stands =
      sound_laid (settled p.seen) w.made (with_slot w.slots side slot) side slot held beside
      beside_area putting.made (settled_image p.seen) (slot_set side w.slots slot)
      (slot_kept side w.slots slot)
      (λ c image. subst (λ (l : List ℕ). Laid slot held l) (sym (only_settled p.seen c image))
      (seen_stands slot held stands))

  -- after a good write its put goes on, with what stands there then
  written : (stage next : PutStage) → HasStage w stage side area → (reads : List ℕ)
      → (let q = disk_after (put_call stage side area) true reads p in
      HasStage (comes_to (record w { disk = q }) next side area) next side area
      → IsSteady (comes_to (record w { disk = q }) next side area))
  written stage next has reads fact =
      let read = stays_after (put_call stage side area) reads p steady.reads in record {
        reads = read;
        sound = put_sound stage has true reads read;
        step = (
          record {
            room = putting.room;
            made = putting.made;
            loose = putting.loose;
            spares = putting.spares;
          },
          fact,
        );
      }

  -- and after a good sync this is known of its gate
  synced : (slot : Slot) (held : Option Stored) (next : PutStage) → loosened slot ≡ slot
      → StandsOnSide side slot held p.seen
      → (let v = comes_to (knows (record w { disk = settled p.seen }) side slot) next side area in
      HasStage v next side area → IsSteady v)
  synced slot held next loose stands fact = record {
    reads = settled_image p.seen;
    sound = sound_known slot held stands;
    step = (
      record {
        room = putting.room;
        made = putting.made;
        loose = rw (slot_set side w.slots slot) loose;
        spares = rw (slot_kept side w.slots slot) putting.spares;
      },
      fact,
    );
  }

  -- a good call
  pub put_goes_on : (stage : PutStage) → HasStage w stage side area → (reads : List ℕ)
      → (let q = disk_after (put_call stage side area) true reads p in
      IsSteady (put_onward (record w { disk = q }) stage side area))
  put_goes_on CloseWrite has reads =
      written CloseWrite CloseSync has reads
      (ap (λ (l : List ℕ). gate_byte side l)
      (seen_write (gate_of side) (0 ∷ []) p (gate_first side))
      ∙ (laid_closed side old beside beside_area p.seen
      (laid_as Unsure has p.seen steady.reads)).here)
  put_goes_on CloseSync has reads =
      synced Closed old HeadWrite refl has (slot_set side w.slots Closed)
  put_goes_on HeadWrite has reads =
      written HeadWrite BytesWrite has reads (
        has,
        (
          p.seen,
          seen_write (side_start side) (head_bytes area.place area.count (length area.bytes)) p
              (omega (
                arith,
                start_first side,
                length-head area.place area.count (length area.bytes),
              )),
        ),
      )
  put_goes_on BytesWrite has reads =
      let room = fits area putting.room in
      written BytesWrite AreaSync has reads (
        has.0,
        ap (λ (l : List ℕ). whole_area side l)
            (seen_write (side_start side + 16) area.bytes p
            (omega (arith, start_first side, room.2))
            ∙ ap (λ (l : List ℕ). file_written l (side_start side + 16) area.bytes) has.1.1)
            ∙ whole_there side has.1.0 area.place area.count area.bytes room.0 room.1 room.2,
      )
  put_goes_on AreaSync has reads =
      synced Unsure (Some area) OpenWrite refl has.1 (slot_set side w.slots Unsure, has.1)
  put_goes_on OpenWrite has reads =
      written OpenWrite OpenSync has reads (
        has.0,
        subst (λ (l : List ℕ). StandsOnSide side (Open area.place area.count) (Some area) l)
            (sym (seen_write (gate_of side) (1 ∷ []) p (gate_first side)))
            (laid_opened side beside beside_area area p.seen
            (seen_stands Unsure (Some area) has.1)).here,
      )
  put_goes_on OpenSync has reads = record {
    reads = settled_image p.seen;
    sound = sound_known (Open area.place area.count) (Some area) has.1;
    step = tt;
  }

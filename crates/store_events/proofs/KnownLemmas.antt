-- An area that is known to be open stays so until a newer one is.
use Rattle.std.proofs.Common.{◌≡◌, ◌⊎◌, inl, inr, ◌∙◌, ℕ, ◌≤◌, Bool, true, false, List, refl}
use Rattle.std.proofs.Common.{ap, subst, sym, arith}
use Rattle.std.specs.Prelude.{◌&&◌, ◌==◌, if◌then◌else◌, Some, None}
use Rattle.std.proofs.lemmas.Bool.{and_parts}
use Rattle.std.proofs.lemmas.Bool.Decides.{nat_tests}
use Rattle.std.proofs.lemmas.Option.{cond_some}
use Rattle.disk_model.specs.DiskState.{IsDiskImage}
use Rattle.snap_store.specs.declared.side.Side.{Side}
use Rattle.snap_store.specs.declared.side.Side.TheVariants.{A, B}
use Rattle.snap_store.specs.declared.slot.Slot.{Slot}
use Rattle.snap_store.specs.declared.slot.Slot.TheVariants.{Closed, Open, Unsure}
use Rattle.snap_store.specs.declared.slot.Slots.{Slots}
use Rattle.snap_store.specs.File.{Stored, area_on_side, count_at, gate_byte, has_header, is_whole}
use Rattle.snap_store.specs.File.{open_area, area_place}
use Rattle.snap_store.specs.Images.{loosened}
use Rattle.snap_store.specs.Slots.{is_before, opposite_side, slot_in}
use Rattle.snap_store.specs.Slots.{slot_of, taken_side, with_slot}
use Rattle.snap_store.specs.Store.{IsImageOf}
use Rattle.session_saves.specs.Saves.{HasSince}
use Rattle.snap_store.proofs.PutLemmas.{slot_kept}
use Rattle.snap_store.proofs.StoreLemmas.{sound_images}
use Rattle.store_events.specs.declared.disk.DiskCall.{DiskCall}
use Rattle.store_events.specs.declared.event.FileEvent.{FileEvent}
use Rattle.store_events.specs.declared.event.FileEvent.TheVariants.{Keep, Call, Stop, Recover}
use Rattle.store_events.specs.declared.state.PutStage.{PutStage}
use Rattle.store_events.specs.declared.state.PutStage.TheVariants.{CloseWrite, CloseSync, HeadWrite}
use Rattle.store_events.specs.declared.state.PutStage.TheVariants.{BytesWrite, AreaSync, OpenWrite}
use Rattle.store_events.specs.declared.state.PutStage.TheVariants.{OpenSync}
use Rattle.store_events.specs.declared.state.FileStep.{FileStep}
use Rattle.store_events.specs.declared.state.FileStep.TheVariants.{Idle, Put, Opening}
use Rattle.store_events.specs.declared.state.StoreState.{StoreState}
use Rattle.store_events.specs.Disk.{disk_after}
use Rattle.store_events.specs.Events.{file_after, store_called, store_comes_up, next_store_call}
use Rattle.store_events.specs.Events.{put_call, put_onward}
use Rattle.store_events.specs.Steady.{HasStep, IsPutting, IsSteady, seen_of, state_words, store_of}
use Rattle.store_events.specs.Areas.{EachArea}
use Rattle.store_events.proofs.AreaLemmas.{same_or_other, shown_side}
use Rattle.store_events.proofs.EventLemmas.{bad_call, bad_reading, good_call, good_reading, keeps}
use Rattle.store_events.proofs.EventLemmas.{reopens, stops}

-- ---- the area beside the one that is taken is no older

open_same : (p n place count : ℕ) → Open p n ≡ Open place count → (p ≡ place) × (n ≡ count)
open_same p n place count is = (cc, cc)

-- it isn't before the one that is taken
abbrev NoOlder : Slots → Side → ℕ → ℕ → Type 0
NoOlder slots side place count =
    (place' : ℕ) × (count' : ℕ) × (slot_of slots side ≡ Open place' count')
    × (is_before place' count' place count ≡ false)

turned_before : (p n p' n' : ℕ) → is_before p n p' n' ≡ true → is_before p' n' p n ≡ false
turned_before p n p' n' is = grind (arith, nat_tests)

abbrev TakenOf : Slots → Side → Type 0
TakenOf slots taken =
    (place count : ℕ) → slot_of slots taken ≡ Open place count
    → NoOlder slots (opposite_side taken) place count

taken_of : (a b : Slot) →
    let slots : Slots = record { a = a; b = b } in TakenOf slots (taken_side slots)
taken_of (Open p n) (Open p' n') =
    of (is_before p n p' n') refl
  where
    of : (t : Bool) → is_before p n p' n' ≡ t → TakenOf (record { a = Open p n; b = Open p' n' })
        (opposite_side (if t then B else A))
    of true is place count at =
        let same = open_same p n place count at in (
          p',
          n',
          refl,
          rw (sym same.0, sym same.1) (turned_before p n p' n' is),
        )
    of false is place count at =
        let same = open_same p' n' place count at in (
          p,
          n,
          refl,
          rw (sym same.0, sym same.1) is,
        )
taken_of (Open p n) Closed = λ place count at. absurd cc
taken_of (Open p n) Unsure = λ place count at. absurd cc
taken_of Closed (Open p' n') = λ place count at. absurd cc
taken_of Unsure (Open p' n') = λ place count at. absurd cc
taken_of Closed Closed = λ place count at. absurd cc
taken_of Closed Unsure = λ place count at. absurd cc
taken_of Unsure Closed = λ place count at. absurd cc
taken_of Unsure Unsure = λ place count at. absurd cc

no_older : (slots : Slots) → TakenOf slots (taken_side slots)
no_older slots = taken_of slots.a slots.b

same_row : (p n place count : ℕ) → is_before p n place count ≡ false → p ≤ place
    → (p ≡ place) × (count ≤ n)
same_row p n place count is le =
    let same : p ≡ place = grind (arith, nat_tests) in
    (same, grind (arith, nat_tests))

-- ---- what an opening finds

open_parts : (header one whole : Bool) (x y : Stored)
    → (if header && one && whole then Some x else None) ≡ Some y
    → (header ≡ true) × (one ≡ true) × (whole ≡ true) × (x ≡ y)
open_parts header one whole x y is =
    let found = cond_some (header && one && whole) x y is in
    let all = and_parts (header && one) whole found.0 in
    let gates = and_parts header one all.0 in
    (gates.0, gates.1, all.1, found.1)

-- an area that is open in a file is known to be, once the file was read
pub slot_shown : (side : Side) (file : List ℕ) (area : Stored) → open_area side file ≡ Some area
    → slot_in side file ≡ Open area.place area.count
unfolding area_on_side
slot_shown side file area is =
    let parts = open_parts (has_header file) (gate_byte side file == 1) (is_whole side file)
    (area_on_side side file) area is in
    let header = parts.0 in
    let one = parts.1 in
    let whole = parts.2 in
    let zero : (gate_byte side file == 0) ≡ false = grind (arith, nat_tests) in
    let at : Open (area_place side file) (count_at side file) ≡ Open area.place area.count =
    ap (λ (x : Stored). Open x.place x.count) parts.3 in
    rw (header, zero, one, whole) at

-- ---- what a put does to what is known

-- what is known of one side is known otherwise, but the open one is the other
beside_has : (place least : ℕ) (slots : Slots) (side : Side) (slot : Slot) (count : ℕ)
    → slot_of slots (opposite_side side) ≡ Open place count → least ≤ count
    → HasSince place least (with_slot slots side slot)
beside_has place least slots side slot count at le =
    record {
      side = opposite_side side;
      count = count;
      open_there = slot_kept side slots slot ∙ at;
      since = le;
    }

-- what is known of the gates, in each image
pub shown : (w : StoreState) → IsSteady w → (image : List ℕ) → IsDiskImage w.disk image
    → IsImageOf seen_of (store_of w) image
shown w steady image is =
    sound_images state_words (store_of w) steady.sound refl image is

-- what is known to be open is open in each image
pub has_open : (place least : ℕ) (w : StoreState) → IsSteady w → HasSince place least w.slots
    → (image : List ℕ) → IsDiskImage w.disk image
    → (side : Side) × (area : Stored) × (open_area side image ≡ Some area)
    × (area.place ≡ place) × (least ≤ area.count)
has_open place least w steady has image is =
    let there = (shown w steady image is).synced has.side place has.count has.open_there in
    (has.side, there.0, there.2, there.3, omega (arith, there.4, has.since))

module _ (place least : ℕ) (w : StoreState) (steady : IsSteady w)
    (rows : EachArea (λ area. area.place ≤ place) w) where
  no_later : (side : Side) (p n : ℕ) → slot_of w.slots side ≡ Open p n → p ≤ place
  no_later side p n at =
      let there = (shown w steady w.disk.seen steady.reads).synced side p n at in
      subst (λ (m : ℕ). m ≤ place) there.3 (rows.held side there.0 there.1)

  begins_has : HasSince place least w.slots → (slot : Slot)
      → HasSince place least (with_slot w.slots (taken_side w.slots) slot)
  begins_has has slot = of (same_or_other (taken_side w.slots) has.side)
    where
      of : (has.side ≡ taken_side w.slots) ⊎ (has.side ≡ opposite_side (taken_side w.slots))
          → HasSince place least (with_slot w.slots (taken_side w.slots) slot)
      of (inl taken) =
          let newer = no_older w.slots place has.count
          (subst (λ (s : Side). slot_of w.slots s ≡ Open place has.count) taken has.open_there) in
          let same = same_row newer.0 newer.1 place has.count newer.3
          (no_later (opposite_side (taken_side w.slots)) newer.0 newer.1 newer.2) in
          beside_has place least w.slots (taken_side w.slots) slot newer.1
          (subst (λ (p : ℕ). slot_of w.slots (opposite_side (taken_side w.slots)) ≡ Open p newer.1)
          same.0 newer.2)
          (omega (arith, same.1, has.since))
      of (inr beside) =
          beside_has place least w.slots (taken_side w.slots) slot has.count
          (subst (λ (s : Side). slot_of w.slots s ≡ Open place has.count) beside has.open_there)
          has.since

  loose_shut : (p n : ℕ) → loosened (Open p n) ≡ Open p n → ⊥
  loose_shut p n is = cc

  -- of the gate of the area that is put nothing is known but that it is closed
  known_has : (side : Side) (area : Stored) → IsPutting w side area → HasSince place least w.slots
      → (slot : Slot) → HasSince place least (with_slot w.slots side slot)
  known_has side area putting has slot = of (same_or_other side has.side)
    where
      of : (has.side ≡ side) ⊎ (has.side ≡ opposite_side side)
          → HasSince place least (with_slot w.slots side slot)
      of (inl own) =
          absurd (loose_shut place has.count
          (subst (λ (s : Slot). loosened s ≡ s)
          (subst (λ (s : Side). slot_of w.slots s ≡ Open place has.count) own has.open_there)
          putting.loose))
      of (inr beside) =
          beside_has place least w.slots side slot has.count
          (subst (λ (s : Side). slot_of w.slots s ≡ Open place has.count) beside has.open_there)
          has.since

  put_has : (side : Side) (area : Stored) → IsPutting w side area → HasSince place least w.slots
      → (stage : PutStage) (call : DiskCall) (reads : List ℕ)
      → HasSince place least
      (put_onward (record w { disk = disk_after call true reads w.disk }) stage side area).slots
  put_has side area putting has CloseWrite call reads = has
  put_has side area putting has CloseSync call reads = known_has side area putting has Closed
  put_has side area putting has HeadWrite call reads = has
  put_has side area putting has BytesWrite call reads = has
  put_has side area putting has AreaSync call reads = known_has side area putting has Unsure
  put_has side area putting has OpenWrite call reads = has
  put_has side area putting has OpenSync call reads =
      known_has side area putting has (Open area.place area.count)

  -- ---- what an opening finds

  up_has : HasSince place least w.slots → HasSince place least (store_comes_up w).slots
  up_has has =
      let there = (shown w steady w.disk.seen steady.reads).synced has.side place has.count
      has.open_there in
      let slot = slot_shown has.side w.disk.seen there.0 there.2 in record {
        side = has.side;
        count = has.count;
        open_there = shown_side has.side w.disk.seen ∙ slot
            ∙ ap (λ (p : ℕ). Open p there.0.count) there.3
            ∙ ap (λ (n : ℕ). Open place n) there.4;
        since = has.since;
      }

  -- ---- every event

  abbrev Known : StoreState → Type 0
  Known v = HasSince place least v.slots

  called_has : Known w → (good : Bool) (reads : List ℕ) (step : FileStep) → HasStep w step
      → Known (store_called w good reads step (next_store_call step))
  called_has has good reads Idle held = has
  called_has has true reads (Put stage side area) held =
      good_call Known w has (Put stage side area) (put_call stage side area) reads
      (put_has side area held.0 has stage (put_call stage side area) reads)
  called_has has false reads (Put stage side area) held =
      bad_call Known w has (Put stage side area) (put_call stage side area) reads (λ _. has)
  called_has has true reads (Opening reading) held =
      good_reading Known w has reading held reads has (λ _ _. has) (λ _. up_has has)
  called_has has false reads (Opening reading) held =
      bad_reading Known w has reading reads steady.reads (λ _ _ _. has)

  pub after_has : (event : FileEvent) → Known w → Known (file_after w event)
  after_has (Keep place count bytes) has =
      keeps Known w has (record { place = place; count = count; bytes = bytes }) w.step
      (λ _. begins_has has (loosened (slot_of w.slots (taken_side w.slots))))
  after_has (Call good reads) has = called_has has good reads w.step steady.step
  after_has (Stop image) has = stops Known w has image (λ _. has)
  after_has Recover has = reopens Known w has w.up has

-- What a put leaves of a store.
use Rattle.std.proofs.Common.{◌≡◌, ◌⊎◌, ◌≤◌, ◌+◌, inl, inr, ℕ, Bool, true, List, refl}
use Rattle.std.proofs.Common.{sym, ◌∙◌, ap, subst}
use Rattle.std.specs.Prelude.{Option, Some, None, IsTrue, Result, Ok}
use Rattle.disk_model.specs.Disk.{Elapses, Follows, Torn}
use Rattle.disk_model.specs.Work.{EachImage, LeavesOnly, Triple}
use Rattle.disk_model.specs.declared.disk.Disk.{Ghosts as DiskWords}
use Rattle.disk_model.proofs.Moments.{weaker}
use Rattle.disk_model.proofs.WorkLaws.{called}
use Rattle.snap_store.specs.declared.side.Side.{Side}
use Rattle.snap_store.specs.declared.side.Side.TheVariants.{A, B}
use Rattle.snap_store.specs.declared.slot.Slot.{Slot}
use Rattle.snap_store.specs.declared.slot.Slot.TheVariants.{Closed, Open, Unsure}
use Rattle.snap_store.specs.declared.slot.Slots.{Slots}
use Rattle.snap_store.specs.File.{Stored, side_start, has_header}
use Rattle.snap_store.specs.File.{whole_area, open_area, openable_area}
use Rattle.snap_store.specs.Slots.{opposite_side, slot_of, with_slot, taken_side}
use Rattle.snap_store.specs.Images.{StandsOnSide, IsLaid, Spares, loosened, DuringPut, IsLeft}
use Rattle.snap_store.specs.Store.{Snapshots, area_held, store_area, IsPutImage, IsSoundStore}
use Rattle.snap_store.proofs.LaidLemmas.{laid_area_torn}
use Rattle.snap_store.proofs.StoreLemmas.{openable_is, shut_closed, stands_openable}
use Rattle.snap_store.proofs.SlotLemmas.{newest_is_beside}
use Rattle.snap_store.proofs.StoreLemmas.{open_at, laid_turned, laid_seen, held_is, is_opened}

-- what is known of each side, once something is known of one
pub slot_set :
    (side : Side) (slots : Slots) (slot : Slot) → slot_of (with_slot slots side slot) side ≡ slot
slot_set A slots slot = refl
slot_set B slots slot = refl

pub slot_kept :
    (side : Side) (slots : Slots) (slot : Slot)
    → slot_of (with_slot slots side slot) (opposite_side side) ≡ slot_of slots (opposite_side side)
slot_kept A slots slot = refl
slot_kept B slots slot = refl

laid_back :
    (side : Side) (slots : Slots) (slot : Slot) (file c : List ℕ)
    → IsLaid side slot (whole_area side file)
    (slot_of slots (opposite_side side)) (whole_area (opposite_side side) file) c
    → IsLaid A (with_slot slots side slot).a (whole_area A file)
    (with_slot slots side slot).b (whole_area B file) c
laid_back A slots slot file c laid = laid
laid_back B slots slot file c laid =
    record { header = laid.header; here = laid.there; there = laid.here }

-- behind a gate that is being closed stands the old area
closing_openable :
    (side : Side) (slot : Slot) (file c : List ℕ) (area : Stored)
    → StandsOnSide side (loosened slot) (whole_area side file) c → openable_area side c ≡ Some area
    → area_held side slot file ≡ Some area
closing_openable side Closed file c area stands is = absurd (shut_closed side c area stands is)
closing_openable side slot file c area stands is = sym stands ∙ (openable_is side c area is).2

-- what is held after a step
held_stands :
    (side : Side) (slot : Slot) (area : Option Stored) (file : List ℕ)
    → slot ≡ Unsure → StandsOnSide side slot area file → area_held side slot file ≡ area
held_stands side Closed area file is stands = absurd (cc)
held_stands side Unsure area file is stands = stands
held_stands side (Open place count) area file is stands = stands.1

held_loosened :
    (side : Side) (slot : Slot) (file file' : List ℕ)
    → StandsOnSide side (loosened slot) (whole_area side file) file'
    → area_held side (loosened slot) file' ≡ area_held side slot file
held_loosened side Closed file file' stands = refl
held_loosened side slot file file' stands = stands

-- a first write in an area behind its closed gate
pub area_begun :
    {D : Type 0} {disks : DiskWords D} {old new : D} (side : Side)
    {area beside_area : Option Stored} {beside : Slot} {at n : ℕ}
    → Spares side beside → side_start side ≤ at → at + n ≤ side_start side + 16 + 8388608
    → ((c : List ℕ) → disks.left_since old (disks.moment old) c → disks.may_leave old c)
    → Elapses (disks.moment old) (disks.moment new) (disks.left_since old) (disks.left_since new)
    (disks.may_leave new)
    → (IsTrue (disks.tells old) → Follows (Torn at n) (disks.may_leave old) (disks.may_leave new))
    → Triple {T = Unit {0}} {E = Unit {0}} disks (Ok tt) old new
    (IsLaid side Closed area beside beside_area) (IsLaid side Closed area beside beside_area)
    (IsLaid side Closed area beside beside_area)
area_begun side {area} {beside_area} {beside} {at} {n} spares from to only time crash =
    called only time (λ f laid. laid) (λ f laid. laid) (λ told each f now.
    let was = crash told f now in
    laid_area_torn side area beside beside_area f was.0 at n spares from to was.2
    (each was.0 was.1))

-- a put on a side is one on a side that is the same
pub put_on_side :
    {D T E : Type 0} {disks : DiskWords D} {result : Result T E} {old new : D}
    {side side' : Side} {slot slot' now : Slot} {area beside_area : Option Stored}
    {beside : Slot} {put : Stored} → side ≡ side' → slot ≡ slot' → Triple disks result old new
    (IsLaid side slot area beside beside_area) (DuringPut side slot area put beside beside_area)
    (IsLaid side now (Some put) beside beside_area)
    → Triple disks result old new
    (IsLaid side' slot' area beside beside_area) (DuringPut side' slot' area put beside beside_area)
    (IsLaid side' now (Some put) beside beside_area)
put_on_side side_is slot_is triple = rw (side_is, slot_is) at triple

module _ {D : Type 0} {disks : DiskWords D}
    (stays : (d : D) → disks.may_leave d (disks.seen d)) {store : Snapshots D}
    (sound : IsSoundStore disks store) (made : store.made ≡ true) (put : Stored) where
  abbrev side : Side
  side = taken_side store.slots

  abbrev slot : Slot
  slot = slot_of store.slots side

  abbrev area : Option Stored
  area = whole_area side (disks.seen store.disk)

  abbrev beside : Slot
  beside = slot_of store.slots (opposite_side side)

  abbrev beside_area : Option Stored
  beside_area = whole_area (opposite_side side) (disks.seen store.disk)

  -- before a put
  pub laid_before : EachImage disks store.disk (IsLaid side slot area beside beside_area)
  laid_before told c now =
      laid_turned side store.slots (disks.seen store.disk) c (sound.laid made told c now)

  -- while it goes on
  put_image_of :
      (c : List ℕ) → has_header c ≡ true
      → StandsOnSide (opposite_side side) beside beside_area c
      → ((x : Stored) → openable_area side c ≡ Some x
      → (store_area disks.seen store side ≡ Some x) ⊎ (x ≡ put)) → IsPutImage disks.seen store put c
  put_image_of c header stands own = record {
    header = header;
    newest = λ side' is. open_at disks.seen store c side' header is
        (rw (newest_is_beside store.slots side' is) at stands);
    taken = own;
    beside = λ x is.
        stands_openable (opposite_side side) beside (disks.seen store.disk) c x stands is;
  }

  pub put_image :
      (c : List ℕ) → DuringPut side slot area put beside beside_area c
      → IsPutImage disks.seen store put c
  put_image c (inl laid) = put_image_of c laid.header laid.there (λ x is.
      inl (closing_openable side slot (disks.seen store.disk) c x laid.here is))
  put_image c (inr (inl laid)) = put_image_of c laid.header laid.there (λ x is.
      absurd (shut_closed side c x laid.here is))
  put_image c (inr (inr laid)) = put_image_of c laid.header laid.there (λ x is.
      inr (cc ((openable_is side c x is).2, laid.here)))

  pub crash_of :
      {T E : Type 0} {result : Result T E} {new : D} {after : List ℕ → Type 0}
      {view : Snapshots D} → store ≡ view → Triple disks result store.disk new
      (IsLaid side slot area beside beside_area)
      (DuringPut side slot area put beside beside_area) after
      → view.made ≡ true → IsTrue (disks.tells view.disk)
      → LeavesOnly disks view.disk new (IsPutImage disks.seen view put)
  crash_of {new = new} view_is triple =
      rw (← view_is) (λ is told.
      weaker disks store.disk new (DuringPut side slot area put beside beside_area)
      (IsPutImage disks.seen store put) (triple.meanwhile told (laid_before told)) put_image)

  module _ {new : D} (telling : disks.tells new ≡ disks.tells store.disk) {slots : Slots}
      {now : Slot} {left : Option Stored}
      (set : slots ≡ with_slot store.slots side now)
      (laid : EachImage disks new (IsLaid side now left beside beside_area)) where
    abbrev after : Snapshots D
    after = record { disk = new; made = store.made; slots = slots }

    -- after it
    pub sound_after : IsSoundStore disks after
    sound_after = record {
      header = λ told c at. (laid told c at).header ∙ sym made;
      laid = λ is_made told c at.
          rw set (laid_back side store.slots now (disks.seen new) c
          (laid_seen side now left beside beside_area (disks.seen new) c
          (laid told (disks.seen new) (stays new)) (laid told c at)));
      unmade = λ unmade. absurd (cc (made, unmade));
    }

    told_after : IsTrue (disks.tells store.disk) → IsTrue (disks.tells new)
    told_after told = subst (λ (b : Bool). IsTrue b) (sym telling) told

    shows : IsTrue (disks.tells store.disk)
        → IsLaid side now left beside beside_area (disks.seen new)
    shows told = laid (told_after told) (disks.seen new) (stays new)

    kept_beside :
        IsTrue (disks.tells store.disk) → store_area disks.seen after (opposite_side side)
        ≡ store_area disks.seen store (opposite_side side)
    kept_beside told =
        ap
        (λ (s : Slots). area_held (opposite_side side) (slot_of s (opposite_side side))
        (disks.seen new)) set
        ∙ ap (λ (s : Slot). area_held (opposite_side side) s (disks.seen new))
        (slot_kept side store.slots now)
        ∙ held_is (opposite_side side) beside beside_area (disks.seen new) (disks.seen store.disk)
        (shows told).there
        (laid_before told (disks.seen store.disk) (stays store.disk)).there

    here_after : store_area disks.seen after side ≡ area_held side now (disks.seen new)
    here_after =
        ap (λ (s : Slots). area_held side (slot_of s side) (disks.seen new)) set
        ∙ ap (λ (s : Slot). area_held side s (disks.seen new)) (slot_set side store.slots now)

    put_there :
        {place count : ℕ} → now ≡ Open place count → left ≡ Some put
        → IsTrue (disks.tells store.disk)
        → store_area disks.seen after side ≡ Some put
    put_there is is_left told =
        here_after
        ∙ ap (λ (s : Slot). area_held side s (disks.seen new)) is ∙ (rw is at (shows told).here).1
        ∙ is_left

    left_there :
        IsLeft slot area put now left → IsTrue (disks.tells store.disk)
        → (store_area disks.seen after side ≡ store_area disks.seen store side)
        ⊎ (store_area disks.seen after side ≡ None) ⊎ (store_area disks.seen after side ≡ Some put)
    left_there (inl is) told =
        inl (here_after ∙ ap (λ (s : Slot). area_held side s (disks.seen new)) is.0
        ∙ held_loosened side slot (disks.seen store.disk) (disks.seen new)
        (rw (is.0, is.1) at (shows told).here))
    left_there (inr (inl is)) told =
        inr (inl (here_after ∙ ap (λ (s : Slot). area_held side s (disks.seen new)) is.0))
    left_there (inr (inr is)) told =
        inr (inr (here_after ∙ held_stands side now left (disks.seen new) is.0 (shows told).here
        ∙ is.1))

    -- the same of the store as it is seen
    module _ {view : Snapshots D} (view_is : store ≡ view) where
      pub beside_after :
          IsTrue (disks.tells view.disk)
          → store_area disks.seen after (opposite_side (taken_side view.slots))
          ≡ store_area disks.seen view (opposite_side (taken_side view.slots))
      beside_after = rw (← view_is) kept_beside

      pub put_after :
          {place count : ℕ} → now ≡ Open place count → left ≡ Some put
          → view.made ≡ true → IsTrue (disks.tells view.disk)
          → store_area disks.seen after (taken_side view.slots) ≡ Some put
      put_after is is_left = rw (← view_is) (λ made_then. put_there is is_left)

      pub left_after :
          IsLeft slot area put now left → view.made ≡ true → IsTrue (disks.tells view.disk)
          → (store_area disks.seen after (taken_side view.slots)
          ≡ store_area disks.seen view (taken_side view.slots))
          ⊎ (store_area disks.seen after (taken_side view.slots) ≡ None)
          ⊎ (store_area disks.seen after (taken_side view.slots) ≡ Some put)
      left_after is = rw (← view_is) (λ made_then. left_there is)

      pub opened_after :
          {place count : ℕ} → now ≡ Open place count → left ≡ Some put → view.made ≡ true
          → EachImage disks new (λ (c : List ℕ). open_area (taken_side view.slots) c ≡ Some put)
      opened_after is is_left =
          rw (← view_is) (λ made_then told c at. let there = laid told c at in
          let here = rw is at there.here in
          is_opened side c put there.header here.0 (here.1 ∙ is_left))

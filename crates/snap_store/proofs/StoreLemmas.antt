-- What the images of a store show.
use Rattle.std.proofs.Common.{◌≡◌, inl, inr, ℕ, Bool, true, false}
use Rattle.std.proofs.Common.{List, refl, sym, ◌∙◌, ap, subst, arith}
use Rattle.std.specs.Prelude.{◌&&◌, ◌==◌, not, if◌then◌else◌, Option, Some, None, IsTrue}
use Rattle.std.proofs.lemmas.Bool.{cases_Bool}
use Rattle.std.proofs.lemmas.Bool.Decides.{nat_tests}
use Rattle.disk_model.specs.Disk.{NoneNew}
use Rattle.disk_model.specs.Work.{EachImage}
use Rattle.disk_model.specs.declared.disk.Disk.{Ghosts as DiskWords}
use Rattle.snap_store.specs.declared.side.Side.{Side}
use Rattle.snap_store.specs.declared.side.Side.TheVariants.{A, B}
use Rattle.snap_store.specs.declared.slot.Slot.{Slot}
use Rattle.snap_store.specs.declared.slot.Slot.TheVariants.{Closed, Open, Unsure}
use Rattle.snap_store.specs.declared.slot.Slots.{Slots}
use Rattle.snap_store.specs.File.{Stored, has_header, gate_byte, is_whole, area_on_side, whole_area}
use Rattle.snap_store.specs.File.{open_area, openable_area, area_place, count_at}
use Rattle.snap_store.specs.Slots.{opposite_side, slot_of, slot_in, newest_side}
use Rattle.snap_store.specs.Images.{IsAreaOf, StandsOnSide, IsLaid}
use Rattle.snap_store.specs.Store.{Snapshots, store_area, area_held, IsOpenIn, IsImageOf}
use Rattle.snap_store.specs.Store.{IsSoundStore}
use Rattle.snap_store.specs.File.{newest_area, area_given}
use Rattle.snap_store.specs.Store.{IsGiven}
use Rattle.std.specs.Prelude.{IfSome}
use Rattle.snap_store.proofs.Newest.{newest_found}
use Rattle.snap_store.proofs.FileLemmas.{none_some}
use Rattle.snap_store.proofs.SlotLemmas.{newest_open, no_side}

-- an area that is given passed each test
passed :
    (header gate whole : Bool) (x y : Stored)
    → (if header && gate && whole then Some x else None) ≡ Some y
    → (header ≡ true) × (gate ≡ true) × ((if whole then Some x else None) ≡ Some y)
passed true true whole x y is = (refl, refl, is)
passed true false whole x y is = absurd (none_some y is)
passed false gate whole x y is = absurd (none_some y is)

-- an area that may open is whole behind a gate that isn't 0
pub openable_is :
    (side : Side) (c : List ℕ) (area : Stored) → openable_area side c ≡ Some area
    → (has_header c ≡ true) × ((gate_byte side c == 0) ≡ false)
    × (whole_area side c ≡ Some area)
openable_is side c area is =
    let parts =
    passed (has_header c) (not (gate_byte side c == 0)) (is_whole side c) (area_on_side side c) area
    is in
    (parts.0, not_true (gate_byte side c == 0) parts.1, parts.2)
  where
    not_true : (b : Bool) → not b ≡ true → b ≡ false
    not_true true is = cc
    not_true false is = refl

-- an open one may open
pub open_openable :
    (side : Side) (c : List ℕ) (area : Stored) → open_area side c ≡ Some area
    → openable_area side c ≡ Some area
open_openable side c area is =
    let parts =
    passed (has_header c) (gate_byte side c == 1) (is_whole side c) (area_on_side side c) area is in
    rw (parts.0, not_zero (gate_byte side c) parts.1) parts.2
  where
    not_zero : (gate : ℕ) → (gate == 1) ≡ true → (gate == 0) ≡ false
    not_zero gate one = grind (arith, nat_tests)

-- behind a gate that is 1 a whole area is open
pub is_opened :
    (side : Side) (c : List ℕ) (area : Stored)
    → has_header c ≡ true → gate_byte side c ≡ 1 → whole_area side c ≡ Some area
    → open_area side c ≡ Some area
is_opened side c area header gate whole = rw (header, gate) whole

-- nothing may open behind a gate that is 0
pub shut_closed :
    (side : Side) (c : List ℕ) (area : Stored) → gate_byte side c ≡ 0
    → openable_area side c ≡ Some area → ⊥
shut_closed side c area gate is =
    cc ((openable_is side c area is).1, ap (λ (g : ℕ). g == 0) gate)

-- what may open is the area that stands there
pub stands_openable :
    (side : Side) (slot : Slot) (file c : List ℕ) (area : Stored)
    → StandsOnSide side slot (whole_area side file) c → openable_area side c ≡ Some area
    → area_held side slot file ≡ Some area
stands_openable side Closed file c area stands is = absurd (shut_closed side c area stands is)
stands_openable side Unsure file c area stands is =
    sym stands ∙ (openable_is side c area is).2
stands_openable side (Open place count) file c area stands is =
    sym stands.1 ∙ (openable_is side c area is).2

-- behind a gate that is open stands an open area
pub stands_open :
    (side : Side) (place count : ℕ) (file c : List ℕ)
    → has_header c ≡ true → StandsOnSide side (Open place count) (whole_area side file) c
    → (area : Stored) × (whole_area side file ≡ Some area) × (open_area side c ≡ Some area)
stands_open side place count file c header stands =
    there (whole_area side file) refl stands.2
  where
    there :
        (found : Option Stored) → whole_area side file ≡ found → IsAreaOf place count found
        → (area : Stored) × (whole_area side file ≡ Some area) × (open_area side c ≡ Some area)
    there None is of = absurd of
    there (Some area) is of =
        (area, is, is_opened side c area header stands.0 (stands.1 ∙ is))

-- one side of both
pub laid_side :
    (side : Side) (slots : Slots) (file c : List ℕ)
    → IsLaid A slots.a (whole_area A file) slots.b (whole_area B file) c
    → StandsOnSide side (slot_of slots side) (whole_area side file) c
laid_side A slots file c laid = laid.here
laid_side B slots file c laid = laid.there

-- both sides, seen from this one
pub laid_turned :
    (side : Side) (slots : Slots) (file c : List ℕ)
    → IsLaid A slots.a (whole_area A file) slots.b (whole_area B file) c
    → IsLaid side (slot_of slots side) (whole_area side file)
    (slot_of slots (opposite_side side)) (whole_area (opposite_side side) file) c
laid_turned A slots file c laid = laid
laid_turned B slots file c laid =
    record { header = laid.header; here = laid.there; there = laid.here }

module _ {D : Type 0} (seen : D → List ℕ) (store : Snapshots D) (c : List ℕ) where
  -- the newest, where it stands as it is seen
  pub open_at :
      (side : Side) → has_header c ≡ true → newest_side store.slots ≡ Some side
      → StandsOnSide side (slot_of store.slots side) (whole_area side (seen store.disk)) c
      → IsOpenIn seen store side c
  open_at side header is stands =
      let slot = newest_open store.slots side is in
      let file = seen store.disk in
      let found = stands_open side slot.0 slot.1 file c header (rw slot.2 at stands) in
      record {
        area = found.0;
        kept = ap (λ (s : Slot). area_held side s file) slot.2 ∙ found.1;
        there = found.2;
      }

  -- each that is known to be open
  synced_at :
      (side : Side) (place count : ℕ) → has_header c ≡ true
      → slot_of store.slots side ≡ Open place count
      → StandsOnSide side (slot_of store.slots side) (whole_area side (seen store.disk)) c
      → (area : Stored) × (store_area seen store side ≡ Some area)
      × (open_area side c ≡ Some area) × (area.place ≡ place) × (area.count ≡ count)
  synced_at side place count header is stands =
      let file = seen store.disk in
      let there = rw is at stands in
      let found = stands_open side place count file c header there in
      let head = rw found.1 at there.2 in
      (found.0, ap (λ (s : Slot). area_held side s file) is ∙ found.1, found.2, head.0, head.1)

  -- where both sides stand as they are seen
  module _ (made : store.made ≡ true) (header : has_header c ≡ true)
      (stands : (side : Side)
      → StandsOnSide side (slot_of store.slots side) (whole_area side (seen store.disk)) c) where
    pub image_of : IsImageOf seen store c
    image_of = record {
      header = header ∙ sym made;
      openable = λ side area is.
          stands_openable side (slot_of store.slots side) (seen store.disk) c area (stands side) is;
      opened = λ side area is.
          stands_openable side (slot_of store.slots side) (seen store.disk) c area (stands side)
          (open_openable side c area is);
      newest = λ side is. open_at side header is (stands side);
      synced = λ side place count is. synced_at side place count header is (stands side);
    }

  -- a file without its header
  pub image_unmade :
      store.made ≡ false → has_header c ≡ false
      → store.slots.a ≡ Closed → store.slots.b ≡ Closed
      → IsImageOf seen store c
  image_unmade made header a b = record {
    header = header ∙ sym made;
    openable = λ side area is. absurd (none_opens side area is);
    opened = λ side area is. absurd (none_opens side area (open_openable side c area is));
    newest = λ side is. absurd (no_side side (rw (a, b) at is));
    synced = λ side place count is. absurd (cc (slot_closed side));
  }
    where
      slot_closed : (side : Side) → slot_of store.slots side ≡ Closed
      slot_closed A = a
      slot_closed B = b

      none_opens : (side : Side) (area : Stored) → openable_area side c ≡ Some area → ⊥
      none_opens side area is = cc (openable_is side c area is).0

module _ {D : Type 0} (disks : DiskWords D) where
  -- each image shows the store
  pub sound_images :
      (store : Snapshots D) → IsSoundStore disks store
      → EachImage disks store.disk (IsImageOf disks.seen store)
  sound_images store sound told c now = elim (cases_Bool store.made) [
    | inl made ↦ image_of disks.seen store c made (sound.header told c now ∙ made)
        (λ side. laid_side side store.slots (disks.seen store.disk) c (sound.laid made told c now))
    | inr unmade ↦ image_unmade disks.seen store c unmade (sound.header told c now ∙ unmade)
        (sound.unmade unmade).0 (sound.unmade unmade).1
  ]

gate_is : (gate n : ℕ) → (gate == n) ≡ true → gate ≡ n
gate_is gate n is = grind (arith, nat_tests)

module _ (side : Side) (file : List ℕ) where
  whole_by :
      {whole : Bool} → is_whole side file ≡ whole
      → whole_area side file ≡ (if whole then Some (area_on_side side file) else None)
  whole_by is = ap (λ (b : Bool). if b then Some (area_on_side side file) else None) is

  -- what is known of a gate, by the tests of the file
  abbrev slot_by : Bool → Bool → Bool → Bool → Slot
  slot_by header zero one whole =
      if header && not zero
      then (if header && one && whole
      then Open (area_place side file) (count_at side file) else Unsure)
      else Closed

  stands_by :
      (zero one whole : Bool) → (gate_byte side file == 0) ≡ zero
      → (gate_byte side file == 1) ≡ one → is_whole side file ≡ whole
      → StandsOnSide side (slot_by true zero one whole) (whole_area side file) file
  unfolding area_on_side
  stands_by true one whole at_zero at_one is = gate_is (gate_byte side file) 0 at_zero
  stands_by false true true at_zero at_one is =
      (gate_is (gate_byte side file) 1 at_one, refl, rw (whole_by is) (refl, refl))
  stands_by false true false at_zero at_one is = refl
  stands_by false false whole at_zero at_one is = refl

  -- a file of which nothing is pending
  pub stands_in :
      has_header file ≡ true
      → StandsOnSide side (slot_in side file) (whole_area side file) file
  stands_in header =
      rw header (stands_by (gate_byte side file == 0) (gate_byte side file == 1)
      (is_whole side file) refl refl refl)

  -- what is held of it is what may open
  held_by :
      (header zero one whole : Bool) → is_whole side file ≡ whole
      → area_held side (slot_by header zero one whole) file
      ≡ (if header && not zero && whole then Some (area_on_side side file) else None)
  held_by false zero one whole is = refl
  held_by true true one whole is = refl
  held_by true false true true is = whole_by is
  held_by true false true false is = whole_by is
  held_by true false false whole is = whole_by is

  pub held_in : area_held side (slot_in side file) file ≡ openable_area side file
  held_in =
      held_by (has_header file) (gate_byte side file == 0) (gate_byte side file == 1)
      (is_whole side file) refl

-- what an opening has read of a file of which nothing is pending
pub record IsRead
    {D : Type 0} (disks : DiskWords D) (store : Snapshots D) (file : List ℕ) : Type 0 where
  pub made : store.made ≡ has_header file
  pub a : store.slots.a ≡ slot_in A file
  pub b : store.slots.b ≡ slot_in B file
  pub sees : disks.seen store.disk ≡ file
  pub only : (c : List ℕ) → disks.may_leave store.disk c → c ≡ file

module _ {D : Type 0} (disks : DiskWords D) where
  pub sound_read :
      (store : Snapshots D) (file : List ℕ)
      → (IsTrue (disks.tells store.disk) → IsRead disks store file)
      → (store.made ≡ false → (store.slots.a ≡ Closed) × (store.slots.b ≡ Closed))
      → IsSoundStore disks store
  sound_read store file read unmade = record {
    header = λ told c now.
        let is = read told in ap has_header (is.only c now) ∙ sym is.made;
    laid = λ made told c now.
        let is = read told in
        let header = sym is.made ∙ made in
        rw (is.a, is.b, is.sees, is.only c now) (record {
          header = header;
          here = stands_in A file header;
          there = stands_in B file header;
        });
    unmade = unmade;
  }

-- the same area, named by what another file shows
pub stands_seen :
    (side : Side) (slot : Slot) (area : Option Stored) (file c : List ℕ)
    → StandsOnSide side slot area file → StandsOnSide side slot area c
    → StandsOnSide side slot (whole_area side file) c
stands_seen side Closed area file c shows stands = stands
stands_seen side Unsure area file c shows stands = stands ∙ sym shows
stands_seen side (Open place count) area file c shows stands = (
  stands.0,
  stands.1 ∙ sym shows.1,
  subst (λ (o : Option Stored). IsAreaOf place count o) (sym shows.1) stands.2,
)

pub laid_seen :
    (side : Side) (own : Slot) (area : Option Stored) (beside : Slot)
    (beside_area : Option Stored) (file c : List ℕ)
    → IsLaid side own area beside beside_area file
    → IsLaid side own area beside beside_area c
    → IsLaid side own (whole_area side file) beside (whole_area (opposite_side side) file) c
laid_seen side own area beside beside_area file c shows laid = record {
  header = laid.header;
  here = stands_seen side own area file c shows.here laid.here;
  there = stands_seen (opposite_side side) beside beside_area file c shows.there laid.there;
}

-- what is held is what stands in each image
pub held_is :
    (side : Side) (slot : Slot) (area : Option Stored) (file file' : List ℕ)
    → StandsOnSide side slot area file → StandsOnSide side slot area file'
    → area_held side slot file ≡ area_held side slot file'
held_is side Closed area file file' stands stands' = refl
held_is side Unsure area file file' stands stands' = stands ∙ sym stands'
held_is side (Open place count) area file file' stands stands' = stands.1 ∙ sym stands'.1

module _ {D : Type 0} (disks : DiskWords D)
    (stays : (d : D) → disks.may_leave d (disks.seen d)) (store : Snapshots D)
    (sound : IsSoundStore disks store) (new : D)
    (telling : disks.tells new ≡ disks.tells store.disk)
    (none_new : IsTrue (disks.tells store.disk) → NoneNew (disks.may_leave store.disk)
    (disks.may_leave new)) where
  abbrev looked : Snapshots D
  looked = record { disk = new; made = store.made; slots = store.slots }

  -- nothing was written
  pub sound_looked : IsSoundStore disks looked
  sound_looked = record {
    header = λ told_new c now.
        let told = rw telling at told_new in sound.header told c (none_new told c now);
    laid = λ made told_new c now.
        let told = rw telling at told_new in
        laid_seen A store.slots.a (whole_area A (disks.seen store.disk)) store.slots.b
        (whole_area B (disks.seen store.disk)) (disks.seen new) c
        (sound.laid made told (disks.seen new) (none_new told (disks.seen new) (stays new)))
        (sound.laid made told c (none_new told c now));
    unmade = sound.unmade;
  }

-- what is known of both sides
pub slots_are :
    (slots : Slots) (file : List ℕ) → slots.a ≡ slot_in A file → slots.b ≡ slot_in B file
    → (side : Side) → slot_of slots side ≡ slot_in side file
slots_are slots file a b A = a
slots_are slots file a b B = b

-- what is given is one of the store's areas
module _ {D : Type 0} (seen : D → List ℕ) (store : Snapshots D)
    (shows : IsImageOf seen store (seen store.disk)) (place most : ℕ) where
  pub given_is :
      (found : Option Stored) → newest_area place most (seen store.disk) ≡ found
      → IfSome (area_given found) (IsGiven seen store place most)
  given_is None is = tt
  given_is (Some x) is =
      let at = newest_found place most (seen store.disk) x is in
      record {
        side = at.0;
        area = x;
        kept = shows.opened at.0 x at.1;
        there = at.1;
        row = at.2;
        fits = at.3;
        count = refl;
        bytes = refl;
      }

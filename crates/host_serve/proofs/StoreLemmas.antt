-- The stores of a host, in the order of its sessions.
use Rattle.std.proofs.Common.{◌≡◌, ℕ, zero, suc, ◌<◌, Bool, List, [], ◌∷◌, ◌++◌, length, refl, ap}
use Rattle.std.proofs.Common.{sym, ◌∙◌, subst, arith, append_assoc, Some, None, IsTrue, true}
use Rattle.std.proofs.Common.{false, cond, not, ◌&&◌, ◌==◌}
use Rattle.std.specs.Prelude.{slice_get}
use Rattle.std.proofs.lemmas.Bool.{and_parts}
use Rattle.std.proofs.lemmas.Bool.Decides.{nat_tests}
use Rattle.std.specs.List.{AllZip}
use Rattle.std.proofs.lemmas.List.{length-append}
use Rattle.disk_model.specs.declared.disk.Disk.{Ghosts as DiskWords}
use Rattle.gate_journal.specs.declared.fault.JournalFault.{JournalFault}
use Rattle.snap_store.specs.File.{Stored, area_on_side, gate_byte, has_header, is_open_area}
use Rattle.snap_store.specs.File.{is_whole, open_area}
use Rattle.snap_store.specs.Slots.{slot_in}
use Rattle.snap_store.specs.Store.{Snapshots}
use Rattle.snap_store.specs.declared.side.Side.{Side}
use Rattle.snap_store.specs.declared.slot.Slot.TheVariants.{Open}
use Rattle.snap_store.specs.declared.fault.DiskFault.{DiskFault as StoreFault}
use Rattle.story_run.specs.declared.story.Story.{Story}
use Rattle.session_core.specs.History.{game_of}
use Rattle.gate_journal.specs.Rows.{commands_of}
use Rattle.session_saves.specs.Agreement.{Agrees, opens_of}
use Rattle.session_saves.specs.Saves.{HasOpenSince, HasSince}
use Rattle.host_serve.specs.declared.host.Host.{Host}
use Rattle.host_serve.specs.Hosts.{IsSound, rows_at_opening, opened_stores}
use Rattle.host_serve.specs.declared.fault.OpenFault.{OpenFault}
use Rattle.host_serve.specs.declared.fault.OpenFault.TheVariants as faults
use Rattle.host_serve.specs.Opening.{AreAgreed, IsOfStores, IsStoreOf, OnJournal, OnStore}
use Rattle.host_serve.proofs.ListLemmas.{get_last, none_some, same_some}

module _ {A : Type 0} where
  -- the first ones are fewer than all
  pub fewer_before : (all done rest : List A) (x : A) → all ≡ done ++ x ∷ rest
      → length done < length all
  fewer_before all done rest x is =
      let a = ap (λ (l : List A). length l) is in
      let b = length-append done (x ∷ rest) in omega arith

  pub stands_behind : (all done rest : List A) (x : A) (s : ℕ) → all ≡ done ++ x ∷ rest
      → s ≡ length done → slice_get all s ≡ Some x
  stands_behind all done rest x s is at =
      (λ i. slice_get (is i) (at i)) ∙ get_last done rest x

  -- and before the end something stands
  pub get_below : (xs : List A) (s : ℕ) → s < length xs
      → (x : A) × (slice_get xs s ≡ Some x)
  get_below [] s low = absurd (omega arith)
  get_below (y ∷ xs) zero low = (y, refl)
  get_below (y ∷ xs) (suc s) low = get_below xs s (omega arith)

module _ {A B : Type 0} (R : A → B → Type 0) where
  pub zip_more : (xs : List A) (ys : List B) (x : A) (y : B) → AllZip R xs ys → R x y
      → AllZip R (xs ++ x ∷ []) (ys ++ y ∷ [])
  zip_more [] [] x y z r = (r, tt)
  zip_more [] (b ∷ ys) x y z r = absurd z
  zip_more (a ∷ xs) [] x y z r = absurd z
  zip_more (a ∷ xs) (b ∷ ys) x y z r = (z.0, zip_more xs ys x y z.1 r)

  -- the one at a place of the first list, by the other
  pub zip_at : (xs : List A) (ys : List B) (s : ℕ) (y : B) → AllZip R xs ys
      → slice_get ys s ≡ Some y → (x : A) × (slice_get xs s ≡ Some x) × R x y
  zip_at [] [] s y z is = absurd (none_some y is)
  zip_at [] (b ∷ ys) s y z is = absurd z
  zip_at (a ∷ xs) [] s y z is = absurd z
  zip_at (a ∷ xs) (b ∷ ys) zero y z is = (a, refl, subst (R a) (same_some b y is) z.0)
  zip_at (a ∷ xs) (b ∷ ys) (suc s) y z is = zip_at xs ys s y z.1 is

  pub zip_of : (xs : List A) (ys : List B) → length ys ≡ length xs
      → ((s : ℕ) (x : A) (y : B) → slice_get xs s ≡ Some x → slice_get ys s ≡ Some y → R x y)
      → AllZip R xs ys
  zip_of [] [] many each = tt
  zip_of [] (y ∷ ys) many each = absurd (omega arith)
  zip_of (x ∷ xs) [] many each = absurd (omega arith)
  zip_of (x ∷ xs) (y ∷ ys) many each = (
    each 0 x y refl refl,
    zip_of xs ys (omega arith) (λ s a b there there'. each (suc s) a b there there'),
  )

-- a fault of the stores
module _ {D : Type 0} (P : ℕ → StoreFault → D → Type 0) (W : Type 0) where
  pub on_store : (f : OpenFault D) → IsOfStores f P W → OnStore f P
  on_store (faults.Journal fault disk) of = absurd of
  on_store (faults.Snap session fault disk) of = of
  on_store faults.NoMemory of = tt

  -- is none of the journal
  pub off_journal : (Q : JournalFault → D → Type 0) (f : OpenFault D) → IsOfStores f P W
      → OnJournal f Q
  off_journal Q (faults.Journal fault disk) of = absurd of
  off_journal Q (faults.Snap session fault disk) of = tt
  off_journal Q faults.NoMemory of = tt

-- ---- an open area is known to be open in a store

stored_same : (x y : Stored) → Some x ≡ Some y → x ≡ y
stored_same x y e = cc

is_one : (header whole : Bool) (gate : ℕ) → (header && (gate == 1) && whole) ≡ true
    → (header && not (gate == 0)) ≡ true
is_one header whole gate e =
    let parts = and_parts header (gate == 1) (and_parts (header && (gate == 1)) whole e).0 in
    let one : gate ≡ 1 = grind (arith, nat_tests, parts.1) in
    let zero : (gate == 0) ≡ false = grind (arith, nat_tests, one) in
    rw (parts.0, zero) refl

open_slot : (side : Side) (file : List ℕ) (area : Stored) (opens : Bool)
    → is_open_area side file ≡ opens → open_area side file ≡ Some area
    → slot_in side file ≡ Open area.place area.count
unfolding area_on_side
open_slot side file area true is e =
    let here : area_on_side side file ≡ area =
    stored_same (area_on_side side file) area
    (sym (ap (λ (b : Bool). cond b (Some (area_on_side side file)) None) is) ∙ e) in
    let gate = is_one (has_header file) (is_whole side file) (gate_byte side file) is in
    rw (is, gate) (ap (λ (a : Stored). Open a.place a.count) here)
open_slot side file area false is e =
    absurd (none_some area (sym (ap (λ (b : Bool). cond b (Some (area_on_side side file)) None) is)
    ∙ e))

module _ {D : Type 0} (disks : DiskWords D) where
  pub slot_since : (disk : D) (store : Snapshots D) (place least : ℕ)
      → IsStoreOf disks disk store
      → IsTrue (disks.tells disk) → HasOpenSince place least (disks.seen disk)
      → HasSince place least store.slots
  slot_since disk store place least of told has = record {
    side = has.side;
    count = has.area.count;
    open_there = of.slots told has.side
        ∙ open_slot has.side (disks.seen disk) has.area (is_open_area has.side (disks.seen disk))
        refl has.open_there
        ∙ ap (λ (row : ℕ). Open row has.area.count) has.row;
    since = has.since;
  }

module _ {D : Type 0} (words : DiskWords D) where
  abbrev pub AreStoresOf : List D → List (Snapshots D) → Type 0
  AreStoresOf disks stores =
      AllZip (IsStoreOf words) disks stores

  -- one store more
  pub stores_pushed : (all done rest : List D) (disk : D) (stores stores' : List (Snapshots D))
      (store : Snapshots D) → all ≡ done ++ disk ∷ rest → stores' ≡ stores ++ store ∷ []
      → AreStoresOf done stores
      → IsStoreOf words disk store
      → (opened : List D) × (all ≡ opened ++ rest) × AreStoresOf opened stores'
  stores_pushed all done rest disk stores stores' store is pushed are its = (
    done ++ disk ∷ [],
    is ∙ sym (append_assoc done (disk ∷ []) rest),
    subst (AreStoresOf (done ++ disk ∷ [])) (sym pushed)
        (zip_more (IsStoreOf words) done stores disk store are its),
  )

  -- a host whose disks told their bytes, and agreed with the rows, is sound
  pub sound_of : (host : Host D) (stories : List Story) (disks : List D)
      → AreStoresOf disks (opened_stores host) → host.stories.now ≡ stories
      → AreAgreed words stories (rows_at_opening host) disks → IsSound words host
  sound_of host stories disks stores is agreed = λ s store there.
      let of = zip_at (IsStoreOf words)
      disks (opened_stores host) s store stores there in
      let its = agreed s of.0 of.1 in (
        subst IsTrue (sym of.2.kept.same.telling) its.0,
        λ side area stands. subst (λ (l : List Story). Agrees l
            (opens_of (rows_at_opening host) s)
            (game_of (commands_of (rows_at_opening host) s)) area) (sym is)
            (its.1 side area (sym (of.2.areas its.0 side) ∙ stands)),
      )

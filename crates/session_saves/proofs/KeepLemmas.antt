-- What a put leaves of a store: its areas, its images, and how far it writes.
use Rattle.std.proofs.Common.{◌≡◌, ◌⊎◌, ◌∙◌, ◌+◌, ◌≤◌, ℕ, List, max, length, Option, Some}
use Rattle.std.proofs.Common.{None, inl, inr, true, false, sym, ap, subst, arith}
use Rattle.std.specs.Prelude.{IsTrue}
use Rattle.disk_model.specs.Work.{EachImage, LeavesOnly}
use Rattle.disk_model.specs.declared.disk.Disk.{Ghosts as DiskWords}
use Rattle.disk_model.proofs.Moments.{started, weaker}
use Rattle.story_run.specs.World.{WorldState}
use Rattle.story_snap.specs.Bytes.{HasBytes}
use Rattle.story_snap.specs.Laws.{WorldsHaveOneSpelling}
use Rattle.snap_store.specs.File.{Stored, side_start}
use Rattle.snap_store.specs.Slots.{is_stored, opposite_side, taken_side}
use Rattle.snap_store.specs.Store.{Snapshots, IsImageOf, IsPutImage, store_area}
use Rattle.snap_store.specs.declared.outline.TheConstants.{MAX_SNAPSHOT}
use Rattle.snap_store.specs.declared.side.Side.{Side}
use Rattle.snap_store.specs.declared.side.Side.TheVariants.{A, B}
use Rattle.snap_store.specs.declared.slot.Slots.{Slots}
use Rattle.session_saves.specs.declared.missed.Cause.{Cause}
use Rattle.session_saves.specs.declared.missed.Cause.TheVariants.{NoMemory, TooLong, DiskFailed}
use Rattle.session_saves.specs.declared.missed.Cause.TheVariants.{NotMade}
use Rattle.session_saves.specs.declared.missed.Missed.{Missed}
use Rattle.session_saves.specs.declared.saves.Point.{Point}
use Rattle.session_saves.specs.Keeping.{AddsOnly, CountsExactly, Fits, IsMissed}
use Rattle.session_saves.specs.Keeping.{IsOldOrNew, IsPut, IsTooLong, FailedPutLeaves}
use Rattle.session_saves.specs.Keeping.{MayStandMeanwhile, Prevents, PutsWorld}
use Rattle.snap_store.specs.File.{area_with}
use Rattle.session_saves.specs.Keeping.{with_missed}
use Rattle.session_saves.specs.Saves.{SavesState, with_cause}
use Rattle.session_saves.proofs.AgreementLemmas.{side_cases}
use Rattle.session_saves.proofs.KeptUpLemmas.{stored_with}

-- ---- its areas

-- the area that a put takes, afterwards: the old one, none or the new one
abbrev pub IsLeftOf : Option Stored → Stored → Option Stored → Type 0
IsLeftOf old put new = (new ≡ old) ⊎ ((new ≡ None) ⊎ (new ≡ Some put))

not_some : (area : Stored) → None ≡ Some area → ⊥
not_some area e = cc

some_same : (x y : Stored) → Some x ≡ Some y → x ≡ y
some_same x y e = cc

left_old_or_new : (world : WorldState) (place count : ℕ) (bytes : List ℕ) (old new : Option Stored)
    (area : Stored) → HasBytes world.image bytes world
    → IsLeftOf old (area_with place count bytes) new → new ≡ Some area
    → IsOldOrNew world place count old area
left_old_or_new world place count bytes old new area has (inl same) e = inl (sym same ∙ e)
left_old_or_new world place count bytes old new area has (inr (inl none)) e =
    absurd (not_some area (sym none ∙ e))
left_old_or_new world place count bytes old new area has (inr (inr put)) e =
    inr (bytes, has, some_same area (area_with place count bytes) (sym e ∙ put))

pub adds_only : {D : Type 0} (seen : D
    → List ℕ) (world : WorldState) (place count : ℕ) (bytes : List ℕ) (old new : Snapshots D)
    → HasBytes world.image bytes world
    → IsLeftOf (store_area seen old (taken_side old.slots)) (area_with place count bytes)
    (store_area seen new (taken_side old.slots))
    → store_area seen new (opposite_side (taken_side old.slots)) ≡ store_area seen old
    (opposite_side (taken_side old.slots))
    → AddsOnly seen world place count old new
adds_only seen world place count bytes old new has left beside side area e =
    elim (side_cases (taken_side old.slots) side) [
      | inl taken ↦ subst (λ (s : Side). IsOldOrNew world place count (store_area seen old s) area)
          (sym taken)
          (left_old_or_new world place count bytes (store_area seen old (taken_side old.slots))
          (store_area seen new (taken_side old.slots)) area has left
          (subst (λ (s : Side). store_area seen new s ≡ Some area) taken e))
      | inr is_other ↦
          subst (λ (s : Side). IsOldOrNew world place count (store_area seen old s) area)
          (sym is_other)
          (inl (sym beside ∙ subst (λ (s : Side). store_area seen new s ≡ Some area) is_other e))
    ]

-- ---- its images

module _ {D : Type 0} (disks : DiskWords D) where
  pub untouched : ((d : D) (c : List ℕ) → disks.left_since d (disks.moment d) c
      → disks.may_leave d c)
      → (world : WorldState) (place count : ℕ) (store : Snapshots D)
      → EachImage disks store.disk (IsImageOf disks.seen store) → IsTrue (disks.tells store.disk)
      → LeavesOnly disks store.disk store.disk
      (MayStandMeanwhile disks.seen world place count store)
  untouched only_now world place count store images told =
      started disks store.disk (MayStandMeanwhile disks.seen world place count store)
      (λ c left. inl (images told c (only_now store.disk c left)))

  pub put_crash : (world : WorldState) (place count : ℕ) (bytes : List ℕ) (old : Snapshots D)
      (new : D) → HasBytes world.image bytes world
      → LeavesOnly disks old.disk new (IsPutImage disks.seen old (area_with place count bytes))
      → LeavesOnly disks old.disk new (MayStandMeanwhile disks.seen world place count old)
  put_crash world place count bytes old new has leaves =
      weaker disks old.disk new (IsPutImage disks.seen old (area_with place count bytes))
      (MayStandMeanwhile disks.seen world place count old) leaves (λ c put. inr (bytes, has, put))

-- ---- what is stored

pub put_stored : {D : Type 0} (disks : DiskWords D) (world : WorldState) (place count : ℕ)
    (old new : Snapshots D) → PutsWorld disks world place count old new
    → is_stored place count new.slots ≡ true
put_stored disks world place count old new puts =
    ap (λ (s : Slots). is_stored place count s) puts.slots
    ∙ stored_with old.slots (taken_side old.slots) place count

-- ---- which count rises

true_false : true ≡ false → ⊥
true_false e = cc

-- bytes that fit leave no longer ones
not_long : (world : WorldState) (bytes long : List ℕ) → WorldsHaveOneSpelling → Fits world bytes
    → IsTooLong world long → ⊥
not_long world bytes long one fits is =
    let same : length bytes ≡ length long =
    ap (λ (l : List ℕ). length l) (one world.image bytes long world fits.of_world is.of_world) in
    omega (arith, fits.short, is.long, same)

module _ {D : Type 0} (disks : DiskWords D) (one : WorldsHaveOneSpelling) (world : WorldState)
    (place count : ℕ) (old new : SavesState D) where
  abbrev point : Option Point
  point = Some (record { place = place; count = count })

  left_with : (cause : Cause) → new.store ≡ old.store → new.missed ≡ with_cause cause old.missed
      → new.last ≡ point → new ≡ with_missed cause place count old
  left_with cause store missed last =
      ap (λ (s : Snapshots D). record { store = s; missed = new.missed; last = new.last }) store
      ∙ ap (λ (m : Missed). record { store = old.store; missed = m; last = new.last }) missed
      ∙ ap (λ (l : Option Point). record {
        store = old.store;
        missed = with_cause cause old.missed;
        last = l;
      }) last

  pub put_counts : IsPut disks world place count old new → CountsExactly world place count old new
  put_counts put = record {
    unmade = λ unmade. absurd (true_false (sym put.store.made ∙ unmade));
    made = λ _. ap (λ (m : Missed). m.none) put.missed;
    long = λ _ bytes is. absurd (not_long world put.store.bytes bytes one put.store.fits is);
    short = λ _. ap (λ (m : Missed). m.size) put.missed;
  }

  by_cause : (cause : Cause)
      → Prevents cause old.store.made world (disks.faults old.store.disk)
      (disks.faults new.store.disk)
      → FailedPutLeaves cause old.store new.store → new.missed ≡ with_cause cause old.missed
      → new.last ≡ point → CountsExactly world place count old new
  by_cause NotMade prevents leaves missed last = record {
    unmade = λ _. left_with NotMade leaves missed last;
    made = λ made. absurd (true_false (sym made ∙ prevents.0));
    long = λ made bytes is. absurd (true_false (sym made ∙ prevents.0));
    short = λ _. ap (λ (m : Missed). m.size) missed;
  }
  by_cause NoMemory prevents leaves missed last = record {
    unmade = λ unmade. absurd (true_false (sym prevents.0 ∙ unmade));
    made = λ _. ap (λ (m : Missed). m.none) missed;
    long = λ _ bytes is. inr (left_with NoMemory leaves missed last);
    short = λ _. ap (λ (m : Missed). m.size) missed;
  }
  by_cause TooLong prevents leaves missed last = record {
    unmade = λ unmade. absurd (true_false (sym prevents.0 ∙ unmade));
    made = λ _. ap (λ (m : Missed). m.none) missed;
    long = λ _ bytes is. inl (left_with TooLong leaves missed last);
    short = λ none. absurd (none prevents.2.0 prevents.2.1);
  }
  by_cause DiskFailed prevents leaves missed last = record {
    unmade = λ unmade. absurd (true_false (sym prevents.0 ∙ unmade));
    made = λ _. ap (λ (m : Missed). m.none) missed;
    long = λ _ bytes is. absurd (not_long world prevents.3.0 bytes one prevents.3.1 is);
    short = λ _. ap (λ (m : Missed). m.size) missed;
  }

  pub missed_counts : IsMissed disks.faults world place count old new
      → CountsExactly world place count old new
  missed_counts missed =
      by_cause missed.cause missed.prevents missed.leaves missed.counted missed.last

-- ---- how far it writes

start_within : (side : Side) → side_start side ≤ 8392720
start_within A = omega arith
start_within B = omega arith

pub reach_within : (old new n : ℕ) (side : Side) → n ≤ MAX_SNAPSHOT
    → new ≤ max old (side_start side + 16 + n) → new ≤ max old 16781344
reach_within old new n side short reach = omega (arith, short, reach, start_within side)

-- The disks of a folder are taken, used and put back.
use Rattle.std.proofs.Common.{◌≡◌, ◌⊎◌, inr, ℕ, zero, suc, ◌<◌, List, [], ◌∷◌, length, arith, refl}
use Rattle.std.proofs.Common.{subst, Some, IsTrue, slice_get}
use Rattle.std.proofs.lemmas.Option.{slice_get_within}
use Rattle.turn_cell.specs.History.{Each}
use Rattle.turn_cell.proofs.HistoryLemmas.{each_map}
use Rattle.host_top.specs.Borrowed.{AreAsGiven, AreNamed, Borrowed, IsLending, Lending, NotLent}
use Rattle.host_top.specs.Borrowed.{back_as, journal_in, lent_as, snap_in, snaps_below}
use Rattle.disk_model.specs.declared.disk.Disk.{Ghosts as DiskWords}
use Rattle.host_top.specs.Files.{IsLentFrom, OutsideState}
use Rattle.host_top.specs.Folder.{back_at, folder_back, stores_back}
use Rattle.host_top.specs.declared.folder.Back.{Back}
use Rattle.host_top.specs.declared.folder.Back.TheVariants as back
use Rattle.host_top.specs.declared.status.Status.{Status}
use Rattle.host_top.specs.declared.status.Status.TheVariants.{DiskFault, NoMemory}
use Rattle.line_talk.specs.Causes.{Rose}
use Rattle.line_talk.specs.Streams.{SourceState, SinkState}
use Rattle.line_talk.proofs.StreamsLemmas.{gave_none, wrote_none}
use Rattle.host_top.proofs.BegunLemmas.{no_folder}
use Rattle.host_top.specs.Piped.{HostedOver}
use Rattle.host_top.proofs.NameLemmas.{snap_at}
use Rattle.host_top.proofs.LendingLemmas.{same_item}

-- memory was wanted before a disk was lent
pub not_lent : {D : Type 0} (disks : DiskWords D) (names : List (List ℕ)) (outside : OutsideState D)
    (input : SourceState) (output : SinkState)
    → NotLent disks names outside outside input input output output NoMemory
not_lent disks names outside input output =
    no_folder disks names outside outside input output NoMemory (λ other. (refl, refl)) (inr refl)

-- not all disks were lent, by what the outside answered
pub not_taken : {D : Type 0} (disks : DiskWords D) (names : List (List ℕ))
    (outside beyond : OutsideState D) (input : SourceState) (output : SinkState) (status : Status)
    → (status ≡ DiskFault) × Rose outside.disk_faults beyond.disk_faults ⊎ (status ≡ NoMemory)
    → (ls : List (Lending D)) × AreAsGiven ls × AreNamed names ls × Borrowed disks outside beyond ls
    → NotLent disks names outside beyond input input output output status
not_taken disks names outside beyond input output status cause l = record {
  cause = cause;
  gave = gave_none input;
  wrote = wrote_none output;
  loans = l.0;
  named = l.2;
  given = l.1;
  borrowed = l.3;
}

module _ {D : Type 0} (disks : DiskWords D) where
  -- a disk is lent from the one that is told under its name
  abbrev IsLentAt : OutsideState D → List ℕ → D → Type 0
  IsLentAt a n g = IsTrue (disks.tells g) → IsLentFrom disks (a.disk n) g

  abbrev IsTold : OutsideState D → Lending D → Type 0
  IsTold a l = IsLentAt a l.name l.given

  -- also one that doesn't come back
  told_as : (a : OutsideState D) (ls : List (Lending D)) (bs : List D)
      → Each (IsTold a) (back_as ls bs) → Each (IsTold a) ls
  told_as a [] bs each = tt
  told_as a (l ∷ ls) [] each = each
  told_as a (l ∷ ls) (b ∷ bs) each = (each.0, told_as a ls bs each.1)

  told_at : (a : OutsideState D) (ls : List (Lending D)) (k : ℕ) (d : D)
      → Each (IsTold a) (back_at k d ls) → Each (IsTold a) ls
  told_at a [] k d each = tt
  told_at a (l ∷ ls) zero d each = (each.0, each.1)
  told_at a (l ∷ ls) (suc k) d each = (each.0, told_at a ls k d each.1)

  stores_told : (a : OutsideState D) (ls : List (Lending D)) (x : Back D)
      → Each (IsTold a) (stores_back ls x) → Each (IsTold a) ls
  stores_told a ls (back.All journal snaps) each = told_as a ls snaps.items each
  stores_told a ls (back.Journal journal) each = each
  stores_told a ls (back.Snap session snap) each = told_at a ls session snap each
  stores_told a ls back.Nothing each = each

  told_lent : (a : OutsideState D) (ns : List (List ℕ)) (gs : List D) (i : ℕ) (n : List ℕ) (g : D)
      → Each (IsTold a) (lent_as ns gs) → slice_get ns i ≡ Some n → slice_get gs i ≡ Some g
      → IsLentAt a n g
  told_lent a [] gs i n g each named there = cc
  told_lent a (m ∷ ns) [] i n g each named there = cc
  told_lent a (m ∷ ns) (h ∷ gs) zero n g each named there =
      subst (λ (x : List ℕ × D). IsLentAt a x.0 x.1)
      (λ j. (same_item m n named j, same_item h g there j)) each.0
  told_lent a (m ∷ ns) (h ∷ gs) (suc i) n g each named there =
      told_lent a ns gs i n g each.1 named there

  pub takes_lent : (folder : List ℕ) (given : D) (givens : List D) (x : Back D)
      (a b : OutsideState D) → length givens ≡ 64
      → Borrowed disks a b (folder_back (journal_in folder) (snaps_below folder 64) given givens x)
      → IsLentAt a (journal_in folder) given
      × ((s : ℕ) (g : D) → slice_get givens s ≡ Some g → (s < 64) × IsLentAt a (snap_in folder s) g)
  takes_lent folder given givens x a b many is = (
    is.each.0.lent,
    λ s g there. let low : s < 64 = omega (arith, slice_get_within givens s g there, many) in (
      low,
      told_lent a (snaps_below folder 64) givens s (snap_in folder s) g
          (stores_told a (lent_as (snaps_below folder 64) givens) x
          (each_map (IsLending disks a b) (IsTold a)
          (stores_back (lent_as (snaps_below folder 64) givens) x) (λ l is. is.lent) is.each.1))
          (snap_at folder 64 s low) there,
    ),
  )

-- what a host left, by what comes back
pub hosted_so : {D : Type 0} (disks : DiskWords D) (P Q : D → List D → Type 0) (given : D)
    (givens : List D) (b : Back D) (input now : SourceState) (output new : SinkState)
    (status : Status)
    → ((journal : D) (snaps : List D) → P journal snaps → Q journal snaps)
    → HostedOver P disks given givens b input now output new status
    → HostedOver Q disks given givens b input now output new status
hosted_so disks P Q given givens (back.All journal snaps) input now output new status f h =
    f journal snaps.items h
hosted_so disks P Q given givens (back.Journal journal) input now output new status f h = h
hosted_so disks P Q given givens (back.Snap session snap) input now output new status f h = h
hosted_so disks P Q given givens back.Nothing input now output new status f h = h

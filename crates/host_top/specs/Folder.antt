-- The disks of a folder, as a host takes them and gives them back (own).
use Rattle.std.specs.Prelude.{◌≡◌, ◌⊎◌, ℕ, zero, suc, List, [], ◌∷◌, length, Option, None}
use Rattle.std.specs.Prelude.{Some, slice_get}
use Rattle.disk_model.specs.Work.{OnlyLooks, SameDisk}
use Rattle.line_talk.specs.Causes.{Rose}
use Rattle.line_talk.specs.Streams.{SourceState, SinkState, Gave, Wrote}
use Rattle.host_top.specs.Borrowed.{Borrowed, CountsFaults, Lending, NotLent, back_as}
use Rattle.host_top.specs.Borrowed.{journal_in, lent_as, names_of, snaps_below}
use Rattle.disk_model.specs.declared.disk.Disk.{Ghosts as DiskWords}
use Rattle.host_top.specs.Files.{OutsideState}
use Rattle.host_top.specs.declared.folder.Back.{Back}
use Rattle.host_top.specs.declared.folder.Back.TheVariants.{All, Journal, Snap, Nothing}
use Rattle.host_top.specs.declared.status.Status.{Status}
use Rattle.host_top.specs.declared.status.Status.TheVariants.{DiskFault, NoMemory}

-- the journal's disk, if it comes back
abbrev pub journal_back : {D : Type 0} → Back D → Option D
journal_back (All journal snaps) = Some journal
journal_back (Journal journal) = Some journal
journal_back (Snap session snap) = None
journal_back Nothing = None

-- the disk at this place comes back, and the others don't
abbrev pub back_at : {D : Type 0} → ℕ → D → List (Lending D) → List (Lending D)
back_at n d [] = []
back_at zero d (l ∷ ls) = record l { back = Some d } ∷ ls
back_at (suc n) d (l ∷ ls) = l ∷ back_at n d ls

-- the disks of the stores, with those that come back
abbrev pub stores_back : {D : Type 0} → List (Lending D) → Back D → List (Lending D)
stores_back ls (All journal snaps) = back_as ls snaps.items
stores_back ls (Journal journal) = ls
stores_back ls (Snap session snap) = back_at session snap ls
stores_back ls Nothing = ls

-- the disks under these names, the journal's first
abbrev pub folder_back : {D : Type 0} → List ℕ → List (List ℕ) → D → List D → Back D
    → List (Lending D)
folder_back name names given givens back =
    record { name = name; given = given; back = journal_back back }
    ∷ stores_back (lent_as names givens) back

-- the disks of two lists are the same, one by one
abbrev pub AreSame : {D : Type 0} → DiskWords D → List D → List D → Type 0
AreSame disks [] [] = Unit {0}
AreSame disks [] (b ∷ bs) = ⊥
AreSame disks (g ∷ gs) [] = ⊥
AreSame disks (g ∷ gs) (b ∷ bs) =
    SameDisk disks g b × AreSame disks gs bs

-- what comes back is what was given
abbrev pub IsSameBack : {D : Type 0} → DiskWords D → D → List D → Back D → Type 0
IsSameBack disks given givens (All journal snaps) =
    SameDisk disks given journal × AreSame disks givens snaps.items
IsSameBack disks given givens (Journal journal) =
    SameDisk disks given journal
IsSameBack {D} disks given givens (Snap session snap) =
    (g : D) × (slice_get givens session ≡ Some g)
    × SameDisk disks g snap
IsSameBack disks given givens Nothing = Unit {0}

-- the disks of a folder are out, as they were given
pub record AreOut {D : Type 0} (disks : DiskWords D) (folder : List ℕ)
    (outside beyond : OutsideState D) (given : D) (givens : List D) : Type 0 where
  pub many : length givens ≡ 64
  pub borrowed : Borrowed disks outside beyond (lent_as (names_of folder) (given ∷ givens))
  pub count : beyond.disk_faults ≡ outside.disk_faults

-- these disks were lent, some put back, and the faults counted
abbrev pub Handled : {D : Type 0} → DiskWords D → OutsideState D → OutsideState D
    → List (Lending D) → Type 0
Handled disks outside beyond ls =
    Borrowed disks outside beyond ls × CountsFaults disks outside beyond ls

-- all disks of a folder were lent, P is done with them, and those that come back were put back
pub record TakesDisks {D : Type 0} (disks : DiskWords D) (folder : List ℕ)
    (P : D → List D → Back D → Type 0) (outside beyond : OutsideState D) : Type 0 where
  pub given : D
  pub givens : List D
  pub back : Back D
  pub many : length givens ≡ 64
  pub borrowed :
      Borrowed disks outside beyond
      (folder_back (journal_in folder) (snaps_below folder 64) given givens back)
  pub counts :
      CountsFaults disks outside beyond
      (folder_back (journal_in folder) (snaps_below folder 64) given givens back)
  pub done : P given givens back

-- or not all of them were lent
abbrev pub UsesFolder : {D : Type 0} → DiskWords D → List ℕ → (D → List D → Back D → Type 0)
    → OutsideState D → OutsideState D → SourceState → SourceState → SinkState → SinkState
    → Status → Type 0
UsesFolder disks folder P outside beyond input now output new status =
    NotLent disks (journal_in folder ∷ snaps_below folder 64) outside beyond input now output new
    status
    ⊎ TakesDisks disks folder P outside beyond

-- the disk of a session's store failed as it was opened: nothing is read or written
pub record StoreFails {D : Type 0} (disks : DiskWords D) (givens : List D) (session : ℕ) (back : D)
    (input now : SourceState) (output new : SinkState) (status : Status) : Type 0 where
  pub failed : status ≡ DiskFault
  pub given : D
  pub stands : slice_get givens session ≡ Some given
  pub rose : Rose (disks.faults given) (disks.faults back)
  pub looks :
      OnlyLooks disks given back
  pub gave : Gave input now []
  pub wrote : Wrote output new []

-- memory was wanted behind the opening of the journal: nothing is read or written
pub record LetsGo (input now : SourceState) (output new : SinkState) (status : Status)
    : Type 0 where
  pub wanted : status ≡ NoMemory
  pub gave : Gave input now []
  pub wrote : Wrote output new []

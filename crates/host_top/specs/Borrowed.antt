-- The disks of a folder, which a command is lent by the outside and puts back (own).
use Rattle.std.specs.Prelude.{◌≡◌, ◌⊎◌, ℕ, ◌≤◌, ◌/◌, ◌%◌, false, IsTrue, List, [], ◌∷◌, ◌++◌, map}
use Rattle.std.specs.Prelude.{codes, Option, None, Some, option_map, IfSome, IsSomeAnd}
use Rattle.std.specs.Fmt.{decimal}
use Rattle.std.specs.List.{range_with_len}
use Rattle.std.specs.Str.{bytes_eq}
use Rattle.disk_model.specs.Work.{SameDisk}
use Rattle.line_talk.specs.Causes.{Rose}
use Rattle.turn_cell.specs.History.{Each}
use Rattle.disk_model.specs.declared.disk.Disk.{Ghosts as DiskWords}
use Rattle.host_top.specs.Files.{OutsideState, HasOwnLabel, IsLentFrom, Told, Missing, There}
use Rattle.host_top.specs.Files.{KeepsDisks, TakesDiskBack, told_now}
use Rattle.line_talk.specs.Streams.{SourceState, SinkState, Gave, Wrote}
use Rattle.host_top.specs.declared.loan.Loan.{Loan}
use Rattle.host_top.specs.declared.status.Status.{Status}
use Rattle.host_top.specs.declared.status.Status.TheVariants.{DiskFault, NoMemory}

-- the name of the journal of a folder
abbrev pub journal_in : List ℕ → List ℕ
journal_in folder = folder ++ codes "/journal"

-- the name of a session's store, with two digits
abbrev pub snap_in : List ℕ → ℕ → List ℕ
snap_in folder s = folder ++ codes "/snap" ++ decimal (s / 10) ++ decimal (s % 10)

-- the names of the first stores, in the order of the sessions
unfoldable pub snaps_below : List ℕ → ℕ → List (List ℕ)
snaps_below folder n = map (snap_in folder) (range_with_len 0 n)

-- the names of the disks of a folder, the journal's first
abbrev pub names_of : List ℕ → List (List ℕ)
names_of folder = journal_in folder ∷ snaps_below folder 64

-- no two of these names are the same
abbrev pub AreDifferentNames : List (List ℕ) → Type 0
AreDifferentNames [] = Unit {0}
AreDifferentNames (name ∷ names) =
    Each (λ other. bytes_eq name other ≡ false) names × AreDifferentNames names

-- a disk that was lent under a name: as it was given, and as it was put back, if it was
pub record Lending (D : Type 0) : Type 0 where
  pub name : List ℕ
  pub given : D
  pub back : Option D

-- what stands under the name of a disk that was lent
abbrev pub left_by : {D : Type 0} → Option D → Told D
left_by None = Missing
left_by (Some disk) = There disk

-- its loan
abbrev pub loan_by : {D : Type 0} → DiskWords D → Lending D → Loan
loan_by disks l = record {
  label = disks.label l.given;
  from = disks.faults l.given;
  to = option_map disks.faults l.back;
}

-- what became of a disk that was lent
pub record IsLending {D : Type 0} (disks : DiskWords D) (outside beyond : OutsideState D)
    (l : Lending D) : Type 0 where
  pub lent :
      IsTrue (disks.tells l.given)
      → IsLentFrom disks (outside.disk l.name) l.given
  pub own : HasOwnLabel beyond l.name (disks.label l.given)
  pub kept : IfSome l.back (SameDisk disks l.given)
  pub held : beyond.disk l.name ≡ told_now (outside.disk l.name) (left_by l.back)
  pub loan : beyond.loan l.name ≡ Some (loan_by disks l)

-- it has another name
abbrev pub IsOther : {D : Type 0} → List ℕ → Lending D → Type 0
IsOther other l = bytes_eq l.name other ≡ false

-- these disks were lent, and no others
pub record Borrowed {D : Type 0} (disks : DiskWords D) (outside beyond : OutsideState D)
    (ls : List (Lending D)) : Type 0 where
  pub each : Each (IsLending disks outside beyond) ls
  pub others :
      (other : List ℕ) → Each (IsOther other) ls
      → (beyond.disk other ≡ outside.disk other) × (beyond.loan other ≡ outside.loan other)

-- its count of faults rose until it was put back
abbrev pub HasFailed : {D : Type 0} → DiskWords D → Lending D → Type 0
HasFailed disks l = IsSomeAnd l.back (λ back. Rose (disks.faults l.given) (disks.faults back))

-- the faults of disks rise where one of these failed, and stay where none did
pub record CountsFaults {D : Type 0} (disks : DiskWords D) (outside beyond : OutsideState D)
    (ls : List (Lending D)) : Type 0 where
  pub rose : Each (λ l. HasFailed disks l → Rose outside.disk_faults beyond.disk_faults) ls
  pub stays :
      Each (λ l. HasFailed disks l → ⊥) ls → beyond.disk_faults ≡ outside.disk_faults
  pub later : outside.disk_faults ≤ beyond.disk_faults

-- each was put back as it was given
abbrev pub AreAsGiven : {D : Type 0} → List (Lending D) → Type 0
AreAsGiven ls = Each (λ l. l.back ≡ Some l.given) ls

-- these disks, lent under these names, and not put back
abbrev pub lent_as : {D : Type 0} → List (List ℕ) → List D → List (Lending D)
lent_as [] ds = []
lent_as (n ∷ ns) [] = []
lent_as (n ∷ ns) (d ∷ ds) = record { name = n; given = d; back = None } ∷ lent_as ns ds

-- and put back, as these
abbrev pub back_as : {D : Type 0} → List (Lending D) → List D → List (Lending D)
back_as [] ds = []
back_as (l ∷ ls) [] = l ∷ ls
back_as (l ∷ ls) (d ∷ ds) = record l { back = Some d } ∷ back_as ls ds

-- their names are among these
abbrev pub AreNamed : {D : Type 0} → List (List ℕ) → List (Lending D) → Type 0
AreNamed names ls =
    (other : List ℕ) → Each (λ name. bytes_eq name other ≡ false) names
    → Each (IsOther other) ls

-- these disks were put back under these names, the last one first
abbrev pub PutsBack : {D : Type 0} → (D → ℕ) → List (List ℕ) → List D → OutsideState D
    → OutsideState D → Type 0
PutsBack faults [] ds old new = KeepsDisks old new
PutsBack faults (name ∷ names) [] old new = KeepsDisks old new
PutsBack {D} faults (name ∷ names) (d ∷ ds) old new =
    (mid : OutsideState D) × PutsBack faults names ds old mid × TakesDiskBack faults name d mid new

-- not all disks of these names were lent; those that were are back as they were given, and nothing
-- was read or written
pub record NotLent {D : Type 0} (disks : DiskWords D) (names : List (List ℕ))
    (outside beyond : OutsideState D) (input now : SourceState) (output new : SinkState)
    (status : Status) : Type 0 where
  pub cause :
      (status ≡ DiskFault) × Rose outside.disk_faults beyond.disk_faults ⊎ (status ≡ NoMemory)
  pub gave : Gave input now []
  pub wrote : Wrote output new []
  pub loans : List (Lending D)
  pub named : AreNamed names loans
  pub given : AreAsGiven loans
  pub borrowed : Borrowed disks outside beyond loans

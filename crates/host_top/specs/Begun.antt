-- What `init` leaves of the disks of a folder and of its output (own).
use Rattle.std.specs.Prelude.{◌≡◌, ◌⊎◌, ℕ, ◌<◌, ◌≤◌, max, IsTrue, IsSomeAnd, List, [], ◌∷◌, ◌++◌}
use Rattle.std.specs.Prelude.{codes, length, map, Some}
use Rattle.disk_model.specs.Disk.{AfterWrite, Only, file_written}
use Rattle.disk_model.specs.Work.{LeavesOnly}
use Rattle.gate_journal.specs.Faults.{HasInitCause}
use Rattle.gate_journal.specs.Rows.{journal_header}
use Rattle.gate_journal.specs.declared.fault.InitFault.{InitFault}
use Rattle.gate_journal.specs.declared.fault.InitFault.TheVariants as fault
use Rattle.host_top.specs.Borrowed.{AreNamed, Borrowed, CountsFaults, Lending, NotLent}
use Rattle.host_top.specs.Borrowed.{journal_in, snaps_below}
use Rattle.disk_model.specs.declared.disk.Disk.{Ghosts as DiskWords}
use Rattle.host_top.specs.ToldBytes.{WhereTold}
use Rattle.host_top.specs.Files.{OutsideState, Told}
use Rattle.host_top.specs.Said.{SaysLine}
use Rattle.line_talk.specs.Causes.{Rose}
use Rattle.line_talk.specs.Streams.{SourceState, SinkState, Gave, Wrote}
use Rattle.line_talk.specs.Writing.{IsPartOf}
use Rattle.snap_store.specs.File.{empty_snapshot_file}
use Rattle.turn_cell.specs.History.{Each}
use Rattle.host_top.specs.declared.status.Status.{Status}
use Rattle.host_top.specs.declared.status.Status.TheVariants as ends

-- the line of a folder that is ready, and of one that is in use
abbrev pub ready : List ℕ
ready = codes "ready\n"

abbrev pub not_empty : List ℕ
not_empty = codes "not empty\n"

-- a journal was begun: the disk held nothing, and a stop leaves the header and a zero byte alone
pub record Begun {D : Type 0} (disks : DiskWords D) (given back : D) (output new : SinkState)
    (status : Status) : Type 0 where
  pub empty : IsTrue (disks.tells given) → disks.seen given ≡ []
  pub holds : IsTrue (disks.tells given) → Only (journal_header ++ 0 ∷ []) (disks.may_leave back)
  pub count : disks.faults back ≡ disks.faults given
  pub says : SaysLine ends.Done ready output new status

-- what a refusal to begin one leaves of the output
abbrev pub SaysRefusal : InitFault → SinkState → SinkState → Status → Type 0
SaysRefusal fault.NotEmpty output new status =
    SaysLine ends.BadFolder not_empty output new status
SaysRefusal (fault.DiskFault counts) output new status =
    (status ≡ ends.DiskFault) × Wrote output new []

-- the disk was only looked at
abbrev pub IsLookedAt : {D : Type 0} → DiskWords D → D → D → Type 0
IsLookedAt disks given back =
    (disks.reach back ≡ disks.reach given)
    × (IsTrue (disks.tells given)
    → LeavesOnly disks given back (disks.may_leave given))

-- so it is where the disk isn't empty
abbrev pub LooksOnly : {D : Type 0} → DiskWords D → D → D → InitFault → Type 0
LooksOnly disks given back fault.NotEmpty = IsLookedAt disks given back
LooksOnly disks given back (fault.DiskFault counts) = Unit {0}

-- it wasn't begun: the disk holds something, or it failed
pub record NotBegun {D : Type 0} (disks : DiskWords D) (given back : D) (output new : SinkState)
    (status : Status) : Type 0 where
  pub fault : InitFault
  pub cause :
      HasInitCause (disks.tells given) (disks.seen given) (disks.faults given)
      (disks.faults back) fault
  pub looks : LooksOnly disks given back fault
  pub says : SaysRefusal fault output new status

-- one of the two; nothing is written past the 17 bytes
pub record InitsOver {D : Type 0} (disks : DiskWords D) (given back : D)
    (output new : SinkState) (status : Status) : Type 0 where
  pub reaches : disks.reach back ≤ max (disks.reach given) 17
  pub does :
      Begun disks given back output new status ⊎ NotBegun disks given back output new status

-- the first 4,096 bytes of a store's disk were written, or some of them
pub record IsTried {D : Type 0} (disks : DiskWords D) (given back : D) : Type 0 where
  pub meanwhile :
      IsTrue (disks.tells given)
      → LeavesOnly disks given back (AfterWrite 0 4096 (disks.may_leave given))
  pub reaches : disks.reach back ≡ max (disks.reach given) 4096

-- a store was made: a stop leaves the header and zeros, and what stood behind
pub record IsMade {D : Type 0} (disks : DiskWords D) (given back : D) : Type 0 where
  pub over :
      IsTrue (disks.tells given)
      → Only (file_written (disks.seen given) 0 empty_snapshot_file) (disks.may_leave back)
  pub alone :
      IsTrue (disks.tells given) → length (disks.seen given) ≤ 4096
      → Only empty_snapshot_file (disks.may_leave back)
  pub count : disks.faults back ≡ disks.faults given

-- P holds of the disk of each store as it was given and as it was put back
abbrev pub EachBack : {D : Type 0} → (D → D → Type 0) → List (Lending D) → Type 0
EachBack P stores = Each (λ l. IsSomeAnd l.back (P l.given)) stores

-- some disks of these names were lent, and put back after it was tried to make stores of them
pub record TriesStores {D : Type 0} (disks : DiskWords D) (names : List (List ℕ))
    (outside beyond : OutsideState D) : Type 0 where
  pub stores : List (Lending D)
  pub named : AreNamed names stores
  pub tried : EachBack (IsTried disks) stores
  pub borrowed : Borrowed disks outside beyond stores

-- the stores of these names were made
pub record MakesStores {D : Type 0} (disks : DiskWords D) (names : List (List ℕ))
    (outside beyond : OutsideState D) : Type 0 where
  pub stores : List (Lending D)
  pub names_are : map (λ l. l.name) stores ≡ names
  pub tried : EachBack (IsTried disks) stores
  pub made : EachBack (IsMade disks) stores
  pub borrowed : Borrowed disks outside beyond stores
  pub counts : CountsFaults disks outside beyond stores

-- all stores were made, once the journal's disk was found empty
pub record MakesAll {D : Type 0} (disks : DiskWords D) (folder : List ℕ) (journal : D)
    (stores : List (Lending D)) : Type 0 where
  pub empty : IsTrue (disks.tells journal) → disks.seen journal ≡ []
  pub names : map (λ l. l.name) stores ≡ snaps_below folder 64
  pub each : EachBack (IsMade disks) stores

-- some stores weren't made, so the journal's disk was only looked at, and nothing is said
pub record Unmade {D : Type 0} (disks : DiskWords D) (given back : D)
    (outside beyond : OutsideState D) (output new : SinkState) (status : Status)
    : Type 0 where
  pub empty : IsTrue (disks.tells given) → disks.seen given ≡ []
  pub looks : IsLookedAt disks given back
  pub cause :
      (status ≡ ends.DiskFault) × Rose outside.disk_faults beyond.disk_faults
      ⊎ (status ≡ ends.NoMemory)
  pub wrote : Wrote output new []

-- The journal was begun behind all stores; or it wasn't, behind all of them or none; or not all
-- stores were made. The disk of the journal is handed in and back.
pub record Inits {D : Type 0} (disks : DiskWords D) (folder : List ℕ) (given back : D)
    (stores lent : List (Lending D)) (outside beyond : OutsideState D) (output new : SinkState)
    (status : Status) : Type 0 where
  pub borrowed : Borrowed disks outside beyond lent
  pub named : AreNamed (snaps_below folder 64) stores
  pub tried : EachBack (IsTried disks) stores
  pub reaches : disks.reach back ≤ max (disks.reach given) 17
  pub later : outside.disk_faults ≤ beyond.disk_faults
  pub does :
      CountsFaults disks outside beyond lent
      × (Begun disks given back output new status × MakesAll disks folder given stores
      ⊎ NotBegun disks given back output new status
      × ((stores ≡ []) ⊎ MakesAll disks folder given stores))
      ⊎ Unmade disks given back outside beyond output new status

-- the same of the disks of a folder, the journal's among those that were lent; no input is read
pub record InitsFolder {D : Type 0} (disks : DiskWords D) (folder : List ℕ)
    (outside beyond : OutsideState D) (input now : SourceState) (output new : SinkState)
    (status : Status) : Type 0 where
  pub given : D
  pub back : D
  pub stores : List (Lending D)
  pub inits :
      Inits disks folder given back stores
      (record { name = journal_in folder; given = given; back = Some back } ∷ stores)
      outside beyond output new status
  pub gave : Gave input now []

-- one of the two: the journal's disk isn't lent, or it is
abbrev pub InitsOn : {D : Type 0} → DiskWords D → List ℕ → OutsideState D → OutsideState D
    → SourceState → SourceState → SinkState → SinkState → Status → Type 0
InitsOn disks folder outside beyond input now output new status =
    NotLent disks (journal_in folder ∷ []) outside beyond input now output new status
    ⊎ InitsFolder disks folder outside beyond input now output new status

-- what `init` writes, by its exit status, and what is told of its journal's disk
abbrev pub WritesBegun : {D : Type 0} → Status → DiskWords D → Told D → List ℕ → Type 0
WritesBegun ends.Done disks journal written =
    (written ≡ ready) × WhereTold disks journal (λ bytes. bytes ≡ [])
WritesBegun ends.BadWords disks journal written = ⊥
WritesBegun ends.Refused disks journal written = ⊥
WritesBegun ends.ReadFault disks journal written = written ≡ []
WritesBegun ends.WriteFault disks journal written =
    IsPartOf written ready ⊎ IsPartOf written not_empty
WritesBegun ends.DiskFault disks journal written = written ≡ []
WritesBegun ends.NoMemory disks journal written =
    IsPartOf written ready ⊎ IsPartOf written not_empty
WritesBegun ends.BadFolder disks journal written =
    (written ≡ not_empty) × WhereTold disks journal (λ bytes. 0 < length bytes)
WritesBegun ends.DoorFault disks journal written = ⊥
WritesBegun ends.LineLimit disks journal written = ⊥

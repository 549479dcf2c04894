-- What is known of the files and the disks outside (own).
use Rattle.std.specs.Prelude.{◌≡◌, ◌≢◌, ℕ, ◌+◌, ◌-◌, ◌^◌, ◌<◌, ◌≤◌, min, List, [], take, Option}
use Rattle.std.specs.Prelude.{None, Some, IsSomeAnd, if◌then◌else◌, Bool, true, false, is_none}
use Rattle.std.specs.Prelude.{Result, Ok, Err}
use Rattle.std.specs.Map.{update}
use Rattle.std.specs.Str.{bytes_eq}
use Rattle.disk_model.specs.Disk.{NoneNew, Only}
use Rattle.disk_model.specs.declared.disk.Disk.{Ghosts as DiskWords}
use Rattle.host_serve.specs.declared.worked.Worked.{Worked}
use Rattle.host_serve.specs.declared.worked.Worked.TheVariants.{Shut, DoorFault}
use Rattle.line_talk.specs.Causes.{Rose}
use Rattle.host_top.specs.declared.door_call.DoorCall.{DoorCall}
use Rattle.host_top.specs.declared.door_call.DoorCalls.{DoorCalls}
use Rattle.host_top.specs.declared.loan.Loan.{Loan}
use Rattle.host_top.specs.declared.outside.Fetch.{Fetch}
use Rattle.host_top.specs.declared.outside.Fetch.TheVariants.{Failed, NoMemory}

-- what is told of what stands under a name: nothing, that there is none, or what it is
pub data Told (A : Type 0) : Type 0 where
  Untold : Told A
  Missing : Told A
  There : A → Told A

-- there is told to be nothing
abbrev pub is_told_missing : {A : Type 0} → Told A → Bool
is_told_missing Untold = false
is_told_missing Missing = true
is_told_missing (There a) = false

-- a call of the outside failed
abbrev pub has_failed : {T : Type 0} → Result T Fetch → Bool
has_failed (Ok value) = false
has_failed (Err Failed) = true
has_failed (Err NoMemory) = false

-- the files and the disks by their names where they are told, the last loan of the disk of a name,
-- the faults of loads, those of disks and of the calls that lend them, those of doors and of the
-- calls that give them, how many doors were shut, and the calls for a door
pub record OutsideState (D : Type 0) : Type 0 where
  pub file : List ℕ → Told (List ℕ)
  pub disk : List ℕ → Told D
  pub loan : List ℕ → Option Loan
  pub faults : ℕ
  pub disk_faults : ℕ
  pub door_faults : ℕ
  pub shut : ℕ
  pub door_calls : DoorCalls

-- what is told by one who knows all names
abbrev pub told_of_all : {A : Type 0} → Option A → Told A
told_of_all None = Missing
told_of_all (Some a) = There a

-- what a load gives of a file that is told: at most its first 67,108,865 bytes
abbrev pub IsLoadOf : Told (List ℕ) → List ℕ → Type 0
IsLoadOf Untold bytes = Unit {0}
IsLoadOf Missing bytes = ⊥
IsLoadOf (There told) bytes = bytes ≡ take 67108865 told

-- the files, and the faults of loads, stay
pub record KeepsFiles {D : Type 0} (old new : OutsideState D) : Type 0 where
  pub file : new.file ≡ old.file
  pub faults : new.faults ≡ old.faults

-- the disks, and the faults of disks, stay
pub record KeepsDisks {D : Type 0} (old new : OutsideState D) : Type 0 where
  pub disk : (name : List ℕ) → new.disk name ≡ old.disk name
  pub loan : (name : List ℕ) → new.loan name ≡ old.loan name
  pub disk_faults : new.disk_faults ≡ old.disk_faults

-- the faults of doors, the number of those that were shut and the calls for one stay
pub record KeepsDoors {D : Type 0} (old new : OutsideState D) : Type 0 where
  pub door_faults : new.door_faults ≡ old.door_faults
  pub shut : new.shut ≡ old.shut
  pub door_calls : new.door_calls ≡ old.door_calls

-- a count after one more, which stands still at its type's end
abbrev pub after_one : ℕ → ℕ
after_one count = min (count + 1) (2 ^ 64 - 1)

-- the calls for a door after one more
abbrev pub after_call : DoorCall → DoorCalls → DoorCalls
after_call call calls = record { count = after_one calls.count; last = Some call }

-- the work at a door ended so: one door more was shut, or one fault more is counted; the calls for
-- one stay
abbrev pub Closes : {D O C E F : Type 0} → Worked O C E F → OutsideState D → OutsideState D
    → Type 0
Closes (Shut end) old new =
    (new.shut ≡ after_one old.shut) × (new.door_faults ≡ old.door_faults)
    × (new.door_calls ≡ old.door_calls)
Closes (DoorFault fault) old new =
    (new.shut ≡ old.shut) × (new.door_faults ≡ after_one old.door_faults)
    × (new.door_calls ≡ old.door_calls)

-- the disk that is lent reads as the one that is told, and no image is new; where there is told to
-- be none, it is empty
abbrev pub IsLentFrom : {D : Type 0} → DiskWords D → Told D → D → Type 0
IsLentFrom disks Untold disk = Unit {0}
IsLentFrom disks Missing disk = (disks.seen disk ≡ []) × Only [] (disks.may_leave disk)
IsLentFrom disks (There told) disk =
    (disks.seen disk ≡ disks.seen told) × NoneNew (disks.may_leave told) (disks.may_leave disk)

-- what is told under a name under which this stands now
abbrev pub told_now : {A : Type 0} → Told A → Told A → Told A
told_now Untold now = Untold
told_now Missing now = now
told_now (There a) now = now

-- what is told of names, where that of this one is now so
abbrev pub told_at : {A : Type 0} → (List ℕ → Told A) → List ℕ → Told A → List ℕ → Told A
told_at told name now other =
    if bytes_eq name other then told_now (told other) now else told other

-- this stands under the name then; what stands under other names stays, and so do loans and faults
pub record StandsThen {D : Type 0} (name : List ℕ) (now : Told D) (old new : OutsideState D)
    : Type 0 where
  pub disk : (other : List ℕ) → new.disk other ≡ told_at old.disk name now other
  pub loan : (other : List ℕ) → new.loan other ≡ old.loan other
  pub disk_faults : new.disk_faults ≡ old.disk_faults

-- no disk of another name that was lent has this label
abbrev pub HasOwnLabel : {D : Type 0} → OutsideState D → List ℕ → ℕ → Type 0
HasOwnLabel outside name label =
    (other : List ℕ) (loan : Loan) → bytes_eq name other ≡ false
    → outside.loan other ≡ Some loan → loan.label ≢ label

-- the labels of all loans are below a count
abbrev pub AreBelow : (List ℕ → Option Loan) → ℕ → Type 0
AreBelow loans count =
    (name : List ℕ) (loan : Loan) → loans name ≡ Some loan → loan.label < count

-- a disk of this name was lent
pub record Lends {D : Type 0} (words : DiskWords D) (name : List ℕ) (disk : D)
    (old new : OutsideState D) : Type 0 where
  pub disks : (other : List ℕ) → new.disk other ≡ told_at old.disk name Missing other
  pub loans : (other : List ℕ) → new.loan other
      ≡ update bytes_eq old.loan name
      (Some (record { label = words.label disk; from = words.faults disk; to = None })) other
  pub count : new.disk_faults ≡ old.disk_faults
  pub own : HasOwnLabel old name (words.label disk)

-- the disk with this label is lent
abbrev pub IsLent : Option Loan → ℕ → Type 0
IsLent loan label = IsSomeAnd loan (λ l. (l.label ≡ label) × (l.to ≡ None))

-- the disk of a loan isn't back
abbrev pub is_out : Option Loan → Bool
is_out None = false
is_out (Some loan) = is_none loan.to

-- a loan whose disk was put back
abbrev pub returned : ℕ → Option Loan → Option Loan
returned to None = None
returned to (Some loan) = Some (record loan { to = Some to })

-- a count rises where another rose, and stays where that didn't
pub record RisesWith (from to before now : ℕ) : Type 0 where
  pub rose : Rose from to → Rose before now
  pub stays : (Rose from to → ⊥) → now ≡ before
  pub later : before ≤ now

-- the disk of this name was put back; the faults of disks rise where its own did
pub record TakesDiskBack {D : Type 0} (faults : D → ℕ) (name : List ℕ) (disk : D)
    (old new : OutsideState D) : Type 0 where
  pub disks : (other : List ℕ) → new.disk other ≡ told_at old.disk name (There disk) other
  pub loans : (other : List ℕ) → new.loan other
      ≡ update bytes_eq old.loan name (returned (faults disk) (old.loan name)) other
  pub count : IsSomeAnd (old.loan name)
      (λ loan. RisesWith loan.from (faults disk) old.disk_faults new.disk_faults)

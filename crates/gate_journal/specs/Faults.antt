-- What the refusals of a journal say (own).
use Rattle.std.specs.Prelude.{◌≡◌, ℕ, ◌<◌, ◌≤◌, Bool, IsTrue, List, length, Result, MatchResult}
use Rattle.disk_model.specs.Disk.{Rose}
use Rattle.gate_journal.specs.declared.fault.DiskFault.{DiskFault}
use Rattle.gate_journal.specs.declared.fault.JournalFault.{JournalFault}
use Rattle.gate_journal.specs.declared.fault.JournalFault.TheVariants.{NotJournal, Corrupt}
use Rattle.gate_journal.specs.declared.fault.JournalFault.TheVariants.{DiskFault as on_disk}
use Rattle.gate_journal.specs.declared.fault.JournalFault.TheVariants.{NoMemory}
use Rattle.gate_journal.specs.declared.fault.InitFault.{InitFault}
use Rattle.gate_journal.specs.declared.fault.InitFault.TheVariants.{NotEmpty}
use Rattle.gate_journal.specs.declared.fault.InitFault.TheVariants.{DiskFault as on_new_disk}
use Rattle.gate_journal.specs.Rows.{IsCorrupt, HasNoHeader}

-- a fault of the disk, whose count was this and is now that
pub record IsFault (fault : DiskFault) (before now : ℕ) : Type 0 where
  pub at_start : fault.from ≡ before
  pub at_end : fault.to ≡ now
  pub no_lower : before ≤ now
  pub rose : Rose before now

-- what a refusal to open says of the bytes
abbrev pub Explains : List ℕ → JournalFault → Type 0
Explains bytes NotJournal = HasNoHeader bytes
Explains bytes (Corrupt place) = IsCorrupt bytes place
Explains bytes (on_disk fault) = Unit {0}
Explains bytes NoMemory = Unit {0}

-- bytes alone are refused for no fault of a disk
abbrev pub RefusesBytes : List ℕ → JournalFault → Type 0
RefusesBytes bytes NotJournal = HasNoHeader bytes
RefusesBytes bytes (Corrupt place) = IsCorrupt bytes place
RefusesBytes bytes (on_disk fault) = ⊥
RefusesBytes bytes NoMemory = Unit {0}

-- a disk alone is refused for a fault of its own or for want of memory
abbrev pub IsOfDisk : JournalFault → Type 0
IsOfDisk NotJournal = ⊥
IsOfDisk (Corrupt place) = ⊥
IsOfDisk (on_disk fault) = Unit {0}
IsOfDisk NoMemory = Unit {0}

-- a refusal for what the bytes are, or for want of memory
abbrev pub IsNoFault : JournalFault → Type 0
IsNoFault NotJournal = Unit {0}
IsNoFault (Corrupt place) = Unit {0}
IsNoFault (on_disk fault) = ⊥
IsNoFault NoMemory = Unit {0}

-- a refusal for a fault of the disk
abbrev pub IsDiskFault : JournalFault → Type 0
IsDiskFault NotJournal = ⊥
IsDiskFault (Corrupt place) = ⊥
IsDiskFault (on_disk fault) = Unit {0}
IsDiskFault NoMemory = ⊥

-- it holds unless the disk failed
abbrev pub UnlessFault : {T : Type 0} → Result T JournalFault → Type 0 → Type 0
UnlessFault result P = MatchResult result (λ _. P) (λ e. IsNoFault e → P)

-- a fault of the disk is answered where its count rose, and then alone
abbrev pub HasCause : ℕ → ℕ → JournalFault → Type 0
HasCause before now NotJournal = now ≡ before
HasCause before now (Corrupt place) = now ≡ before
HasCause before now (on_disk fault) = IsFault fault before now
HasCause before now NoMemory = now ≡ before

-- and the count stays where nothing is refused
abbrev pub CountsOpening : {T : Type 0} → Result T JournalFault → ℕ → ℕ → Type 0
CountsOpening result before now =
    MatchResult result (λ _. now ≡ before) (λ e. HasCause before now e)

-- why a journal isn't begun: the disk holds something, or it failed
abbrev pub HasInitCause : Bool → List ℕ → ℕ → ℕ → InitFault → Type 0
HasInitCause tells seen before now NotEmpty = (IsTrue tells → 0 < length seen) × (now ≡ before)
HasInitCause tells seen before now (on_new_disk fault) = IsFault fault before now

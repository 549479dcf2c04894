-- What the answers of a packing say of its two disks (own).
use Rattle.std.specs.Prelude.{◌≡◌, ℕ, ◌<◌, Bool, IsTrue, List, [], length, Result, MatchResult}
use Rattle.gate_journal.specs.declared.fault.JournalFault.{JournalFault}
use Rattle.gate_journal.specs.declared.fault.JournalFault.TheVariants.{NotJournal, Corrupt}
use Rattle.gate_journal.specs.declared.fault.JournalFault.TheVariants.{DiskFault as on_disk}
use Rattle.gate_journal.specs.declared.fault.JournalFault.TheVariants.{NoMemory as OutOfMemory}
use Rattle.gate_journal.specs.Faults.{Explains, HasCause, IsDiskFault, IsFault, IsNoFault}
use Rattle.journal_pack.specs.declared.fault.PackFault.{PackFault}
use Rattle.journal_pack.specs.declared.fault.PackFault.TheVariants.{Old, NotEmpty, New, NoMemory}

-- the counts of faults of both disks, as a call begins and as it ends
pub record Counts : Type 0 where
  pub old : ℕ
  pub new : ℕ

-- why: a disk's count rose, or no count did
abbrev pub HasPackCause : Counts → Counts → PackFault → Type 0
HasPackCause before now (Old fault) = HasCause before.old now.old fault × (now.new ≡ before.new)
HasPackCause before now NotEmpty = now ≡ before
HasPackCause before now (New fault) =
    (now.old ≡ before.old) × IsFault fault before.new now.new
HasPackCause before now NoMemory = now ≡ before

-- what is answered of these counts
abbrev pub CountsPacking : {T : Type 0} → Result T PackFault → Counts → Counts → Type 0
CountsPacking result before now =
    MatchResult result (λ _. now ≡ before) (λ e. HasPackCause before now e)

-- a disk that tells its bytes, and these
pub record Told : Type 0 where
  pub tells : Bool
  pub bytes : List ℕ

-- it isn't for want of memory, which has an answer of its own
abbrev pub IsNamed : JournalFault → Type 0
IsNamed NotJournal = Unit {0}
IsNamed (Corrupt place) = Unit {0}
IsNamed (on_disk fault) = Unit {0}
IsNamed OutOfMemory = ⊥

-- what a refusal says of the bytes of the old disk and of the new one, which is looked at first
abbrev pub Refuses : Told → Told → PackFault → Type 0
Refuses old new (Old fault) =
    IsNamed fault × (IsTrue old.tells → Explains old.bytes fault)
    × (IsTrue new.tells → new.bytes ≡ [])
Refuses old new NotEmpty = IsTrue new.tells → 0 < length new.bytes
Refuses old new (New fault) = Unit {0}
Refuses old new NoMemory = IsTrue new.tells → new.bytes ≡ []

-- it holds unless the old disk failed
abbrev pub IsNoOldFault : PackFault → Type 0
IsNoOldFault (Old fault) = IsNoFault fault
IsNoOldFault why = Unit {0}

abbrev pub UnlessOldFault : {T : Type 0} → Result T PackFault → Type 0 → Type 0
UnlessOldFault result P = MatchResult result (λ _. P) (λ e. IsNoOldFault e → P)

-- a refusal for a fault of the old disk
abbrev pub IsOldFault : PackFault → Type 0
IsOldFault (Old fault) = IsDiskFault fault
IsOldFault why = ⊥

-- a refusal for a fault of the new disk
abbrev pub IsNewFault : PackFault → Type 0
IsNewFault (New fault) = Unit {0}
IsNewFault why = ⊥

-- a fault of the new disk comes only where this is so
abbrev pub OnlyNewWhere : Type 0 → PackFault → Type 0
OnlyNewWhere P (New fault) = P
OnlyNewWhere P why = Unit {0}

-- the refusal isn't for a fault of the new disk
abbrev pub IsBefore : PackFault → Type 0
IsBefore (New fault) = ⊥
IsBefore why = Unit {0}

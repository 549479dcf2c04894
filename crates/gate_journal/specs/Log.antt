-- A journal as contracts see it, and what a stop may leave of it (own).
use Rattle.std.specs.Prelude.{◌≡◌, ◌⊎◌, ℕ, ◌+◌, ◌<◌, ◌≤◌, Bool, IsTrue, max, Option, Some, None}
use Rattle.std.specs.Prelude.{IfSome, List, [], ◌∷◌, ◌++◌, length, map, slice_index, take, drop}
use Rattle.turn_cell.specs.History.{Each}
use Rattle.disk_model.specs.Disk.{Holds, Rose}
use Rattle.disk_model.specs.Work.{EachImage, LeavesOnly, SameDisk}
use Rattle.disk_model.specs.declared.disk.Disk.{Ghosts as DiskWords}
use Rattle.gate_journal.specs.Gate.{IsShut, IsUnsure}
use Rattle.gate_journal.specs.Opening.{MayMigrate, ReachesWrites}
use Rattle.gate_journal.specs.Rows.{SpellsRows, row_body, journal_bytes, IsJournal, IsNext}
use Rattle.gate_journal.specs.Rows.{journal_front, version_byte, IsInVersion, AreInVersion}
use Rattle.gate_journal.specs.declared.command.Command.{Command}
use Rattle.gate_journal.specs.declared.row.Row.{Row}
use Rattle.gate_journal.specs.declared.entry.Entry.{Entry}
use Rattle.gate_journal.specs.declared.entry.Entry.TheVariants.{Kept, Faulted}

-- the rows among the entries
abbrev pub rows_of : List Entry → List Row
rows_of [] = []
rows_of (Kept r ∷ entries) = r ∷ rows_of entries
rows_of (Faulted r from to ∷ entries) = rows_of entries

-- each row as an entry
abbrev pub rows_kept : List Row → List Entry
rows_kept rows = map Kept rows

-- the row of which an entry is: it is kept, or its append failed
abbrev pub row_in : Entry → Row
row_in (Kept r) = r
row_in (Faulted r from to) = r

-- the number of an entry
abbrev pub entry_number : Entry → ℕ
entry_number (Kept r) = r.by
entry_number (Faulted r from to) = r.by

-- the counts of the fault entries rise, from the low number to the high one
abbrev pub Rises : ℕ → List Entry → ℕ → Type 0
Rises low [] high = low ≤ high
Rises low (Kept r ∷ entries) high = Rises low entries high
Rises low (Faulted r from to ∷ entries) high =
    (low ≤ from) × (from ≤ to) × Rose from to × Rises to entries high

-- what a journal was opened on, which never changes: the disk as it was handed in, and how many
-- entries were found on it
pub record Opening (D : Type 0) : Type 0 where
  pub disk : D
  pub found : ℕ

pub record Log (D : Type 0) : Type 0 where
  pub disk : D
  -- rows and faults, oldest first
  pub entries : List Entry
  -- the row behind an uncertain gate
  pub uncertain : Option Row
  pub opening : Opening D
  -- the disk as the opening left it, and as it stood when each entry since was taken down
  pub start : D
  pub steps : List D
  -- there is room for one row more
  pub ready : Bool

-- the rows that the opening found
abbrev pub rows_found : {D : Type 0} → Log D → List Row
rows_found log = rows_of (take log.opening.found log.entries)

-- the row that is to stand next
abbrev pub next_row : List Row → ℕ → Command → Row
next_row rows session command =
    record {
      place = length (journal_bytes rows);
      session = session;
      by = session + 1;
      command = command;
    }

-- the end of what an append of this row writes: the row, and a zero byte for the next gate
abbrev pub row_end : Row → ℕ
row_end r = r.place + length (row_body r) + 2

-- Of each device call of an append: the row behind the uncertain gate, where that call fails. Where
-- a gate is uncertain, a write and a sync close it first. Then come the row behind its gate, a sync,
-- the row's gate and a sync.
abbrev pub gates_left : Option Row → Row → List (Option Row)
gates_left None r = None ∷ None ∷ Some r ∷ Some r ∷ []
gates_left (Some u) r = Some u ∷ Some u ∷ None ∷ None ∷ Some r ∷ Some r ∷ []

-- how many of an append's close a gate first
abbrev pub repair_calls : Option Row → ℕ
repair_calls None = 0
repair_calls (Some u) = 2

-- nothing but the room changes
pub record SameLog {D : Type 0} (old new : Log D) : Type 0 where
  pub disk : new.disk ≡ old.disk
  pub entries : new.entries ≡ old.entries
  pub uncertain : new.uncertain ≡ old.uncertain
  pub opening : new.opening ≡ old.opening
  pub start : new.start ≡ old.start
  pub steps : new.steps ≡ old.steps

-- what stands in an image of version 2: the rows and a closed gate, or a gate of which nothing is
-- known before this row and a zero byte
abbrev pub StandsInImage : List Row → Option Row → List ℕ → Type 0
StandsInImage rows None c = IsShut (journal_bytes rows) c
StandsInImage rows (Some r) c = IsUnsure (journal_bytes rows) (row_body r ++ 0 ∷ []) c

-- the same of an image of either version, which has no row that its version hasn't
abbrev pub StandsInEither : List Row → Option Row → List ℕ → Type 0
StandsInEither rows None c =
    AreInVersion (version_byte c) rows × IsShut (journal_front (version_byte c) rows) c
StandsInEither rows (Some r) c =
    AreInVersion (version_byte c) (rows ++ r ∷ [])
    × IsUnsure (journal_front (version_byte c) rows) (row_body r ++ 0 ∷ []) c

-- the image spells the rows; its closing gate is 0, or a row of its version that may stand there
-- and a zero byte stand behind it
pub record IsClosedWell (rows : List Row) (c : List ℕ) : Type 0 where
  pub spells : SpellsRows c rows
  pub gate :
      (slice_index c (length (journal_bytes rows)) ≡ 0)
      ⊎ ((r : Row) × IsNext rows r × IsInVersion (version_byte c) r.command
      × Holds c (length (journal_bytes rows) + 1) (row_body r ++ 0 ∷ []))

-- the image spells the rows, or these and the one behind an uncertain gate
abbrev pub MaySpell : List Row → Option Row → List ℕ → Type 0
MaySpell rows None c = IsClosedWell rows c
MaySpell rows (Some r) c = IsClosedWell rows c ⊎ IsClosedWell (rows ++ r ∷ []) c

-- what an opening may find of such images: the rows, or these and that one
abbrev pub MayFind : List Row → Option Row → List Row → Type 0
MayFind rows None found = found ≡ rows
MayFind rows (Some r) found = (found ≡ rows) ⊎ (found ≡ rows ++ r ∷ [])

-- what an opening may meet, in either version: the rows and a closed gate, or a gate of which
-- nothing is known before a row that may stand there and a zero byte
abbrev pub MayOpen : List Row → List ℕ → Type 0
MayOpen rows c =
    StandsInEither rows None c
    ⊎ ((r : Row) × IsNext rows r × StandsInEither rows (Some r) c)

-- while a row is written an image spells the rows, or these and the uncertain one, or these and the
-- new one, and never both; and an opening may meet it
abbrev pub Meanwhile : List Row → Option Row → Row → List ℕ → Type 0
Meanwhile rows uncertain r c =
    (MaySpell rows uncertain c ⊎ MaySpell rows (Some r) c) × MayOpen rows c

-- what holds of each journal, whose closing gate is at this end
pub record IsSoundJournal
    {D : Type 0} (disks : DiskWords D) (log : Log D) (end : ℕ) : Type 0 where
  pub journal : IsJournal (rows_of log.entries)
  pub ends : end ≡ length (journal_bytes (rows_of log.entries))
  pub within : end < disks.room log.disk
  pub next : IfSome log.uncertain (IsNext (rows_of log.entries))
  pub images : EachImage disks log.disk (StandsInImage (rows_of log.entries) log.uncertain)
  pub counts : Rises (disks.faults log.opening.disk) log.entries (disks.faults log.disk)

-- an image while these bytes are opened: their closing gate, or then their version byte, may be
-- being written
abbrev pub IsMigrating : List ℕ → List ℕ → Type 0
IsMigrating bytes c =
    (rows : List Row) × SpellsRows bytes rows × MayMigrate bytes (length (journal_bytes rows)) c

-- the reach after an opening of these bytes: as it was, or the end of the closing gate where that
-- isn't 0, or else the end of the version byte where that isn't 1, if that is farther
abbrev pub ReachesGate : List ℕ → ℕ → ℕ → Type 0
ReachesGate bytes before now =
    (now ≡ before)
    ⊎ ((rows : List Row) × SpellsRows bytes rows
    × ReachesWrites (length (journal_bytes rows)) (slice_index bytes (length (journal_bytes rows)))
    (version_byte bytes) before now)

-- An image from the time in which a journal's rows grew from the first list to the last: it spells
-- the first rows and those of the later ones that stood then, or these and one row more; and an
-- opening may meet it.
pub record IsBetween (first last : List Row) (c : List ℕ) : Type 0 where
  pub since : List Row
  pub after : List Row
  pub grows : last ≡ (first ++ since) ++ after
  pub one_more : Option Row
  pub spells : MaySpell (first ++ since) one_more c
  pub opens : MayOpen (first ++ since) c

-- an append of this row failed, and no row was kept behind that fault
pub record EndsInFaultOf (r : Row) (entries : List Entry) : Type 0 where
  pub front : List Entry
  pub from : ℕ
  pub to : ℕ
  pub later : List Entry
  pub fault : entries ≡ front ++ Faulted r from to ∷ later
  pub no_row : rows_of later ≡ []

-- An image from the time behind these entries, while an append of this row may go on: it spells
-- their rows, or these and one more, which is that row, or one whose append failed behind the last
-- of them; and an opening may meet it.
pub record StandsBehind (entries : List Entry) (asked : Option Row) (c : List ℕ) : Type 0 where
  pub one_more : Option Row
  pub owner : IfSome one_more (λ r. (asked ≡ Some r) ⊎ EndsInFaultOf r entries)
  pub spells : MaySpell (rows_of entries) one_more c
  pub opens : MayOpen (rows_of entries) c

-- Entries in turn, from one disk to another, each with the disk as it stood when it was taken down:
-- between one and the next each image stands behind those by then, while the next one's append goes
-- on.
abbrev pub InTurn :
    {D : Type 0} → DiskWords D → List Entry → D → List Entry → List D → D → Type 0
InTurn disks before start [] [] end =
    LeavesOnly disks start end (StandsBehind before None)
InTurn disks before start [] (d ∷ steps) end = ⊥
InTurn disks before start (e ∷ entries) [] end = ⊥
InTurn disks before start (e ∷ entries) (d ∷ steps) end =
    LeavesOnly disks start d (StandsBehind before (Some (row_in e)))
    × InTurn disks (before ++ e ∷ []) d entries steps end

-- the entry is of a session below 64
abbrev pub IsOfSession : Entry → Type 0
IsOfSession e = (0 < entry_number e) × (entry_number e ≤ 64)

-- What holds of each journal since it was opened: it is on the same disk, which wasn't written
-- farther behind the closing gate than the longest row reaches; its entries are those found and
-- more. A gate is uncertain only behind a fault in the append of its row, since then, and no row was
-- kept after that fault. Each image of that time is one that the opening may meet, or spells the
-- rows found and the first of those written since, or these and one row more. Since the opening had
-- ended, its entries came in turn.
pub record IsSinceOpened
    {D : Type 0} (disks : DiskWords D) (log : Log D) : Type 0 where
  pub same : SameDisk disks log.opening.disk log.disk
  pub many : log.opening.found ≤ length log.entries
  pub numbers : Each IsOfSession log.entries
  pub unsure :
      IfSome log.uncertain (λ r. EndsInFaultOf r (drop log.opening.found log.entries))
  pub meanwhile :
      (start : List Row) → IsJournal start
      → EachImage disks log.opening.disk (MayOpen start) → IsTrue (disks.tells log.opening.disk)
      → LeavesOnly disks log.opening.disk log.disk
      (λ c. MayOpen start c ⊎ IsBetween (rows_found log) (rows_of log.entries) c)
  pub in_turn :
      IsTrue (disks.tells log.disk) → InTurn disks (take log.opening.found log.entries) log.start
      (drop log.opening.found log.entries) log.steps log.disk
  pub reaches :
      disks.reach log.disk
      ≤ max (disks.reach log.opening.disk) (length (journal_bytes (rows_of log.entries)) + 4110)

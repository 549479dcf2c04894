-- What bytes spell, they spell alone (own).
use Rattle.std.specs.Prelude.{◌≡◌, ◌⊎◌, ℕ, ◌+◌, ◌<◌, ◌≤◌, List, [], ◌∷◌, ◌++◌}
use Rattle.std.specs.Prelude.{Option, Some, None, length, slice_index}
use Rattle.disk_model.specs.declared.disk.Disk.{Ghosts as DiskWords}
use Rattle.gate_journal.specs.declared.command.Command.{Command}
use Rattle.gate_journal.specs.declared.row.Row.{Row}
use Rattle.gate_journal.specs.declared.entry.Entry.{Entry}
use Rattle.gate_journal.specs.Command.{IsCommand}
use Rattle.gate_journal.specs.declared.fault.JournalFault.{JournalFault}
use Rattle.gate_journal.specs.Rows.{journal_bytes, SpellsRows, IsCorrupt, HasNoHeader}
use Rattle.gate_journal.specs.Rows.{IsJournal, IsNext}
use Rattle.gate_journal.specs.Log.{next_row, row_end, row_in, MayOpen, InTurn, StandsBehind}
use Rattle.gate_journal.specs.Faults.{Explains, IsOfDisk}

-- bytes spell one list of rows
abbrev pub SpellsOneList : Type 0
SpellsOneList = (bytes : List ℕ) (some others : List Row) → SpellsRows bytes some
    → SpellsRows bytes others → some ≡ others

-- bytes that spell rows have no corrupt place
abbrev pub IsNeverBoth : Type 0
IsNeverBoth = (bytes : List ℕ) (rows : List Row) (place : ℕ) → SpellsRows bytes rows
    → IsCorrupt bytes place → ⊥

-- bytes have one corrupt place
abbrev pub HasOnePlace : Type 0
HasOnePlace = (bytes : List ℕ) (place other : ℕ) → IsCorrupt bytes place
    → IsCorrupt bytes other → place ≡ other

-- an append ends at most 4,110 bytes behind the closing gate
abbrev pub EndsWithin : Type 0
EndsWithin = (rows : List Row) (session : ℕ) (command : Command) → IsCommand command
    → row_end (next_row rows session command) ≤ length (journal_bytes rows) + 4110

-- what an opening may meet spells these rows, or these and one more that may stand next
abbrev pub FindsThese : List Row → List ℕ → Type 0
FindsThese rows bytes =
    SpellsRows bytes rows ⊎ ((r : Row) × IsNext rows r × SpellsRows bytes (rows ++ r ∷ []))

-- and it is refused for none of its bytes
abbrev pub FindsRows : Type 0
FindsRows = (rows : List Row) (bytes : List ℕ) → IsJournal rows → MayOpen rows bytes
    → FindsThese rows bytes × ((e : JournalFault) → Explains bytes e → IsOfDisk e)

-- what bytes are to a reader of journals
pub data Reading : Type 0 where
  Rows : List Row → Reading
  CorruptAt : ℕ → Reading
  NoHeader : Reading

abbrev pub IsReading : List ℕ → Reading → Type 0
IsReading bytes (Rows rows) = SpellsRows bytes rows
IsReading bytes (CorruptAt place) = IsCorrupt bytes place
IsReading bytes NoHeader = HasNoHeader bytes

-- bytes have one reading, and no other
abbrev pub HasOneReading : Type 0
HasOneReading = (bytes : List ℕ) → ((i : ℕ) → slice_index bytes i < 256)
    → (reading : Reading) × IsReading bytes reading
    × ((other : Reading) → IsReading bytes other → other ≡ reading)

-- the row of which the next append is
abbrev pub next_asked : List Entry → Option Row
next_asked [] = None
next_asked (e ∷ entries) = Some (row_in e)

-- an image that stands behind these entries and the first of the later ones, while the append of the
-- next one may go on
pub record StandsAmong (before later : List Entry) (c : List ℕ) : Type 0 where
  pub since : List Entry
  pub after : List Entry
  pub all : later ≡ since ++ after
  pub stands : StandsBehind (before ++ since) (next_asked after) c

-- so is each image that a stop may leave since the start of entries that came in turn
abbrev pub StopsInTurn : {D : Type 0} → DiskWords D → Type 0
StopsInTurn {D} disks =
    (before : List Entry) (start end : D) (entries : List Entry) (steps : List D)
    → InTurn disks before start entries steps end
    → (c : List ℕ) → disks.left_since end (disks.moment start) c → StandsAmong before entries c

-- and each that it may leave once an entry was taken down stands behind that entry
abbrev pub KeptFromThen : {D : Type 0} → DiskWords D → Type 0
KeptFromThen {D} disks =
    (before : List Entry) (start end : D) (since : List Entry) (e : Entry) (later : List Entry)
    (first : List D) (then : D) (steps : List D) → length since ≡ length first
    → InTurn disks before start (since ++ e ∷ later) (first ++ then ∷ steps) end
    → (c : List ℕ) → disks.left_since end (disks.moment then) c
    → StandsAmong ((before ++ since) ++ e ∷ []) later c

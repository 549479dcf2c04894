-- Rows of a journal, as its bytes spell them (own: docs/FORMATS.md, "The journal").
use Rattle.std.specs.Prelude.{◌≡◌, ◌≢◌, ◌⊎◌, ℕ, ◌+◌, ◌<◌, ◌≤◌, Bool, true, false, not}
use Rattle.std.specs.Prelude.{if◌then◌else◌, ◌==◌, List, [], ◌∷◌, ◌++◌, length, slice_index}
use Rattle.std.specs.Int.{w16, w32, w64, to_be_bytes}
use Rattle.std.specs.Str.{encode_utf8_all}
use Rattle.turn_cell.specs.History.{Each}
use Rattle.disk_model.specs.Disk.{Holds}
use Rattle.gate_journal.specs.declared.command.Command.{Command}
use Rattle.gate_journal.specs.declared.command.Command.TheVariants.{Open, Line, Char, File, Close}
use Rattle.gate_journal.specs.declared.command.Command.TheVariants.{Size}
use Rattle.gate_journal.specs.declared.row.Row.{Row}
use Rattle.gate_journal.specs.Command.{IsCommand}

-- what a journal begins with: STHJ and 1, the byte that tells its version, and seven zeros
abbrev pub header_with : ℕ → List ℕ
header_with version =
    83 ∷ 84 ∷ 72 ∷ 74 ∷ 0 ∷ 0 ∷ 0 ∷ 1
    ∷ version ∷ 0 ∷ 0 ∷ 0 ∷ 0 ∷ 0 ∷ 0 ∷ 0 ∷ []

-- that byte is 1 in version 2, and anything else in version 1
abbrev pub version_byte : List ℕ → ℕ
version_byte bytes = slice_index bytes 8

-- what a journal of version 2 begins with
abbrev pub journal_header : List ℕ
journal_header = header_with 1

-- a version has rows of this command: those of a SIZE came with version 2
abbrev pub IsInVersion : ℕ → Command → Type 0
IsInVersion version (Size cols rows) = version ≡ 1
IsInVersion version command = Unit {0}

-- it has each of these rows
abbrev pub AreInVersion : ℕ → List Row → Type 0
AreInVersion version rows = Each (λ r. IsInVersion version r.command) rows

-- the number of a command's kind
abbrev pub command_kind : Command → ℕ
command_kind (Open key story digest seed cols rows budget) = 1
command_kind (Line win term text) = 2
command_kind (Char win code) = 3
command_kind (File name) = 4
command_kind Close = 5
command_kind (Size cols rows) = 6

-- what a row carries of its command, numbers big-endian and texts in UTF-8
abbrev pub payload_of : Command → List ℕ
payload_of (Open key story digest seed cols rows budget) =
    length key ∷ key ++ (to_be_bytes w16 story ++ (digest ++ (to_be_bytes w64 seed
    ++ (cols ∷ rows ∷ to_be_bytes w64 budget))))
payload_of (Line win term text) =
    to_be_bytes w32 win ++ (to_be_bytes w32 term ++ encode_utf8_all text)
payload_of (Char win code) = to_be_bytes w32 win ++ to_be_bytes w32 code
payload_of (File name) = encode_utf8_all name
payload_of Close = []
payload_of (Size cols rows) = cols ∷ rows ∷ []

-- a row past its gate: the session, the kind, the payload's length, the payload
abbrev pub row_body : Row → List ℕ
row_body r =
    r.session ∷ command_kind r.command
    ∷ to_be_bytes w16 (length (payload_of r.command)) ++ payload_of r.command

-- rows, each behind an open gate
abbrev pub rows_behind_open_gates : List Row → List ℕ
rows_behind_open_gates [] = []
rows_behind_open_gates (r ∷ rows) = 1 ∷ row_body r ++ rows_behind_open_gates rows

-- a journal of these rows with this version byte, up to its closing gate
abbrev pub journal_front : ℕ → List Row → List ℕ
journal_front version rows = header_with version ++ rows_behind_open_gates rows

-- one of version 2
abbrev pub journal_bytes : List Row → List ℕ
journal_bytes rows = journal_front 1 rows

-- the commands of one session, in their order
abbrev pub commands_of : List Row → ℕ → List Command
commands_of [] session = []
commands_of (r ∷ rows) session =
    if r.session == session then r.command ∷ commands_of rows session
    else commands_of rows session

-- the command closes the session
abbrev pub is_close : Command → Bool
is_close Close = true
is_close command = false

-- the command opens the session
abbrev pub is_open : Command → Bool
is_open (Open key story digest seed cols rows budget) = true
is_open command = false

-- a session is free behind its commands: there is none, or the last one closed it
abbrev pub is_free : List Command → Bool
is_free [] = true
is_free (command ∷ []) = is_close command
is_free (command ∷ next ∷ more) = is_free (next ∷ more)

-- an OPEN comes exactly where the session is free
abbrev pub may_follow : List Command → Command → Bool
may_follow commands command =
    if is_open command then is_free commands else not (is_free commands)

-- a row of this session with this command may stand behind these rows
pub record MayStand (rows : List Row) (session : ℕ) (command : Command) : Type 0 where
  pub below : session < 64
  pub ranges : IsCommand command
  pub follows : may_follow (commands_of rows session) command ≡ true
  pub fewer : length (commands_of rows session) < 8192

-- the row may stand next behind these; its number is that of its session and 1
pub record IsNext (rows : List Row) (r : Row) : Type 0 where
  pub place : r.place ≡ length (journal_bytes rows)
  pub by : r.by ≡ r.session + 1
  pub stands : MayStand rows r.session r.command

-- each of the later rows may stand behind all those before it
abbrev pub EachNext : List Row → List Row → Type 0
EachNext rows [] = Unit {0}
EachNext rows (r ∷ more) = IsNext rows r × EachNext (rows ++ r ∷ []) more

-- rows that a journal may have
abbrev pub IsJournal : List Row → Type 0
IsJournal rows = EachNext [] rows

-- the bytes have a header, these rows of its version behind open gates, and then a gate that isn't
-- open; what follows it doesn't matter
pub record SpellsRows (bytes : List ℕ) (rows : List Row) : Type 0 where
  pub journal : IsJournal rows
  pub versions : AreInVersion (version_byte bytes) rows
  pub front : Holds bytes 0 (journal_front (version_byte bytes) rows)
  pub within : length (journal_bytes rows) < length bytes
  pub closed : slice_index bytes (length (journal_bytes rows)) ≢ 1

-- no row of the bytes' version that may stand behind these stands past the gate at this place
abbrev pub NoRowBehind : List ℕ → ℕ → List Row → Type 0
NoRowBehind bytes place rows =
    (r : Row) → IsNext rows r → IsInVersion (version_byte bytes) r.command
    → Holds bytes (place + 1) (row_body r) → ⊥

-- The bytes have a header and these rows of its version. At the place behind them a gate is
-- missing, or it is open and no row that may stand there follows.
pub record IsCorrupt (bytes : List ℕ) (place : ℕ) : Type 0 where
  pub rows : List Row
  pub journal : IsJournal rows
  pub versions : AreInVersion (version_byte bytes) rows
  pub front : Holds bytes 0 (journal_front (version_byte bytes) rows)
  pub behind : place ≡ length (journal_bytes rows)
  pub gate :
      (length bytes ≤ place) ⊎ ((slice_index bytes place ≡ 1) × NoRowBehind bytes place rows)

-- the first 16 bytes are no header
abbrev pub HasNoHeader : List ℕ → Type 0
HasNoHeader bytes = Holds bytes 0 (header_with (version_byte bytes)) → ⊥

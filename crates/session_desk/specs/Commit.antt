-- A command that a desk commits to a journal (own).
use Rattle.std.specs.Prelude.{◌≡◌, ℕ, List, [], ◌∷◌, ◌++◌, length, Result, Some}
use Rattle.gate_journal.specs.Command.{IsCommand}
use Rattle.gate_journal.specs.Faults.{IsFault}
use Rattle.gate_journal.specs.Log.{Log, rows_of, next_row, SameLog}
use Rattle.gate_journal.specs.Rows.{commands_of, IsJournal, MayStand}
use Rattle.gate_journal.specs.declared.command.Command.{Command}
use Rattle.gate_journal.specs.declared.command.Command.TheVariants as commands
use Rattle.gate_journal.specs.declared.entry.Entry.{Entry as JournalEntry}
use Rattle.gate_journal.specs.declared.entry.Entry.TheVariants.{Kept, Faulted}
use Rattle.gate_journal.specs.declared.row.Row.{Row}
use Rattle.line_words.specs.declared.request.Request.{Request}
use Rattle.line_words.specs.declared.request.Request.TheVariants.{Open, Line, Char, File, Size}
use Rattle.line_words.specs.declared.request.Request.TheVariants.{Last, Close, Watch}
use Rattle.session_desk.specs.declared.refused.Refused.{Refused}
use Rattle.session_desk.specs.declared.refused.Refused.TheVariants.{DiskFault, NoMemory}
use Rattle.session_desk.specs.Opens.{OpensBy}
use Rattle.session_desk.specs.Shared.{GoesOn, history_met, met_by}
use Rattle.session_desk.specs.Turn.{history_in}

-- a journal may keep what the request asks for, whatever digest its story has: the fields are in
-- their ranges
abbrev pub IsInRange : Request → Type 0
IsInRange (Open s key story seed cols rows budget) =
    (digest : List ℕ) → length digest ≡ 32
    → IsCommand (commands.Open key story digest seed cols rows budget)
IsInRange (Line s key n win text term) = IsCommand (commands.Line win term text)
IsInRange (Char s key n win code) = IsCommand (commands.Char win code)
IsInRange (File s key n name) = IsCommand (commands.File name)
IsInRange (Size s key n cols rows) = IsCommand (commands.Size cols rows)
IsInRange (Last s key) = Unit {0}
IsInRange (Close s key n) = Unit {0}
IsInRange (Watch s word from) = Unit {0}

-- the journal has the command behind the last row
abbrev pub Extends : {D : Type 0} → ℕ → Command → Log D → Log D → Type 0
Extends session command old new =
    new.entries ≡ old.entries ++ Kept (next_row (rows_of old.entries) session command) ∷ []

-- what a refusal leaves of the journal: its disk's fault as an entry, with the row that was asked
-- for, or all as before
abbrev pub RefusalLeaves :
    {D : Type 0} → (D → ℕ) → ℕ → Command → Log D → Log D → Refused → Type 0
RefusalLeaves faults session command old new (DiskFault fault) =
    IsFault fault (faults old.disk) (faults new.disk)
    × (new.entries ≡ old.entries
    ++ Faulted (next_row (rows_of old.entries) session command) fault.from fault.to ∷ [])
RefusalLeaves faults session command old new NoMemory = SameLog old new

-- the command may stand next in each journal that has the session's rows which a pass has seen
abbrev pub MayStandNext : List JournalEntry → ℕ → Command → Type 0
MayStandNext seen session command =
    (rows : List Row)
    → IsJournal rows → commands_of rows session ≡ commands_of (rows_of seen) session
    → MayStand rows session command

-- What the write of a command leaves of what the session's pass has seen of the journal: of the
-- session's history and the places of its OPEN rows too.
pub record Writes
    (session : ℕ)
    (command : Command)
    (done : Result ℕ Refused)
    (old new : List JournalEntry) : Type 0 where
  pub journal : GoesOn session (Some command) (met_by done) old new
  pub history :
      history_in new session ≡ history_met (history_in old session) 0 (Some command) (met_by done)
  pub opens : OpensBy session command done old new

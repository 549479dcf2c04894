-- Where the games of a session begin in a journal (own).
use Rattle.std.specs.Prelude.{◌≡◌, ℕ, ◌<◌, Bool, true, false, if◌then◌else◌}
use Rattle.std.specs.Prelude.{List, [], ◌∷◌, ◌++◌, Option, Some, Result, Ok, Err}
use Rattle.std.specs.List.{Contains}
use Rattle.gate_journal.specs.Rows.{is_open}
use Rattle.gate_journal.specs.Log.{rows_of}
use Rattle.gate_journal.specs.declared.command.Command.{Command}
use Rattle.gate_journal.specs.declared.entry.Entry.{Entry as JournalEntry}
use Rattle.line_words.specs.declared.request.Request.{Request}
use Rattle.line_words.specs.declared.request.Request.TheVariants.{Open}
use Rattle.session_saves.specs.Agreement.{opens_of}
use Rattle.session_desk.specs.declared.refused.Refused.{Refused}

-- the row of a command that was committed gave its place, if it was
abbrev pub opens_behind : List ℕ → Command → Result ℕ Refused → List ℕ
opens_behind places command (Ok place) =
    if is_open command then places ++ place ∷ [] else places
opens_behind places command (Err why) = places

-- each of the places is before that row
abbrev pub AreBefore : List ℕ → Result ℕ Refused → Type 0
AreBefore places (Ok place) = (row : ℕ) → Contains places row → row < place
AreBefore places (Err why) = Unit {0}

-- the places of a session's OPEN rows behind a commit, whatever rows other sessions added
pub record OpensBy
    (s : ℕ)
    (command : Command)
    (done : Result ℕ Refused)
    (old new : List JournalEntry) : Type 0 where
  pub opens :
      opens_of (rows_of new) s ≡ opens_behind (opens_of (rows_of old) s) command done
  pub before : AreBefore (opens_of (rows_of old) s) done

-- the request opens its session
abbrev pub is_to_open : Request → Bool
is_to_open (Open s key story seed cols rows budget) = true
is_to_open request = false

-- the place of the last OPEN row behind a commit
abbrev pub row_behind : Option ℕ → Request → Result ℕ Refused → Option ℕ
row_behind place request (Ok row) = if is_to_open request then Some row else place
row_behind place request (Err why) = place

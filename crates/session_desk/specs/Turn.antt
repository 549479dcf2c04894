-- A turn of a session over a journal (own).
use Rattle.std.specs.Prelude.{◌≡◌, ◌⊎◌, ℕ, ◌+◌, ◌==◌, if◌then◌else◌, List, [], ◌∷◌}
use Rattle.std.specs.Prelude.{Option, Some, None}
use Rattle.gate_journal.specs.Log.{next_row}
use Rattle.gate_journal.specs.declared.command.Command.{Command}
use Rattle.gate_journal.specs.declared.row.Row.{Row}
use Rattle.gate_journal.specs.declared.entry.Entry.{Entry as JournalEntry}
use Rattle.gate_journal.specs.declared.entry.Entry.TheVariants.{Kept, Faulted}
use Rattle.line_words.specs.declared.reply.No.TheVariants.{NoMemory}
use Rattle.line_words.specs.declared.reply.Reply.{Reply}
use Rattle.line_words.specs.declared.reply.Reply.TheVariants.{No}
use Rattle.session_core.specs.declared.decision.Decision.{Decision}
use Rattle.session_core.specs.declared.entry.Entry.{Entry}
use Rattle.session_core.specs.declared.entry.Entry.TheVariants as entries
use Rattle.session_core.specs.declared.entry.Outcome.{Outcome}
use Rattle.session_core.specs.declared.entry.Outcome.TheVariants.{Answered, DiskFailed}
use Rattle.session_core.specs.declared.entry.Outcome.TheVariants.{OutOfMemory, Forgotten}
use Rattle.session_desk.specs.declared.turned.Turned.{Turned}
use Rattle.session_desk.specs.Desk.{DeskState}

-- the history of a session in a journal: its rows, and the faults of the disk in its appends; one
-- connection has the one pass 0
abbrev pub history_in : List JournalEntry → ℕ → List Entry
history_in [] s = []
history_in (Kept r ∷ more) s =
    if r.session == s then entries.Accepted 0 r.command ∷ history_in more s
    else history_in more s
history_in (Faulted r from to ∷ more) s =
    if r.by == s + 1 then entries.Faulted 0 from to ∷ history_in more s else history_in more s

-- what a turn adds to the entries of a journal with these rows: the row of the command that the
-- session accepts, or the disk's fault as that row was asked for
abbrev pub entries_added : List Row → ℕ → Option Command → Outcome → List JournalEntry
entries_added rows s accepted OutOfMemory = []
entries_added rows s None outcome = []
entries_added rows s (Some command) Answered = Kept (next_row rows s command) ∷ []
entries_added rows s (Some command) (DiskFailed from to) =
    Faulted (next_row rows s command) from to ∷ []
entries_added rows s (Some command) Forgotten = Kept (next_row rows s command) ∷ []

-- the same desk, but for the world that it holds
abbrev pub IsSameDesk : DeskState → DeskState → Type 0
IsSameDesk old new = new ≡ record old { held = new.held }

-- a turn in which memory ran out before anything was written
abbrev pub out_of_memory : Turned
out_of_memory = record { reply = No NoMemory; outcome = OutOfMemory }

-- a turn that makes the session accept nothing: the session decides so, or memory ran out
abbrev pub AcceptsNothing : Decision → Turned → Type 0
AcceptsNothing decision turned =
    (turned ≡ out_of_memory)
    ⊎ ((decision ≡ record { reply = turned.reply; accepted = None })
    × (turned.outcome ≡ Answered))

-- the turn of a command that was kept: its show, or memory ran out before that could be given
abbrev pub IsShown : Reply → Turned → Type 0
IsShown show turned =
    (turned ≡ record { reply = show; outcome = Answered })
    ⊎ (turned ≡ record { reply = No NoMemory; outcome = Forgotten })

-- What a stop may leave of a session's commands (own).
use Rattle.std.specs.Prelude.{◌≡◌, ◌⊎◌, ℕ, ◌≤◌, List, [], ◌∷◌, ◌++◌, length, Option, Some, None}
use Rattle.gate_journal.specs.declared.command.Command.{Command}
use Rattle.gate_journal.specs.declared.row.Row.{Row}
use Rattle.gate_journal.specs.Rows.{commands_of}
use Rattle.story_run.specs.declared.story.Story.{Story}
use Rattle.session_core.specs.declared.entry.Entry.{Entry}
use Rattle.session_core.specs.declared.entry.Outcome.TheVariants.{Answered, Forgotten}
use Rattle.session_core.specs.Turning.{commands_in, decision_on}
use Rattle.host_world.specs.declared.turn.Phase.{Phase}
use Rattle.host_world.specs.declared.turn.Phase.TheVariants.{Kept, Freed, Ready}
use Rattle.host_world.specs.declared.turn.Turn.{Turn}
use Rattle.host_world.specs.declared.turn.Session.{Session}
use Rattle.host_world.specs.declared.state.JournalHost.{JournalHost}

-- these commands, or these and one more
abbrev pub OneMore : List Command → List Command → Type 0
OneMore commands found =
    (more : List Command) × (length more ≤ 1) × (found ≡ commands ++ more)

-- the rows of a host's journal, or these and the one behind the gate of which nothing is known
abbrev pub RowsOrOneMore : JournalHost → List Row → Type 0
RowsOrOneMore w found =
    (found ≡ w.rows)
    ⊎ ((r : Row) × (w.uncertain ≡ Some r) × (found ≡ w.rows ++ r ∷ []))

-- a command stands behind the gate of which nothing is known, as one of this session
abbrev pub IsUncertain : ℕ → JournalHost → Command → Type 0
IsUncertain s w command =
    (r : Row) × (w.uncertain ≡ Some r) × (r.session ≡ s) × (command ≡ r.command)

abbrev pub command_listed : Option Command → List Command
command_listed None = []
command_listed (Some command) = command ∷ []

module _ (stories : List Story) (budget : ℕ) where
  -- the command of a turn under way whose row is synced and whose entry isn't taken yet
  abbrev pub pending_at : List Command → List ℕ → Phase → List Command
  pending_at commands line Kept = command_listed (decision_on stories budget commands line).accepted
  pending_at commands line Freed =
      command_listed (decision_on stories budget commands line).accepted
  pending_at commands line (Ready Answered) =
      command_listed (decision_on stories budget commands line).accepted
  pending_at commands line (Ready Forgotten) =
      command_listed (decision_on stories budget commands line).accepted
  pending_at commands line phase = []

  abbrev pub pending_of : List Entry → Option Turn → List Command
  pending_of history None = []
  pending_of history (Some t) = pending_at (commands_in history) t.line t.phase

  abbrev pub pending : Session → List Command
  pending x = pending_of x.history x.turn

  -- these rows have a session's commands, or these and the pending one, or these and the one behind
  -- the gate
  abbrev pub KeepsCommands : ℕ → JournalHost → Session → List Row → Type 0
  KeepsCommands s w x rows =
      (commands_of rows s ≡ commands_in x.history)
      ⊎ (commands_of rows s ≡ commands_in x.history ++ pending x)
      ⊎ ((command : Command) × IsUncertain s w command
      × (commands_of rows s ≡ commands_in x.history ++ command ∷ []))

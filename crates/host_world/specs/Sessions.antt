-- Sessions, and how their turns go on (own).
use Rattle.std.specs.Prelude.{ℕ, List, [], ◌∷◌, ◌++◌, map, set, Option, Some, None}
use Rattle.std.specs.List.{range_with_len}
use Rattle.gate_journal.specs.declared.command.Command.{Command}
use Rattle.gate_journal.specs.declared.row.Row.{Row}
use Rattle.gate_journal.specs.Rows.{commands_of}
use Rattle.line_words.specs.declared.reply.Reply.{Reply}
use Rattle.session_core.specs.declared.entry.Entry.{Entry}
use Rattle.session_core.specs.declared.entry.Entry.TheVariants.{Accepted}
use Rattle.session_core.specs.declared.entry.Outcome.{Outcome}
use Rattle.session_core.specs.declared.entry.Outcome.TheVariants.{Answered}
use Rattle.session_core.specs.declared.decision.Decision.{Decision}
use Rattle.session_core.specs.Turning.{Turned}
use Rattle.host_world.specs.declared.turn.Phase.{Phase}
use Rattle.host_world.specs.declared.turn.Phase.TheVariants.{Asked, Taken, Plain}
use Rattle.host_world.specs.declared.turn.Turn.{Turn}
use Rattle.host_world.specs.declared.turn.Session.{Session}

-- the phase of a session's turn
abbrev pub phase_in : Option Turn → Option Phase
phase_in None = None
phase_in (Some t) = Some t.phase

abbrev pub phase_of : Option Session → Option Phase
phase_of None = None
phase_of (Some x) = phase_in x.turn

-- a session whose turn has come to this phase
abbrev pub in_phase : Session → Turn → Phase → Session
in_phase x t phase = record { history = x.history; turn = Some (record t { phase = phase }) }

-- the sessions, where the turn of one goes on to this phase
abbrev pub turn_set : List Session → ℕ → Phase → Session → Option Turn → List Session
turn_set sessions s phase x None = sessions
turn_set sessions s phase x (Some t) = set sessions s (in_phase x t phase)

abbrev pub phase_set : List Session → ℕ → Phase → Option Session → List Session
phase_set sessions s phase None = sessions
phase_set sessions s phase (Some x) = turn_set sessions s phase x x.turn

-- the first phase: where no command would be accepted the reply is ready
abbrev pub first_phase : Reply → Option Command → Phase
first_phase reply None = Plain Answered reply
first_phase reply (Some command) = Asked

-- a session without a turn begins one
abbrev pub asking : Session → ℕ → List ℕ → Decision → Session
asking x pass line decision =
    record {
      history = x.history;
      turn = Some (record {
        pass = pass;
        line = line;
        phase = first_phase decision.reply decision.accepted;
      });
    }

-- the sessions, where one has this turn
abbrev pub session_turn_begun : List Session → ℕ → Turn → Option Session → List Session
session_turn_begun sessions s turn None = sessions
session_turn_begun sessions s turn (Some x) =
    set sessions s (record { history = x.history; turn = Some turn })

-- a history with this entry, if there is one
abbrev pub with_entry : List Entry → Option Entry → List Entry
with_entry history None = history
with_entry history (Some entry) = history ++ entry ∷ []

-- a session that has taken an entry, and whose turn, if it has one, has come to this phase
abbrev pub with_taken : Session → Option Entry → Phase → Option Turn → Session
with_taken x entry phase None = record { history = with_entry x.history entry; turn = None }
with_taken x entry phase (Some t) =
    record {
      history = with_entry x.history entry;
      turn = Some (record t { phase = phase });
    }

-- the sessions, where one has taken an entry
abbrev pub taken_in : List Session → ℕ → Option Entry → Phase → Option Session → List Session
taken_in sessions s entry phase None = sessions
taken_in sessions s entry phase (Some x) = set sessions s (with_taken x entry phase x.turn)

-- its history has taken the entry of its turn
abbrev pub taking : Turn → Outcome → Turned → Session
taking t outcome turned =
    record {
      history = turned.history;
      turn = Some (record t { phase = Taken outcome turned.reply });
    }

-- its turn is over
abbrev pub without_turn : Session → Session
without_turn x = record { history = x.history; turn = None }

-- the reply that is ready, with its entry taken where it has one
abbrev pub ready_reply : Option Phase → Option Reply
ready_reply (Some (Taken outcome reply)) = Some reply
ready_reply (Some (Plain outcome reply)) = Some reply
ready_reply other = None

-- the sessions, where the turn of one is over
abbrev pub turn_ended : List Session → ℕ → Option Session → List Session
turn_ended sessions s None = sessions
turn_ended sessions s (Some x) = set sessions s (without_turn x)

-- the history that an opening makes of the commands in the rows
abbrev pub history_found : List Command → List Entry
history_found [] = []
history_found (command ∷ commands) = Accepted 0 command ∷ history_found commands

-- the 64 sessions that an opening makes of the rows
abbrev pub found_session : List Row → ℕ → Session
found_session rows s = record { history = history_found (commands_of rows s); turn = None }

abbrev pub found_sessions : List Row → List Session
found_sessions rows = map (found_session rows) (range_with_len 0 64)

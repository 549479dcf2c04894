-- What is said to a line: to a spectator the shows of the session, to others what the session
-- decides (own).
use Rattle.std.specs.Prelude.{ℕ, List, Option, Some, None}
use Rattle.gate_journal.specs.declared.command.Command.{Command}
use Rattle.line_words.specs.Request.{request_of}
use Rattle.line_words.specs.declared.request.Request.{Request}
use Rattle.line_words.specs.declared.request.Request.TheVariants.{Watch}
use Rattle.story_run.specs.declared.story.Story.{Story}
use Rattle.story_run.specs.World.{WorldState}
use Rattle.session_core.specs.declared.decision.Decision.{Decision}
use Rattle.session_core.specs.declared.entry.Entry.{Entry}
use Rattle.session_core.specs.declared.entry.Outcome.{Outcome}
use Rattle.session_core.specs.Turning.{commands_in, decision_in, decision_on, Turned, turn_met}
use Rattle.story_watch.specs.Watch.{watch_reply}

-- to a spectator, of a session with these commands, and no command is accepted; to others what was
-- decided
abbrev pub said_to : List Story → List Command → Decision → Option Request → Decision
said_to stories commands decided (Some (Watch s word from)) =
    record { reply = watch_reply stories commands s word from; accepted = None }
said_to stories commands decided request = decided

-- by a session with these commands, whose world is `now`
unfoldable pub said_in : List Story → ℕ → List Command → Option WorldState → List ℕ → Decision
said_in stories budget commands now line =
    said_to stories commands (decision_in stories budget commands now line) (request_of line)

-- by one whose world is its own
unfoldable pub said_on : List Story → ℕ → List Command → List ℕ → Decision
said_on stories budget commands line =
    said_to stories commands (decision_on stories budget commands line) (request_of line)

-- a turn of this decision, by the number of its pass and by what it met
abbrev pub turn_by : List Entry → ℕ → Decision → Outcome → Turned
turn_by history by said outcome = turn_met history by said.reply said.accepted outcome

-- the turn of a line on a history, of a session whose world is `now`
unfoldable pub turn_said_in :
    List Story → ℕ → List Entry → Option WorldState → ℕ → List ℕ → Outcome → Turned
turn_said_in stories budget history now by line outcome =
    turn_by history by (said_in stories budget (commands_in history) now line) outcome

-- and of one whose world is its own
unfoldable pub turn_said_on : List Story → ℕ → List Entry → ℕ → List ℕ → Outcome → Turned
turn_said_on stories budget history by line outcome =
    turn_by history by (said_on stories budget (commands_in history) line) outcome

-- A turn of a session: its reply, and what its history takes (own).
use Rattle.std.specs.Prelude.{◌≡◌, ◌⊎◌, ℕ, if◌then◌else◌, List, [], ◌∷◌, ◌++◌, Option, Some, None}
use Rattle.disk_model.specs.Disk.{Rose}
use Rattle.gate_journal.specs.declared.command.Command.{Command}
use Rattle.line_words.specs.Play.{is_long}
use Rattle.line_words.specs.Request.{request_of}
use Rattle.line_words.specs.declared.request.Request.{Request}
use Rattle.line_words.specs.declared.reply.No.TheVariants.{BadLine, LongLine, DiskFault, NoMemory}
use Rattle.line_words.specs.declared.reply.Reply.{Reply}
use Rattle.line_words.specs.declared.reply.Reply.TheVariants.{No}
use Rattle.story_run.specs.declared.story.Story.{Story}
use Rattle.story_run.specs.World.{WorldState}
use Rattle.session_core.specs.declared.decision.Decision.{Decision}
use Rattle.session_core.specs.declared.entry.Entry.{Entry}
use Rattle.session_core.specs.declared.entry.Entry.TheVariants.{Accepted, Faulted}
use Rattle.session_core.specs.declared.entry.Outcome.{Outcome}
use Rattle.session_core.specs.declared.entry.Outcome.TheVariants.{Answered, DiskFailed}
use Rattle.session_core.specs.declared.entry.Outcome.TheVariants.{OutOfMemory, Forgotten}
use Rattle.session_core.specs.Answer.{answer, answer_in}
use Rattle.session_core.specs.Sessions.{with_budget}

-- the number of the pass that made an entry
abbrev pub entry_by : Entry → ℕ
entry_by (Accepted by command) = by
entry_by (Faulted by from to) = by

-- the history has nothing more, or one entry more, of this number
abbrev pub AddsTo : List Entry → ℕ → List Entry → Type 0
AddsTo before by after =
    (after ≡ before) ⊎ ((e : Entry) × (after ≡ before ++ e ∷ []) × (entry_by e ≡ by))

-- the commands that a history's entries accepted, oldest first
abbrev pub commands_in : List Entry → List Command
commands_in [] = []
commands_in (Accepted by command ∷ entries) = command ∷ commands_in entries
commands_in (Faulted by from to ∷ entries) = commands_in entries

-- the decision on a line, by what it spells and by what is answered to a request
abbrev pub decided_by : (Request → Decision) → List ℕ → Option Request → Decision
decided_by answered line (Some request) = answered request
decided_by answered line None =
    record { reply = No (if is_long line then LongLine else BadLine); accepted = None }

-- what a session with these commands answers to a line, and the command that it accepts
unfoldable pub decision_on : List Story → ℕ → List Command → List ℕ → Decision
decision_on stories budget commands line =
    decided_by (λ request. answer stories commands (with_budget budget request)) line
    (request_of line)

-- the same of a session whose world is `now`
unfoldable pub decision_in :
    List Story → ℕ → List Command → Option WorldState → List ℕ → Decision
decision_in stories budget commands now line =
    decided_by (λ request. answer_in stories commands now (with_budget budget request)) line
    (request_of line)

-- the reply of a turn, and the history behind it
pub record Turned : Type 0 where
  pub reply : Reply
  pub history : List Entry

-- a turn that accepts this command, if any, by what it met
abbrev pub turn_met : List Entry → ℕ → Reply → Option Command → Outcome → Turned
turn_met history by reply accepted OutOfMemory = record { reply = No NoMemory; history = history }
turn_met history by reply None outcome = record { reply = reply; history = history }
turn_met history by reply (Some command) Answered =
    record { reply = reply; history = history ++ Accepted by command ∷ [] }
turn_met history by reply (Some command) (DiskFailed from to) =
    record { reply = No (DiskFault from to); history = history ++ Faulted by from to ∷ [] }
turn_met history by reply (Some command) Forgotten =
    record { reply = No NoMemory; history = history ++ Accepted by command ∷ [] }

-- the turn of a line on a history, by the number of its pass and by what it met
unfoldable pub turn_of : List Story → ℕ → List Entry → ℕ → List ℕ → Outcome → Turned
turn_of stories budget history by line outcome =
    turn_met history by (decision_on stories budget (commands_in history) line).reply
    (decision_on stories budget (commands_in history) line).accepted outcome

-- the same of a session whose world is `now`
unfoldable pub turn_in :
    List Story → ℕ → List Entry → Option WorldState → ℕ → List ℕ → Outcome → Turned
turn_in stories budget history now by line outcome =
    turn_met history by (decision_in stories budget (commands_in history) now line).reply
    (decision_in stories budget (commands_in history) now line).accepted outcome

-- What a turn may meet: where no command is accepted, nothing is written, so no disk fails in it;
-- and where a disk fails its count rises.
abbrev pub MayMeet : Option Command → Outcome → Type 0
MayMeet None Answered = Unit {0}
MayMeet None OutOfMemory = Unit {0}
MayMeet None (DiskFailed from to) = ⊥
MayMeet None Forgotten = ⊥
MayMeet (Some command) Answered = Unit {0}
MayMeet (Some command) OutOfMemory = Unit {0}
MayMeet (Some command) (DiskFailed from to) = Rose from to
MayMeet (Some command) Forgotten = Unit {0}

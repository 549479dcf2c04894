-- The show of a turn.
use Rattle.std.proofs.Common.{List, None, Option, Some, ap, sym, ℕ, ◌∙◌, ◌≡◌}
use Rattle.gate_journal.specs.declared.command.Command.{Command}
use Rattle.line_words.specs.declared.reply.Reply.{Reply}
use Rattle.line_words.specs.declared.reply.Reply.TheVariants.{Show}
use Rattle.story_run.specs.declared.story.Story.{Story}
use Rattle.session_core.specs.declared.decision.Decision.{Decision}
use Rattle.session_core.specs.declared.entry.Entry.{Entry}
use Rattle.session_core.specs.declared.entry.Outcome.{Outcome}
use Rattle.session_core.specs.declared.entry.Outcome.TheVariants.{Answered, DiskFailed, Forgotten}
use Rattle.session_core.specs.declared.entry.Outcome.TheVariants.{OutOfMemory}
use Rattle.host_world.proofs.Folds.{commands-accepted}
use Rattle.line_words.specs.declared.request.Request.{Request}
use Rattle.line_words.specs.declared.reply.No.{No as Refusal}
use Rattle.line_words.specs.Request.{request_of}
use Rattle.session_core.specs.History.{game_of}
use Rattle.session_core.specs.Answer.{answer, decided, history_extended, refusal_of, game_show}
use Rattle.session_core.specs.Sessions.{with_budget}
use Rattle.session_core.specs.Turning.{Turned, commands_in, decided_by, decision_on, turn_met}
use Rattle.session_core.specs.Turning.{turn_of}

-- a decision's show is that of the commands with the accepted one
abbrev IsSolo : List Story → List Command → Decision → Type 0
IsSolo stories cs d =
    (s n : ℕ) (show : List ℕ) → d.reply ≡ Show s n show
    → show ≡ game_show stories (game_of (history_extended cs d.accepted))

decided_solo : (stories : List Story) (cs : List Command) (request : Request)
    (refusal : Option Refusal)
    → IsSolo stories cs (decided stories (game_of cs)
    (λ accepted. game_show stories (game_of (history_extended cs accepted))) request refusal)
decided_solo stories cs request (Some why) s n show is = absurd cc
decided_solo stories cs request None s n show is = sym cc

answer_solo : (stories : List Story) (cs : List Command) (request : Request)
    → IsSolo stories cs (answer stories cs request)
unfolding answer
answer_solo stories cs request =
    decided_solo stories cs request (refusal_of stories cs (game_of cs) request)

read_solo : (stories : List Story) (budget : ℕ) (cs : List Command) (line : List ℕ)
    (read : Option Request)
    → IsSolo stories cs (decided_by (λ request. answer stories cs (with_budget budget request))
    line read)
read_solo stories budget cs line (Some request) =
    answer_solo stories cs (with_budget budget request)
read_solo stories budget cs line None = λ s n show is. absurd cc

decision_solo : (stories : List Story) (budget : ℕ) (cs : List Command) (line : List ℕ)
    → IsSolo stories cs (decision_on stories budget cs line)
unfolding decision_on
decision_solo stories budget cs line = read_solo stories budget cs line (request_of line)

abbrev Alone : List Story → Turned → Type 0
Alone stories t =
    (s n : ℕ) (show : List ℕ) → t.reply ≡ Show s n show
    → show ≡ game_show stories (game_of (commands_in t.history))

-- an accepted command is the history's last one
met_alone :
    (stories : List Story) (h : List Entry) (by : ℕ) (reply : Reply) (accepted : Option Command)
    (outcome : Outcome)
    → IsSolo stories (commands_in h) (record { reply = reply; accepted = accepted })
    → Alone stories (turn_met h by reply accepted outcome)
met_alone stories h by reply accepted OutOfMemory solo s n show is = absurd cc
met_alone stories h by reply None Answered solo s n show is = solo s n show is
met_alone stories h by reply None (DiskFailed from to) solo s n show is = solo s n show is
met_alone stories h by reply None Forgotten solo s n show is = solo s n show is
met_alone stories h by reply (Some command) Answered solo s n show is =
    solo s n show is
    ∙ ap (λ (cs : List Command). game_show stories (game_of cs))
    (sym (commands-accepted h by command))
met_alone stories h by reply (Some command) (DiskFailed from to) solo s n show is = absurd cc
met_alone stories h by reply (Some command) Forgotten solo s n show is = absurd cc

pub shows_alone :
    (stories : List Story) (budget : ℕ) (h : List Entry) (by : ℕ) (line : List ℕ)
    (outcome : Outcome)
    → Alone stories (turn_of stories budget h by line outcome)
unfolding turn_of
shows_alone stories budget h by line outcome =
    met_alone stories h by (decision_on stories budget (commands_in h) line).reply
    (decision_on stories budget (commands_in h) line).accepted outcome
    (decision_solo stories budget (commands_in h) line)

-- A session's replies are its own: the lines of others change nothing of them (own).
use Rattle.std.specs.Prelude.{◌≡◌, ℕ, Bool, false, ◌==◌, if◌then◌else◌, List, []}
use Rattle.std.specs.Prelude.{◌∷◌, filter, length, Option, Some, None}
use Rattle.gate_journal.specs.declared.command.Command.{Command}
use Rattle.line_words.specs.declared.request.Request.{Request}
use Rattle.line_words.specs.declared.reply.Reply.{Reply}
use Rattle.line_words.specs.Request.{request_of}
use Rattle.story_run.specs.declared.story.Story.{Story}
use Rattle.session_core.specs.Checks.{session_of}
use Rattle.session_core.specs.Sessions.{history_of, reply_to, after_line, replies_to}

-- the request names this session
abbrev pub names : ℕ → Option Request → Bool
names s (Some request) = session_of request == s
names s None = false

-- the line spells a request to this session
abbrev pub is_on : ℕ → List ℕ → Bool
is_on s line = names s (request_of line)

-- of the replies to all these lines, those to the lines of one session
abbrev pub replies_on : ℕ → List Story → ℕ → List (List Command) → List (List ℕ)
    → List Reply
replies_on s stories budget histories [] = []
replies_on s stories budget histories (line ∷ lines) =
    if is_on s line
    then reply_to stories budget histories line
    ∷ replies_on s stories budget (after_line stories budget histories line) lines
    else replies_on s stories budget (after_line stories budget histories line) lines

-- two hosts have as many sessions, and the same history of this one
pub record AgreesOnSession (s : ℕ) (histories others : List (List Command)) : Type 0 where
  pub many : length histories ≡ length others
  pub history : history_of histories s ≡ history_of others s

-- Among the lines of many sessions a session gets the replies that it would get with all lines of
-- other sessions left out, whatever these sessions had accepted.
abbrev pub IsIsolated : Type 0
IsIsolated =
    (s : ℕ) (stories : List Story) (budget : ℕ) (histories others : List (List Command))
    (lines : List (List ℕ))
    → AgreesOnSession s histories others
    → replies_on s stories budget histories lines
    ≡ replies_to stories budget others (filter (is_on s) lines)

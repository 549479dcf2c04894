-- Many sessions, each with its history: a line goes to the session that it names (own).
use Rattle.std.specs.Prelude.{ℕ, if◌then◌else◌, List, [], ◌∷◌, ◌++◌, Option, Some}
use Rattle.std.specs.Prelude.{None, slice_index_or, slice_set}
use Rattle.gate_journal.specs.declared.command.Command.{Command}
use Rattle.line_words.specs.declared.request.Request.{Request}
use Rattle.line_words.specs.declared.request.Request.TheVariants.{Open}
use Rattle.line_words.specs.declared.reply.No.TheVariants.{BadLine, LongLine}
use Rattle.line_words.specs.declared.reply.Reply.{Reply}
use Rattle.line_words.specs.declared.reply.Reply.TheVariants.{No}
use Rattle.line_words.specs.Play.{is_long}
use Rattle.line_words.specs.Request.{request_of}
use Rattle.story_run.specs.declared.story.Story.{Story}
use Rattle.session_core.specs.declared.decision.Decision.{Decision}
use Rattle.session_core.specs.Checks.{session_of}
use Rattle.session_core.specs.Answer.{answer}

-- the history of a session; that of a number that is none is empty
abbrev pub history_of : List (List Command) → ℕ → List Command
history_of histories s = slice_index_or histories s []

-- a request to open a session takes the host's budget
abbrev pub with_budget : ℕ → Request → Request
with_budget budget (Open s key story seed cols rows own) = Open s key story seed cols rows budget
with_budget budget request = request

-- what the session of a request answers to it
abbrev pub answer_of : List Story → ℕ → List (List Command) → Request → Decision
answer_of stories budget histories request =
    answer stories (history_of histories (session_of request)) (with_budget budget request)

-- the histories with the command that a session accepted, if any, at the end of its own
abbrev pub accepting : List (List Command) → ℕ → Option Command → List (List Command)
accepting histories s (Some command) =
    slice_set histories s (history_of histories s ++ command ∷ [])
accepting histories s None = histories

-- the reply to a line, by the request that it spells
abbrev pub reply_of : List Story → ℕ → List (List Command) → List ℕ → Option Request
    → Reply
reply_of stories budget histories line (Some request) =
    (answer_of stories budget histories request).reply
reply_of stories budget histories line None = No (if is_long line then LongLine else BadLine)

-- the histories after a line, by the request that it spells
abbrev pub histories_of : List Story → ℕ → List (List Command) → Option Request
    → List (List Command)
histories_of stories budget histories (Some request) =
    accepting histories (session_of request) (answer_of stories budget histories request).accepted
histories_of stories budget histories None = histories

-- the reply to a line, which is given without its LF
abbrev pub reply_to : List Story → ℕ → List (List Command) → List ℕ → Reply
reply_to stories budget histories line =
    reply_of stories budget histories line (request_of line)

-- the histories after a line
abbrev pub after_line : List Story → ℕ → List (List Command) → List ℕ
    → List (List Command)
after_line stories budget histories line =
    histories_of stories budget histories (request_of line)

-- the replies to lines, one after the other
abbrev pub replies_to : List Story → ℕ → List (List Command) → List (List ℕ)
    → List Reply
replies_to stories budget histories [] = []
replies_to stories budget histories (line ∷ lines) =
    reply_to stories budget histories line
    ∷ replies_to stories budget (after_line stories budget histories line) lines

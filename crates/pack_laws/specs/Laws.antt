-- What sessions answer by the rows of a packed journal (own).
use Rattle.std.specs.Prelude.{◌≡◌, ◌⊎◌, ℕ, ◌≤◌, true, false, if◌then◌else◌, List, [], ◌++◌, length}
use Rattle.std.specs.Prelude.{None}
use Rattle.gate_journal.specs.declared.command.Command.{Command}
use Rattle.gate_journal.specs.declared.row.Row.{Row}
use Rattle.gate_journal.specs.Rows.{commands_of, is_free, IsJournal}
use Rattle.journal_pack.specs.Live.{packed}
use Rattle.line_words.specs.declared.request.Request.{Request}
use Rattle.line_words.specs.declared.reply.No.TheVariants as no
use Rattle.line_words.specs.declared.reply.Reply.TheVariants as replies
use Rattle.session_core.specs.Answer.{answer}
use Rattle.session_core.specs.History.{game_of}
use Rattle.session_core.specs.declared.decision.Decision.{Decision}
use Rattle.story_run.specs.declared.story.Story.{Story}

-- of a session in use the game is kept, and of a free one nothing
abbrev pub KeepsGames : Type 0
KeepsGames = (rows : List Row) (s : ℕ) → IsJournal rows
    → commands_of (packed rows) s
    ≡ (if is_free (commands_of rows s) then [] else game_of (commands_of rows s))

-- NO 10: too many commands, and nothing is accepted
abbrev pub full : Decision
full = record { reply = replies.No no.Full; accepted = None }

-- A session in use answers each request alike by both journals' rows, however it goes on behind
-- them; or with so many commands behind those of the old one it is refused for their number.
abbrev pub AnswersInUse : Type 0
AnswersInUse =
    (stories : List Story) (rows : List Row) (s : ℕ) (more : List Command) (request : Request)
    → IsJournal rows → is_free (commands_of rows s) ≡ false
    → (answer stories (commands_of (packed rows) s ++ more) request
    ≡ answer stories (commands_of rows s ++ more) request)
    ⊎ ((8192 ≤ length (commands_of rows s ++ more))
    × (answer stories (commands_of rows s ++ more) request ≡ full))

-- a free one answers each, however it goes on, as one that was never opened before
abbrev pub AnswersAsUnused : Type 0
AnswersAsUnused =
    (stories : List Story) (rows : List Row) (s : ℕ) (more : List Command) (request : Request)
    → IsJournal rows → is_free (commands_of rows s) ≡ true
    → answer stories (commands_of (packed rows) s ++ more) request ≡ answer stories more request

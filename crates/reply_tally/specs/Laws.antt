-- What lets refusals be found among written replies (own).
use Rattle.std.specs.Prelude.{◌≡◌, ℕ, List, filter, map}
use Rattle.std.specs.List.{All}
use Rattle.line_words.specs.Reply.{print_reply}
use Rattle.line_words.specs.declared.reply.Reply.{Reply}
use Rattle.line_talk.specs.Conversation.{texts_joined}
use Rattle.line_talk.specs.Lines.{lines}
use Rattle.story_run.specs.declared.story.Story.{Story}
use Rattle.session_core.specs.Turning.{turn_of}
use Rattle.session_core.specs.declared.entry.Entry.{Entry}
use Rattle.session_core.specs.declared.entry.Outcome.{Outcome}
use Rattle.reply_tally.specs.ShowLines.{HasShowLines}
use Rattle.reply_tally.specs.Refusals.{refusals_in, line_of_no, begins_refusal}

-- The reply of any turn of a session, on any history, has show lines where it is a show.
abbrev pub ShowsHaveShowLines : Type 0
ShowsHaveShowLines =
    (stories : List Story) (budget by : ℕ) (history : List Entry) (line : List ℕ)
    (outcome : Outcome) → HasShowLines (turn_of stories budget history by line outcome).reply

-- Of the lines of replies, written one behind the other, those that begin with `NO ` are the lines
-- of the refusals, in their order.
abbrev pub RefusalsAreFound : Type 0
RefusalsAreFound =
    (replies : List Reply) → All HasShowLines replies
    → filter begins_refusal (lines (texts_joined (map print_reply replies)))
    ≡ map line_of_no (refusals_in replies)

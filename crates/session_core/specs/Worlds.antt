-- A session whose world is the one of its game answers as one that is played from the start (own).
use Rattle.std.specs.Prelude.{◌≡◌, ℕ, List}
use Rattle.gate_journal.specs.declared.command.Command.{Command}
use Rattle.line_words.specs.declared.request.Request.{Request}
use Rattle.story_run.specs.declared.story.Story.{Story}
use Rattle.session_core.specs.declared.entry.Entry.{Entry}
use Rattle.session_core.specs.declared.entry.Outcome.{Outcome}
use Rattle.session_core.specs.Answer.{answer, answer_in}
use Rattle.session_core.specs.History.{game_of, world_of}
use Rattle.session_core.specs.Turning.{commands_in, decision_in, decision_on, turn_in, turn_of}

-- the same answer to each request
abbrev pub AnswersAlike : Type 0
AnswersAlike =
    (stories : List Story) (history : List Command) (request : Request)
    → answer_in stories history (world_of stories (game_of history)) request
    ≡ answer stories history request

-- the same decision on each line
abbrev pub DecidesAlike : Type 0
DecidesAlike =
    (stories : List Story) (budget : ℕ) (history : List Command) (line : List ℕ)
    → decision_in stories budget history (world_of stories (game_of history)) line
    ≡ decision_on stories budget history line

-- and the same turn
abbrev pub TurnsAlike : Type 0
TurnsAlike =
    (stories : List Story) (budget : ℕ) (history : List Entry) (by : ℕ) (line : List ℕ)
    (outcome : Outcome)
    → turn_in stories budget history (world_of stories (game_of (commands_in history))) by line
    outcome
    ≡ turn_of stories budget history by line outcome

-- What stands in a transcript is what players were shown (own).
use Rattle.std.specs.Prelude.{◌≡◌, ℕ, ◌+◌, List, [], ◌∷◌, ◌++◌, take, slice_get, Some}
use Rattle.gate_journal.specs.Rows.{commands_of}
use Rattle.gate_journal.specs.declared.command.Command.{Command}
use Rattle.gate_journal.specs.declared.row.Row.{Row}
use Rattle.line_words.specs.declared.reply.Reply.{Reply}
use Rattle.line_words.specs.declared.request.Request.{Request}
use Rattle.session_core.specs.Answer.{answer}
use Rattle.session_core.specs.Checks.{session_of}
use Rattle.session_core.specs.History.{game_of}
use Rattle.story_run.specs.declared.story.Story.{Story}
use Rattle.story_replay.specs.Games.{games_in}
use Rattle.story_replay.specs.Text.{shown}
use Rattle.story_replay.specs.declared.game.Game.{Game}

-- the reply is the show of a game of the session: the show behind the last of these commands, with
-- which the game begins
pub record StandsIn (stories : List Story) (rows : List Row) (session : ℕ)
    (commands : List Command) (reply : Reply) : Type 0 where
  pub at : ℕ
  pub game : Game
  pub stands : slice_get (games_in session rows) at ≡ Some game
  pub number : ℕ
  pub begins : take (number + 1) game.commands ≡ commands
  pub shows : reply ≡ shown stories game number

-- The reply to a request whose command a session accepts, as the journal's next row, is a show of
-- the session's game in the transcript of the journal, whatever rows come later.
abbrev pub HoldsEachShow : Type 0
HoldsEachShow =
    (stories : List Story) (before after : List Row) (r : Row) (request : Request)
    → session_of request ≡ r.session
    → (answer stories (commands_of before r.session) request).accepted ≡ Some r.command
    → StandsIn stories (before ++ r ∷ after) r.session
    (game_of (commands_of before r.session ++ r.command ∷ []))
    (answer stories (commands_of before r.session) request).reply

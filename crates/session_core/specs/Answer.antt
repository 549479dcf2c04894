-- The reply to a request, and the command that it makes a session accept (own).
use Rattle.std.specs.Prelude.{ℕ, ◌+◌, Bool, true, false, if◌then◌else◌, List, [], ◌∷◌, ◌++◌}
use Rattle.std.specs.Prelude.{take, Option, Some, None, codes}
use Rattle.story_text.specs.declared.input.Input.{Input}
use Rattle.gate_journal.specs.declared.command.Command.{Command}
use Rattle.gate_journal.specs.declared.command.Command.TheVariants as commands
use Rattle.line_words.specs.declared.request.Request.{Request}
use Rattle.line_words.specs.declared.request.Request.TheVariants.{Open, Line, Char, File, Size}
use Rattle.line_words.specs.declared.request.Request.TheVariants.{Last, Close, Watch}
use Rattle.line_words.specs.declared.reply.No.{No}
use Rattle.line_words.specs.declared.reply.No.TheVariants as no
use Rattle.line_words.specs.declared.reply.Reply.{Reply}
use Rattle.line_words.specs.declared.reply.Reply.TheVariants as replies
use Rattle.story_run.specs.declared.story.Story.{Story}
use Rattle.story_run.specs.World.{WorldState}
use Rattle.story_run.specs.Solo.{last_lines}
use Rattle.session_core.specs.declared.decision.Decision.{Decision}
use Rattle.session_core.specs.History.{game_of, command_count, input_of, is_in_use, turned_on}
use Rattle.session_core.specs.History.{world_of}
use Rattle.session_core.specs.Checks.{session_of, command_of, is_fresh, is_watch, is_absent}
use Rattle.session_core.specs.Checks.{is_taken, is_story_missing, is_changed, is_early}
use Rattle.session_core.specs.Checks.{is_different, is_ahead, comes_late, is_unwanted, is_full}
use Rattle.session_core.specs.Checks.{over_in, unwanted_in}

-- the first refusal whose check holds
abbrev pub first_refusal : List (Bool × No) → Option No
first_refusal [] = None
first_refusal ((holds, why) ∷ more) = if holds then Some why else first_refusal more

-- the checks that need no world, in their order
abbrev pub plain_checks : List Story → List Command → Request → List (Bool × No)
plain_checks stories game request =
    (is_watch request, no.BadLine)
    ∷ (is_absent game request, no.NoSession)
    ∷ (is_taken game request, no.InUse)
    ∷ (is_story_missing stories game request, no.NoStory)
    ∷ (is_changed stories game request, no.Changed)
    ∷ (is_early game request, no.Stale (command_count game))
    ∷ (is_different game request, no.Other)
    ∷ (is_ahead game request, no.Early (command_count game))
    ∷ []

-- those by the session's world, behind them
abbrev pub story_checks :
    Option WorldState → List Story → List Command → Request → List (Bool × No)
story_checks now stories game request =
    (comes_late now stories game request, no.Over)
    ∷ (is_unwanted now stories game request, no.Unwanted)
    ∷ []

-- why the story of this world doesn't take a new input: it is over, or doesn't wait for that one
abbrev pub declines : Option WorldState → Option Input → Option No
declines now input =
    first_refusal ((over_in now input, no.Over) ∷ (unwanted_in now input, no.Unwanted) ∷ [])

-- all checks in their order
abbrev pub checks :
    Option WorldState → List Story → List Command → List Command → Request
    → List (Bool × No)
checks now stories history game request =
    plain_checks stories game request
    ++ (story_checks now stories game request ++ (is_full history game request, no.Full) ∷ [])

-- why a session whose world is `now` refuses a request, if it does
unfoldable pub refusal_in :
    Option WorldState → List Story → List Command → List Command → Request → Option No
refusal_in now stories history game request =
    first_refusal (checks now stories history game request)

-- the same, by the world that the game has come to
unfoldable pub refusal_of : List Story → List Command → List Command → Request → Option No
refusal_of stories history game request =
    refusal_in (world_of stories game) stories history game request

-- the command that is accepted where the request isn't refused
unfoldable pub accepted_by : List Story → List Command → Request → Option Command
accepted_by stories game request =
    if is_fresh game request then command_of stories request else None

-- a history with the accepted command at its end
abbrev pub history_extended : List Command → Option Command → List Command
history_extended history (Some command) = history ++ command ∷ []
history_extended history None = history

-- what a world shows
abbrev pub show_in : Option WorldState → List ℕ
show_in (Some world) = last_lines world
show_in None = []

-- the show of a session: what its world shows while it is in use, then the line of a session that
-- was closed
abbrev pub show_while : Bool → Option WorldState → List ℕ
show_while true now = show_in now
show_while false now = codes "E closed" ++ 10 ∷ []

-- the show of a game, by the world that it has come to
unfoldable pub game_show : List Story → List Command → List ℕ
game_show stories game = show_while (is_in_use game) (world_of stories game)

-- the n-th show of a game, by its story run alone: the opening has the number 0
abbrev pub solo_show : List Story → List Command → ℕ → List ℕ
solo_show stories game n = show_in (world_of stories (take (n + 1) game))

-- a session's world, if there is one, after what a command gives its story
abbrev pub turned_in : Option WorldState → Option Input → Option WorldState
turned_in (Some world) input = Some (turned_on world input)
turned_in None input = None

-- the world that a session comes to with an accepted command: OPEN begins its story, CLOSE leaves
-- none, an input turns the world
abbrev pub world_with : List Story → Option WorldState → Command → Option WorldState
world_with stories now (commands.Open key story digest seed cols rows budget) =
    world_of stories (commands.Open key story digest seed cols rows budget ∷ [])
world_with stories now commands.Close = None
world_with stories now command = turned_in now (input_of command)

-- the same with the accepted command, if there is one
abbrev pub world_then : List Story → Option WorldState → Option Command → Option WorldState
world_then stories now None = now
world_then stories now (Some command) = world_with stories now command

-- the show that a session then has, by its world and the accepted command, if any
abbrev pub show_with :
    List Story → List Command → Option WorldState → Option Command → List ℕ
show_with stories history now accepted =
    show_while (is_in_use (game_of (history_extended history accepted)))
    (world_then stories now accepted)

-- the number in a show: 0 for OPEN, that of the last command for LAST, else the request's own
abbrev pub shown_number : List Command → Request → ℕ
shown_number game (Open s key story seed cols rows budget) = 0
shown_number game (Line s key n win text term) = n
shown_number game (Char s key n win code) = n
shown_number game (File s key n name) = n
shown_number game (Size s key n cols rows) = n
shown_number game (Last s key) = command_count game
shown_number game (Close s key n) = n
shown_number game (Watch s word from) = from

-- the reply to a request that isn't refused
abbrev pub show_reply : List Command → List ℕ → Request → Reply
show_reply game show request =
    replies.Show (session_of request) (shown_number game request) show

-- the reply and the accepted command, by the show that the session then has and by the refusal, if
-- there is one
abbrev pub decided :
    List Story → List Command → (Option Command → List ℕ) → Request → Option No
    → Decision
decided stories game show request (Some why) =
    record { reply = replies.No why; accepted = None }
decided stories game show request None =
    record {
      reply = show_reply game (show (accepted_by stories game request)) request;
      accepted = accepted_by stories game request;
    }

-- what a session with this history answers to a request, and the command that it accepts
unfoldable pub answer : List Story → List Command → Request → Decision
answer stories history request =
    decided stories (game_of history)
    (λ accepted. game_show stories (game_of (history_extended history accepted))) request
    (refusal_of stories history (game_of history) request)

-- the same of a session whose world is `now`, whatever its history is
unfoldable pub answer_in :
    List Story → List Command → Option WorldState → Request → Decision
answer_in stories history now request =
    decided stories (game_of history) (show_with stories history now) request
    (refusal_in now stories history (game_of history) request)

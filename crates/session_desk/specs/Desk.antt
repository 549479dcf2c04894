-- A desk: one session with its commands, and the world that it keeps warm (own).
use Rattle.std.specs.Prelude.{◌≡◌, ℕ, ◌<◌, ◌≤◌, Bool, true, false, ◌&&◌, if◌then◌else◌, IsTrue}
use Rattle.std.specs.Prelude.{List, [], ◌∷◌, ◌++◌, length, drop, Option, Some, None, is_none}
use Rattle.gate_journal.specs.declared.command.Command.{Command}
use Rattle.gate_journal.specs.declared.command.Command.TheVariants as commands
use Rattle.line_words.specs.declared.request.Request.{Request}
use Rattle.line_words.specs.declared.reply.Reply.{Reply}
use Rattle.line_words.specs.declared.reply.Reply.TheVariants as replies
use Rattle.story_run.specs.declared.story.Story.{Story}
use Rattle.story_run.specs.World.{WorldState}
use Rattle.session_core.specs.History.{game_of, is_in_use, last_of, turned_on, world_of}
use Rattle.session_core.specs.Checks.{input_given, session_of}
use Rattle.session_core.specs.Answer.{show_while, shown_number}
use Rattle.session_desk.specs.declared.held.Held.{Held}
use Rattle.session_desk.specs.declared.held.Held.TheVariants.{Nothing, Current, Previous}

-- the session's number, the stories, the budget of a turn in ticks, the commands that the session
-- accepted, oldest first, and the world that is held of it
pub record DeskState : Type 0 where
  pub session : ℕ
  pub stories : List Story
  pub budget : ℕ
  pub commands : List Command
  pub held : Held

-- a desk with these commands that holds no world
abbrev pub cold_desk : ℕ → List Story → ℕ → List Command → DeskState
cold_desk session stories budget commands = record {
  session = session;
  stories = stories;
  budget = budget;
  commands = commands;
  held = Nothing;
}

-- the session's last OPEN and the commands since
abbrev pub game : DeskState → List Command
game desk = game_of desk.commands

-- the world of the session as it is now, if that is held
abbrev pub world_now : Held → Option WorldState
world_now Nothing = None
world_now (Current world) = Some world
world_now (Previous world) = None

-- the desk is cold: its session is in use, and its world isn't held
abbrev pub is_cold : DeskState → Bool
is_cold desk = is_in_use (game desk) && is_none (world_now desk.held)

-- a world is held only while the session is in use
abbrev pub IsHeldInUse : List Command → Held → Type 0
IsHeldInUse game Nothing = Unit {0}
IsHeldInUse game (Current world) = IsTrue (is_in_use game)
IsHeldInUse game (Previous world) = IsTrue (is_in_use game)

-- what holds of every desk
pub record IsDesk (desk : DeskState) : Type 0 where
  pub numbered : desk.session < 64
  pub within : length desk.commands ≤ 8192
  pub in_use : IsHeldInUse (game desk) desk.held

-- The world that is held is the session's own: the one that the game has come to, or the one that
-- its last command turns into that.
abbrev pub HoldsOwnWorld : List Story → List Command → Held → Type 0
HoldsOwnWorld stories game Nothing = Unit {0}
HoldsOwnWorld stories game (Current world) = world_of stories game ≡ Some world
HoldsOwnWorld stories game (Previous world) =
    world_of stories game ≡ Some (turned_on world (input_given (last_of game)))

-- the last game begins at this place, or at the end where there is none
abbrev pub BeginsAt : ℕ → List Command → Type 0
BeginsAt place commands = (place ≤ length commands) × (drop place commands ≡ game_of commands)

-- this world is held, if there is one
abbrev pub world_held : Option WorldState → Held
world_held (Some world) = Current world
world_held None = Nothing

-- what is held of a session that was just opened: the world with which its story begins
abbrev pub held_of : List Story → List Command → Held
held_of stories game = if is_in_use game then world_held (world_of stories game) else Nothing

-- what is held once the last command was run
abbrev pub held_then : List Story → List Command → Held → Held
held_then stories game Nothing = held_of stories game
held_then stories game (Current world) = Current world
held_then stories game (Previous world) = Current (turned_on world (input_given (last_of game)))

-- the desk once its last command was run
abbrev pub ran : DeskState → DeskState
ran desk = record desk { held = held_then desk.stories (game desk) desk.held }

-- the desk made warm with this world
abbrev pub warmed : DeskState → WorldState → DeskState
warmed desk world = record desk { held = Current world }

-- the desk without a world
abbrev pub desk_emptied : DeskState → DeskState
desk_emptied desk = record desk { held = Nothing }

-- what is set aside of a world as a command comes: the world that it turns, unless the command
-- opens or closes the session
abbrev pub aside : Command → Held → Held
aside (commands.Open key story digest seed cols rows budget) held = Nothing
aside commands.Close held = Nothing
aside command Nothing = Nothing
aside command (Current world) = Previous world
aside command (Previous world) = Nothing

-- the desk with one command more
abbrev pub committed : DeskState → Command → DeskState
committed desk command = record desk {
  commands = desk.commands ++ command ∷ [];
  held = aside command desk.held;
}

-- the command opens or closes the session
abbrev pub changes_use : Option Command → Bool
changes_use (Some (commands.Open key story digest seed cols rows budget)) = true
changes_use (Some commands.Close) = true
changes_use _ = false

-- the last command hasn't been run: the world that it turns is set aside, or there is none, as it
-- opened or closed the session
abbrev pub is_to_run : Held → Option Command → Bool
is_to_run (Previous world) last = true
is_to_run (Current world) last = false
is_to_run Nothing last = changes_use last

-- the show of a session with this game and world; nothing was shown before the first OPEN
abbrev pub show_at : List Command → Option WorldState → List ℕ
show_at [] now = []
show_at (command ∷ after) now = show_while (is_in_use (command ∷ after)) now

-- the last show of the session
abbrev pub last_show : DeskState → List ℕ
last_show desk = show_at (game desk) (world_now desk.held)

-- the reply that gives a request the last show
abbrev pub shown_to : DeskState → Request → Reply
shown_to desk request =
    replies.Show (session_of request) (shown_number (game desk) request) (last_show desk)

-- A session's history: the commands that its number ever accepted, oldest first (own).
use Rattle.std.specs.Prelude.{ℕ, ◌-◌, nat_lt, Bool, true, false, if◌then◌else◌, List}
use Rattle.std.specs.Prelude.{[], ◌∷◌, length, slice_get, Option, Some, None}
use Rattle.std.specs.List.{filter_map}
use Rattle.std.specs.Str.{bytes_eq}
use Rattle.story_text.specs.declared.input.Input.{Input}
use Rattle.story_text.specs.declared.input.Input.TheVariants as inputs
use Rattle.gate_journal.specs.Rows.{is_open}
use Rattle.gate_journal.specs.declared.command.Command.{Command}
use Rattle.gate_journal.specs.declared.command.Command.TheVariants.{Open, Line, Char, File, Close}
use Rattle.gate_journal.specs.declared.command.Command.TheVariants.{Size}
use Rattle.story_run.specs.declared.setup.Setup.{Setup}
use Rattle.story_run.specs.declared.story.Story.{Story}
use Rattle.story_run.specs.World.{WorldState}
use Rattle.story_run.specs.Solo.{world_after_input, world_after}

-- the story of a number; numbers are below 65,536
abbrev pub story_at : List Story → ℕ → Option Story
story_at stories number = if nat_lt number 65536 then slice_get stories number else None

-- the later part, or the earlier one where that is empty
abbrev pub later : List Command → List Command → List Command
later earlier [] = earlier
later earlier (command ∷ commands) = command ∷ commands

-- a session's game: its last OPEN and the commands accepted since, or nothing before the first OPEN
abbrev pub game_of : List Command → List Command
game_of [] = []
game_of (command ∷ commands) =
    later (if is_open command then command ∷ commands else []) (game_of commands)

-- how many commands were accepted since the OPEN, not counting it
abbrev pub command_count : List Command → ℕ
command_count game = length game - 1

-- the last command of a game
abbrev pub last_of : List Command → Option Command
last_of game = slice_get game (length game - 1)

-- a game goes on until its last command is CLOSE
abbrev pub game_goes_on : Option Command → Bool
game_goes_on None = false
game_goes_on (Some Close) = false
game_goes_on (Some command) = true

-- the session is in use; else it is free
abbrev pub is_in_use : List Command → Bool
is_in_use game = game_goes_on (last_of game)

-- the game was opened with this key
abbrev pub has_key : List Command → List ℕ → Bool
has_key (Open key story digest seed cols rows budget ∷ after) other = bytes_eq key other
has_key _ other = false

-- what a command gives the story
abbrev pub input_of : Command → Option Input
input_of (Line win term text) = Some (inputs.Line win text term)
input_of (Char win code) = Some (inputs.Char win code)
input_of (File name) = Some (inputs.File name)
input_of (Size cols rows) = Some (inputs.Size cols rows)
input_of (Open key story digest seed cols rows budget) = None
input_of Close = None

-- the world after what a command gives the story, if it gives anything
abbrev pub turned_on : WorldState → Option Input → WorldState
turned_on world (Some input) = world_after_input world input
turned_on world None = world

-- the world of a story after the inputs of these commands
abbrev pub world_in : Option Story → Setup → List Command → Option WorldState
world_in (Some story) setup after = Some (world_after story.image setup (filter_map input_of after))
world_in None setup after = None

-- the world that a game has come to: that of its story, run alone from the OPEN's seed, screen and
-- budget on the inputs accepted since; none where the story isn't there
abbrev pub world_of : List Story → List Command → Option WorldState
world_of stories (Open key story digest seed cols rows budget ∷ after) =
    world_in (story_at stories story)
    (record { seed = seed; cols = cols; rows = rows; budget = budget }) after
world_of stories _ = None

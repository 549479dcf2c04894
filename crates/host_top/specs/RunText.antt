-- The output of `run`, which plays one story alone (own).
use Rattle.std.specs.Prelude.{ℕ, if◌then◌else◌, List, ◌++◌, Option, None, Some, codes}
use Rattle.story_text.specs.declared.input.Input.{Input}
use Rattle.line_words.specs.Play.{play_of}
use Rattle.story_run.specs.Solo.{opening, is_wanted, world_after_input, is_over, last_lines}
use Rattle.story_run.specs.World.{WorldState}
use Rattle.story_run.specs.declared.setup.Setup.{Setup}
use Rattle.story_run.specs.declared.story.Story.{Story}
use Rattle.host_top.specs.Plain.{Answering, replies, state_after_lines}

-- a story that is played alone: seed 1, a screen of 80 by 24
abbrev pub setup_alone : ℕ → Setup
setup_alone budget = record { seed = 1; cols = 80; rows = 24; budget = budget }

-- a show, and the line that ends it
abbrev pub show_text : WorldState → List ℕ
show_text world = last_lines world ++ codes ".\n"

-- the reply to an input: the show of its turn where the story waits for it
abbrev pub input_reply : WorldState → Input → List ℕ
input_reply world input = if is_wanted world input then show_text (world_after_input world input)
    else codes "NO 8\n"

-- the reply to what a line spells; one that spells nothing gets NO 1
abbrev pub play_reply : WorldState → Option Input → List ℕ
play_reply world None = codes "NO 1\n"
play_reply world (Some input) = input_reply world input

-- the reply to a line; one that was dropped gets NO 14
abbrev pub line_reply : WorldState → Option (List ℕ) → List ℕ
line_reply world None = codes "NO 14\n"
line_reply world (Some line) = play_reply world (play_of line)

-- the world after an input; one that isn't wanted leaves it
abbrev pub input_next : WorldState → Input → WorldState
input_next world input = if is_wanted world input then world_after_input world input else world

-- the world after what a line spells
abbrev pub play_next : WorldState → Option Input → WorldState
play_next world None = world
play_next world (Some input) = input_next world input

-- the world after a line
abbrev pub line_next : WorldState → Option (List ℕ) → WorldState
line_next world None = world
line_next world (Some line) = play_next world (play_of line)

-- how `run` answers lines: none once the story is over
abbrev pub solo : Answering WorldState
solo = record { is_over = is_over; reply = line_reply; next = line_next }

-- the world of a story after its opening turn, where it is played alone
abbrev pub world_after_opening : Story → ℕ → WorldState
world_after_opening story budget = opening story.image (setup_alone budget)

-- the output of `run` for the lines of its player: the opening show, and then the replies
abbrev pub run_text : Story → ℕ → List (List ℕ) → List ℕ
run_text story budget lines =
    show_text (world_after_opening story budget)
    ++ replies solo (world_after_opening story budget) lines

-- the world after the lines of its player
abbrev pub run_world : Story → ℕ → List (List ℕ) → WorldState
run_world story budget lines = state_after_lines solo (world_after_opening story budget) lines

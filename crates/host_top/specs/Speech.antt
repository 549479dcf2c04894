-- What each command does (own).
use Rattle.std.specs.Prelude.{ℕ, List, [], slice_get, Bool, true, false, Option, None, Some}
use Rattle.std.specs.Prelude.{Result, Ok, Err}
use Rattle.host_drill.specs.Drill.{drill_text}
use Rattle.story_run.specs.Solo.{is_over}
use Rattle.story_run.specs.declared.story.Story.{Story}
use Rattle.host_top.specs.CheckText.{good_line}
use Rattle.host_top.specs.Headline.{Speech}
use Rattle.command_words.specs.Help.{help_text, version_text}
use Rattle.host_top.specs.RunText.{run_text, run_world}
use Rattle.host_top.specs.StoryFile.{bad_line}
use Rattle.host_top.specs.declared.stories.Refusal.{Refusal}
use Rattle.command_words.specs.declared.words.Action.{Action}
use Rattle.command_words.specs.declared.words.Action.TheVariants.{Run, Check, Pipe, Init, Help}
use Rattle.command_words.specs.declared.words.Action.TheVariants.{Serve, Replay, Pack, Drill}
use Rattle.command_words.specs.declared.words.Action.TheVariants.{Version}
use Rattle.command_words.specs.declared.words.Serving.{Serving}
use Rattle.host_top.specs.declared.door_call.DoorCall.{DoorCall}

-- one text, whatever the input
abbrev pub said_once : List ℕ → Speech
said_once text = record { text = λ lines. text; is_over = λ lines. true }

-- `run` plays its one story, until that is over
abbrev pub run_speech : Option Story → ℕ → Speech
run_speech None budget = said_once []
run_speech (Some story) budget =
    record {
      text = run_text story budget;
      is_over = λ lines. is_over (run_world story budget lines);
    }

-- `check` tells what the header of its one story says
abbrev pub check_speech : Option Story → Speech
check_speech None = said_once []
check_speech (Some story) = said_once (good_line story.image)

-- the call for a door, where links are served so
abbrev pub door_call : Serving → DoorCall
door_call serving = record { port = serving.port; links = serving.links }

-- what a command does: it says a text, serves these stories with this budget from a folder to its
-- input, or to the links of a door, or makes the stores of a folder and begins its journal, or says
-- what the players of a folder were shown, or packs the journal of a folder into that of another
pub data Task : Type 0 where
  Says : Speech → Task
  Serves : List Story → ℕ → List ℕ → Task
  ServesLinks : List Story → ℕ → List ℕ → Serving → Task
  Begins : List ℕ → Task
  Replays : List Story → List ℕ → Task
  PacksFrom : List ℕ → List ℕ → Task

-- what a command does over its stories, with a budget, on a folder, and from it into another one
abbrev pub task_of : Action → List Story → ℕ → List ℕ → List ℕ → Task
task_of Run stories budget folder into = Says (run_speech (slice_get stories 0) budget)
task_of Check stories budget folder into = Says (check_speech (slice_get stories 0))
task_of Pipe stories budget folder into = Serves stories budget folder
task_of (Serve serving) stories budget folder into = ServesLinks stories budget folder serving
task_of Init stories budget folder into = Begins folder
task_of Replay stories budget folder into = Replays stories folder
task_of Pack stories budget folder into = PacksFrom folder into
task_of (Drill number) stories budget folder into = Says (said_once (drill_text number))
task_of (Help topic) stories budget folder into = Says (said_once (help_text topic))
task_of Version stories budget folder into = Says (said_once version_text)

-- it writes one text, whatever the input
abbrev pub writes_once : Action → Bool
writes_once Run = false
writes_once Check = true
writes_once Init = true
writes_once Pipe = false
writes_once (Serve serving) = false
writes_once Replay = false
writes_once Pack = true
writes_once (Drill number) = true
writes_once (Help topic) = true
writes_once Version = true

-- or the line by which a story is refused
abbrev pub tasked :
    Action → Result (List Story) Refusal → ℕ → List ℕ → List ℕ → Result Task (List ℕ)
tasked action (Ok stories) budget folder into = Ok (task_of action stories budget folder into)
tasked action (Err refusal) budget folder into = Err (bad_line refusal.story refusal.fault)

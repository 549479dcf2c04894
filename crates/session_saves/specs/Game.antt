-- A session's game: its inputs, and the world that it had come to after so many of them (own).
use Rattle.std.specs.Prelude.{ℕ, List, ◌∷◌, take, drop, Option, Some, None}
use Rattle.std.specs.List.{filter_map}
use Rattle.story_text.specs.declared.input.Input.{Input}
use Rattle.gate_journal.specs.declared.command.Command.{Command}
use Rattle.gate_journal.specs.declared.command.Command.TheVariants.{Open}
use Rattle.story_run.specs.declared.setup.Setup.{Setup}
use Rattle.story_run.specs.declared.story.Story.{Story}
use Rattle.story_run.specs.World.{WorldState}
use Rattle.story_run.specs.Solo.{world_after}
use Rattle.session_core.specs.History.{input_of, story_at}
use Rattle.session_core.specs.Turns.{turns_by}

-- the inputs since the OPEN
abbrev pub inputs_of : List Command → List Input
inputs_of game = filter_map input_of game

-- the story that the OPEN names, where it is there
abbrev pub opened_story : List Story → List Command → Option Story
opened_story stories (Open key story digest seed cols rows budget ∷ after) = story_at stories story
opened_story stories _ = None

-- what the OPEN begins it with; zeros where there is no OPEN
abbrev pub opening_setup : List Command → Setup
opening_setup (Open key story digest seed cols rows budget ∷ after) =
    record { seed = seed; cols = cols; rows = rows; budget = budget }
opening_setup _ = record { seed = 0; cols = 0; rows = 0; budget = 0 }

-- the world of a story, if there is one, run alone on these inputs
abbrev pub played : Option Story → Setup → List Input → Option WorldState
played None setup inputs = None
played (Some story) setup inputs = Some (world_after story.image setup inputs)

-- the world that a game had come to after its first n inputs
abbrev pub world_at : List Story → List Command → ℕ → Option WorldState
world_at stories game n =
    played (opened_story stories game) (opening_setup game) (take n (inputs_of game))

-- the turns of a world, if there is one, on these inputs
abbrev pub turns_of_inputs : Option WorldState → List Input → ℕ
turns_of_inputs None inputs = 0
turns_of_inputs (Some world) inputs = turns_by world inputs

-- the turns of a game behind its first n inputs: one for each input that the world before it wants
abbrev pub turns_after : List Story → List Command → ℕ → ℕ
turns_after stories game n = turns_of_inputs (world_at stories game n) (drop n (inputs_of game))

-- How many turns a game took: one for each input that its story waited for (own).
use Rattle.std.specs.Prelude.{ℕ, ◌+◌, ◌≤◌, if◌then◌else◌, List, [], ◌∷◌, Option, Some, None}
use Rattle.std.specs.List.{filter_map}
use Rattle.story_text.specs.declared.input.Input.{Input}
use Rattle.gate_journal.specs.declared.command.Command.{Command}
use Rattle.gate_journal.specs.declared.command.Command.TheVariants.{Open}
use Rattle.story_run.specs.declared.setup.Setup.{Setup}
use Rattle.story_run.specs.declared.story.Story.{Story}
use Rattle.story_run.specs.World.{WorldState}
use Rattle.story_run.specs.Solo.{is_wanted, opening, world_after_input}
use Rattle.session_core.specs.History.{story_at, input_of}

-- the turns of what a command gives the story
abbrev pub turns_on : WorldState → Option Input → ℕ
turns_on world (Some input) = if is_wanted world input then 1 else 0
turns_on world None = 0

-- the turns of inputs, one after the other
abbrev pub turns_by : WorldState → List Input → ℕ
turns_by world [] = 0
turns_by world (input ∷ inputs) =
    turns_on world (Some input) + turns_by (world_after_input world input) inputs

-- the turns of a story on the inputs of these commands
abbrev pub turns_in : Option Story → Setup → List Command → ℕ
turns_in (Some story) setup after =
    turns_by (opening story.image setup) (filter_map input_of after)
turns_in None setup after = 0

-- the turns of a game, from its opening on, which isn't counted
abbrev pub turns_of : List Story → List Command → ℕ
turns_of stories (Open key story digest seed cols rows budget ∷ after) =
    turns_in (story_at stories story)
    (record { seed = seed; cols = cols; rows = rows; budget = budget }) after
turns_of stories _ = 0

-- Where memory ran out a count of turns rose, if at all, by no more than these.
abbrev pub RisesByUpTo : ℕ → ℕ → ℕ → Type 0
RisesByUpTo turns before now = (before ≤ now) × (now ≤ before + turns)

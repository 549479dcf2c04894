-- A story run alone: its opening, and its turns on the inputs that it wants (own).
use Rattle.std.specs.Prelude.{ℕ, Bool, true, false, if◌then◌else◌, List, [], ◌∷◌}
use Rattle.glk_input.specs.Delivery as delivery
use Rattle.story_text.specs.declared.input.Input.{Input}
use Rattle.story_text.specs.declared.input.Input.TheVariants.{Line, Char, File, Size}
use Rattle.glk_input.specs.declared.request.WindowInput.{WindowInput}
use Rattle.glk_dispatch.specs.Glk as state
use Rattle.glk_dispatch.specs.Glk.{empty_screen, turn_begun}
use Rattle.glk_dispatch.specs.declared.glk.Glk.{Glk}
use Rattle.vm_exec.specs.Start.{started}
use Rattle.story_run.specs.Show.{turn_show}
use Rattle.story_run.specs.Turn.{story_begun, turn_on}
use Rattle.story_run.specs.World.{WorldState}
use Rattle.story_run.specs.declared.setup.Setup.{Setup}
use Rattle.story_run.specs.declared.stage.Stage.{Stage}
use Rattle.story_run.specs.declared.stage.Stage.TheVariants.{AtSelect, AtPrompt, Quit, Fault}

-- how a turn came to rest says whether the story is over
abbrev pub is_at_end : Stage → Bool
is_at_end (AtSelect m) = false
is_at_end (AtPrompt m) = false
is_at_end Quit = true
is_at_end (Fault n) = true

-- a story that is over waits with nothing
abbrev pub glk_settled : Stage → Glk → Glk
glk_settled stage g = if is_at_end stage then state.wait_set_back g else g

-- a turn has come to rest: its show is made, and then the next may begin
abbrev pub rested : List ℕ → ℕ → ℕ → Glk × Stage → WorldState
rested image seed budget x = record {
  image = image;
  seed = seed;
  budget = budget;
  glk = turn_begun (glk_settled x.1 x.0);
  stage = x.1;
  last = turn_show x.0 x.1;
}

-- the world after the opening turn of the story with this image
unfoldable pub opening : List ℕ → Setup → WorldState
opening image setup =
    rested image setup.seed setup.budget
    (story_begun image setup.budget (empty_screen setup.cols setup.rows) (started image setup.seed))

-- the name of a file
abbrev pub is_name : Input → Bool
is_name (Line win text key) = false
is_name (Char win code) = false
is_name (File name) = true
is_name (Size cols rows) = false

-- a story wants what its windows ask for and each size of the screen, or at a prompt the name of a
-- file; nothing once over
abbrev pub stage_wants : Stage → List WindowInput → Input → Bool
stage_wants (AtSelect m) requests input = delivery.wants requests input
stage_wants (AtPrompt m) requests input = is_name input
stage_wants Quit requests input = false
stage_wants (Fault n) requests input = false

-- the world waits for this input
unfoldable pub is_wanted : WorldState → Input → Bool
is_wanted w input = stage_wants w.stage w.glk.requests input

-- the world after a turn on this input, which the story waits for
abbrev pub world_after_turn : WorldState → Stage → Input → WorldState
world_after_turn w (AtSelect m) input =
    rested w.image w.seed w.budget (turn_on w.image w.budget w.glk m input)
world_after_turn w (AtPrompt m) input =
    rested w.image w.seed w.budget (turn_on w.image w.budget w.glk m input)
world_after_turn w Quit input = w
world_after_turn w (Fault n) input = w

-- the world after an input; one that isn't wanted leaves it
unfoldable pub world_after_input : WorldState → Input → WorldState
world_after_input w input = if is_wanted w input then world_after_turn w w.stage input else w

-- the story has quit or met a fault
unfoldable pub is_over : WorldState → Bool
is_over w = is_at_end w.stage

-- the lines of the last turn
unfoldable pub last_lines : WorldState → List ℕ
last_lines w = w.last

-- the world after inputs, one turn after the other
abbrev pub turned_by : WorldState → List Input → WorldState
turned_by w [] = w
turned_by w (x ∷ xs) = turned_by (world_after_input w x) xs

-- the world of a story after these inputs
abbrev pub world_after : List ℕ → Setup → List Input → WorldState
world_after image setup inputs = turned_by (opening image setup) inputs

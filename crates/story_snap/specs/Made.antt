-- The world that fields make (own).
use Rattle.std.specs.Prelude.{ℕ, List, Option, Some, option_map}
use Rattle.glk_dispatch.specs.Glk.{no_prompt}
use Rattle.glk_dispatch.specs.declared.glk.Glk.{Glk}
use Rattle.glk_dispatch.specs.declared.glk.Prompt.{Prompt}
use Rattle.snap_fields.specs.declared.fields.Fields.{Fields}
use Rattle.snap_fields.specs.declared.fields.SnapWaiting.{SnapWaiting}
use Rattle.snap_fields.specs.declared.fields.SnapWaiting.TheVariants as waiting
use Rattle.snap_glk.specs.Made.{glk_with_fields}
use Rattle.snap_glk.specs.declared.fields.GlkFields.{GlkFields}
use Rattle.snap_machine.specs.Fields.{fields_with}
use Rattle.snap_machine.specs.declared.parts.MachineParts.{MachineParts}
use Rattle.story_run.specs.Fields.{world_of_fields}
use Rattle.story_run.specs.World.{WorldState}
use Rattle.story_run.specs.declared.fields.StageFields.{StageFields}
use Rattle.story_run.specs.declared.fields.StageFields.TheVariants as stage

-- the parts of fields that say what the machine is, and what the Glk state is
abbrev pub machine_in : Fields → MachineParts
machine_in f = record {
  machine = f.machine;
  settings = f.settings;
  random = f.random;
  undo = f.undo;
}

abbrev pub glk_in : Fields → GlkFields
glk_in f = record {
  numbers = f.numbers;
  windows = f.windows;
  streams = f.streams;
  filerefs = f.filerefs;
  files = f.files;
}

-- the reference of the event that is waited for, and what a prompt waits with; 0 where none does
abbrev pub event_in : SnapWaiting → ℕ
event_in waiting.Quit = 0
event_in (waiting.Fault n) = 0
event_in (waiting.Select reference store) = reference
event_in (waiting.Prompt usage mode rock store) = 0

abbrev pub prompt_in : SnapWaiting → Prompt
prompt_in waiting.Quit = no_prompt
prompt_in (waiting.Fault n) = no_prompt
prompt_in (waiting.Select reference store) = no_prompt
prompt_in (waiting.Prompt usage mode rock store) =
    record { usage = usage; mode = mode; rock = rock }

-- where the story with this image, begun with this seed, waits, or how it ended
abbrev pub stage_made : List ℕ → ℕ → MachineParts → SnapWaiting → Option StageFields
stage_made image seed parts waiting.Quit = Some stage.Quit
stage_made image seed parts (waiting.Fault n) = Some (stage.Fault n)
stage_made image seed parts (waiting.Select reference store) =
    option_map stage.AtSelect (fields_with image seed parts store)
stage_made image seed parts (waiting.Prompt usage mode rock store) =
    option_map stage.AtPrompt (fields_with image seed parts store)

abbrev pub glk_made : Fields → Glk
glk_made f =
    glk_with_fields f.setup.cols f.setup.rows (event_in f.waiting) (prompt_in f.waiting) (glk_in f)

-- the world of the story with this image that fields make, if they make one, valid or not
abbrev pub world_made : List ℕ → Fields → Option WorldState
world_made image f = option_map (λ (s : StageFields). world_of_fields image (record {
  seed = f.setup.seed;
  budget = f.setup.budget;
  glk = glk_made f;
  stage = s;
  last = f.show;
})) (stage_made image f.setup.seed (machine_in f) f.waiting)

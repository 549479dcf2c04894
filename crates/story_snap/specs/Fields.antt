-- The fields of a world's bytes (own: docs/FORMATS.md, "Snapshot bytes").
use Rattle.std.specs.Prelude.{ℕ, List}
use Rattle.glk_dispatch.specs.declared.glk.Glk.{Glk}
use Rattle.snap_fields.specs.declared.fields.Fields.{Fields}
use Rattle.snap_fields.specs.declared.fields.SnapSetup.{SnapSetup}
use Rattle.snap_fields.specs.declared.fields.SnapWaiting.{SnapWaiting}
use Rattle.snap_fields.specs.declared.fields.SnapWaiting.TheVariants as waiting
use Rattle.snap_glk.specs.Told.{glk_fields}
use Rattle.snap_glk.specs.declared.fields.GlkFields.{GlkFields}
use Rattle.snap_machine.specs.Parts.{machine_parts, put_back, store}
use Rattle.snap_machine.specs.declared.parts.MachineParts.{MachineParts}
use Rattle.story_run.specs.World.{WorldState}
use Rattle.story_run.specs.declared.stage.Stage.{Stage}
use Rattle.story_run.specs.declared.stage.Stage.TheVariants.{AtSelect, AtPrompt, Quit, Fault}

-- the seed with which the session began, its present screen, and its budget
abbrev pub world_setup : WorldState → SnapSetup
world_setup w = record { seed = w.seed; cols = w.glk.cols; rows = w.glk.rows; budget = w.budget }

-- the machine where the story waits; that of a story that is over is put back
abbrev pub stage_parts : List ℕ → Stage → MachineParts
stage_parts image (AtSelect m) = machine_parts m
stage_parts image (AtPrompt m) = machine_parts m
stage_parts image Quit = put_back image
stage_parts image (Fault n) = put_back image

-- what the story waits for and with, or how it ended
abbrev pub waiting_of : Glk → Stage → SnapWaiting
waiting_of g (AtSelect m) = waiting.Select g.event (store m)
waiting_of g (AtPrompt m) =
    waiting.Prompt g.prompt.usage g.prompt.mode g.prompt.rock (store m)
waiting_of g Quit = waiting.Quit
waiting_of g (Fault n) = waiting.Fault n

-- the fields of a setup, a machine, a Glk state, what is waited for, and a show
abbrev pub all_fields : SnapSetup → MachineParts → SnapWaiting → GlkFields → List ℕ → Fields
all_fields setup parts waiting glk show = record {
  setup = setup;
  machine = parts.machine;
  settings = parts.settings;
  random = parts.random;
  undo = parts.undo;
  waiting = waiting;
  numbers = glk.numbers;
  windows = glk.windows;
  streams = glk.streams;
  filerefs = glk.filerefs;
  files = glk.files;
  show = show;
}

abbrev pub fields_of : WorldState → Fields
fields_of w =
    all_fields (world_setup w) (stage_parts w.image w.stage) (waiting_of w.glk w.stage)
    (glk_fields w.glk) w.last

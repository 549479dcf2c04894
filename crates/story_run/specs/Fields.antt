-- The world of its fields (own).
use Rattle.std.specs.Prelude.{ℕ, List}
use Rattle.vm_exec.specs.Fields.{machine_of}
use Rattle.glk_dispatch.specs.Glk.{turn_begun}
use Rattle.story_run.specs.World.{WorldState}
use Rattle.story_run.specs.declared.fields.StageFields.{StageFields}
use Rattle.story_run.specs.declared.fields.StageFields.TheVariants as fields
use Rattle.story_run.specs.declared.fields.WorldFields.{WorldFields}
use Rattle.story_run.specs.declared.stage.Stage.{Stage}
use Rattle.story_run.specs.declared.stage.Stage.TheVariants.{AtSelect, AtPrompt, Quit, Fault}

-- where the story with this image waits, its machine is that of the fields
abbrev pub stage_of : List ℕ → StageFields → Stage
stage_of image (fields.AtSelect f) = AtSelect (machine_of image f)
stage_of image (fields.AtPrompt f) = AtPrompt (machine_of image f)
stage_of image fields.Quit = Quit
stage_of image (fields.Fault n) = Fault n

-- the world with this image that has these fields; the counts of its last turn are set back
abbrev pub world_of_fields : List ℕ → WorldFields → WorldState
world_of_fields image f = record {
  image = image;
  seed = f.seed;
  budget = f.budget;
  glk = turn_begun f.glk;
  stage = stage_of image f.stage;
  last = f.last;
}

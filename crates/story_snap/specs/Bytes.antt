-- The bytes of a world (own: docs/FORMATS.md, "Snapshot bytes").
use Rattle.std.specs.Prelude.{◌≡◌, ℕ, List}
use Rattle.glulx_image.specs.Header.{IsLaidOut}
use Rattle.snap_fields.specs.Laws.{SpellsFields}
use Rattle.snap_fields.specs.declared.fault.SnapFault.{SnapFault}
use Rattle.snap_fields.specs.declared.fault.SnapFault.TheVariants.{BadSnap, NoMemory}
use Rattle.snap_glk.specs.Texts.{AreTexts}
use Rattle.snap_glk.specs.Told.{glk_fields}
use Rattle.snap_machine.specs.Laws.{HasRoms}
use Rattle.story_run.specs.World.{IsValidWorld, WorldState}
use Rattle.story_run.specs.declared.stage.Stage.{Stage}
use Rattle.story_run.specs.declared.stage.Stage.TheVariants.{AtSelect, AtPrompt, Quit, Fault}
use Rattle.story_snap.specs.Fields.{fields_of}

-- below RAMSTART its memory, and that of each state that undo keeps, has the file's bytes
abbrev pub HasRomsAt : Stage → Type 0
HasRomsAt (AtSelect m) = HasRoms m
HasRomsAt (AtPrompt m) = HasRoms m
HasRomsAt Quit = Unit {0}
HasRomsAt (Fault n) = Unit {0}

-- a world that the story with this image may have: valid, over memory of the image, and with names
-- that are texts
pub record IsWorldOf (image : List ℕ) (w : WorldState) : Type 0 where
  pub laid : IsLaidOut image
  pub over : w.image ≡ image
  pub valid : IsValidWorld w
  pub roms : HasRomsAt w.stage
  pub texts : AreTexts (glk_fields w.glk)

-- such a world, whose fields these bytes spell
pub record HasBytes (image bytes : List ℕ) (w : WorldState) : Type 0 where
  pub world : IsWorldOf image w
  pub spelled : SpellsFields bytes (fields_of w)

-- no world of the story has these bytes
abbrev pub HasNoWorld : List ℕ → List ℕ → Type 0
HasNoWorld image bytes = (w : WorldState) → HasBytes image bytes w → ⊥

-- a refusal says so, unless it is want of memory
abbrev pub RefusesWorldBytes : List ℕ → List ℕ → SnapFault → Type 0
RefusesWorldBytes image bytes BadSnap = HasNoWorld image bytes
RefusesWorldBytes image bytes NoMemory = Unit {0}

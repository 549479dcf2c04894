-- How a session's world is made again: from a snapshot and the inputs behind it (own).
use Rattle.std.specs.Prelude.{◌≡◌, ◌⊎◌, ◌<◌, ℕ, ◌+◌, Bool, IsTrue, List, length, drop}
use Rattle.std.specs.Prelude.{Option, Some, None}
use Rattle.story_text.specs.declared.input.Input.{Input}
use Rattle.gate_journal.specs.declared.command.Command.{Command}
use Rattle.story_run.specs.declared.setup.Setup.{Setup}
use Rattle.story_run.specs.declared.story.Story.{Story}
use Rattle.story_run.specs.World.{WorldState}
use Rattle.story_run.specs.Solo.{opening, turned_by}
use Rattle.story_snap.specs.Bytes.{HasBytes, HasNoWorld}
use Rattle.disk_model.specs.Disk.{Rose}
use Rattle.session_core.specs.Turns.{turns_by}
use Rattle.snap_store.specs.File.{area_given, newest_area}
use Rattle.snap_store.specs.declared.area.Area.{Area}
use Rattle.session_saves.specs.Game.{inputs_of, opening_setup, opened_story}

-- with what a warming begins: a world, and how many of the game's inputs are behind it
pub record Beginning : Type 0 where
  pub count : ℕ
  pub world : WorldState

-- the opening turn's world, with no input behind it
abbrev pub at_start : Story → Setup → Beginning
at_start story setup = record { count = 0; world = opening story.image setup }

-- It begins with the world of the area that was found, or at the start where there is none or where
-- no world of the story has its bytes.
abbrev pub BeginsWith : Story → Setup → Option Area → Beginning → Type 0
BeginsWith story setup None b = b ≡ at_start story setup
BeginsWith story setup (Some area) b =
    ((b.count ≡ area.count) × HasBytes story.image area.bytes b.world)
    ⊎ (HasNoWorld story.image area.bytes × (b ≡ at_start story setup))

-- the world and the steps of a warming: the inputs behind its beginning are played, no others
pub record Warms
    (story : Story)
    (setup : Setup)
    (inputs : List Input)
    (area : Option Area)
    (world : WorldState)
    (before after : ℕ) : Type 0 where
  pub begins : Beginning
  pub with_area : BeginsWith story setup area begins
  pub comes_to : world ≡ turned_by begins.world (drop begins.count inputs)
  pub takes : after ≡ before + turns_by begins.world (drop begins.count inputs)

-- the same of a game; there is no world where its story isn't there
abbrev pub WarmsIn :
    Option Story → Setup → List Input → Option Area → Option WorldState → ℕ → ℕ → Type 0
WarmsIn None setup inputs area None before after = after ≡ before
WarmsIn None setup inputs area (Some world) before after = ⊥
WarmsIn (Some story) setup inputs area None before after = ⊥
WarmsIn (Some story) setup inputs area (Some world) before after =
    Warms story setup inputs area world before after

-- What was found in a file: the newest open area of this OPEN row with a count of at most `most`,
-- where the disk didn't fail; none where it did. The counts are those of the disk's faults.
pub record FindsArea
    (told : Bool)
    (file : List ℕ)
    (place most before now : ℕ)
    (area : Option Area) : Type 0 where
  pub newest :
      IsTrue told → (Rose before now → ⊥) → area ≡ area_given (newest_area place most file)
  pub failed : before < now → area ≡ None

-- a game was warmed from what was found
pub record WarmsFrom
    (told : Bool)
    (file : List ℕ)
    (place faults_before faults_now : ℕ)
    (stories : List Story)
    (game : List Command)
    (world : Option WorldState)
    (steps_before steps_now : ℕ) : Type 0 where
  pub area : Option Area
  pub finds : FindsArea told file place (length (inputs_of game)) faults_before faults_now area
  pub warms :
      WarmsIn (opened_story stories game) (opening_setup game) (inputs_of game) area world
      steps_before steps_now

-- the inputs behind an area, or none
abbrev pub count_in : Option Area → ℕ
count_in None = 0
count_in (Some area) = area.count

-- What the areas of a session's snapshot file have to do with its commands (own).
use Rattle.std.specs.Prelude.{◌≡◌, ◌≤◌, ℕ, false, ◌==◌, ◌&&◌, if◌then◌else◌}
use Rattle.std.specs.Prelude.{List, [], ◌∷◌, ◌++◌, length, Option, Some, None}
use Rattle.std.specs.List.{Contains, last_or}
use Rattle.gate_journal.specs.Rows.{commands_of, is_open}
use Rattle.gate_journal.specs.declared.command.Command.{Command}
use Rattle.gate_journal.specs.declared.row.Row.{Row}
use Rattle.story_run.specs.declared.story.Story.{Story}
use Rattle.story_run.specs.World.{WorldState}
use Rattle.story_snap.specs.Bytes.{HasBytes}
use Rattle.session_core.specs.Checks.{is_other_story}
use Rattle.session_core.specs.History.{game_of}
use Rattle.snap_store.specs.File.{Stored, openable_area}
use Rattle.snap_store.specs.Store.{Snapshots, store_area}
use Rattle.snap_store.specs.declared.side.Side.{Side}
use Rattle.session_saves.specs.Game.{inputs_of, world_at}

-- the places of a session's OPEN rows in a journal, oldest first
abbrev pub opens_of : List Row → ℕ → List ℕ
opens_of [] s = []
opens_of (r ∷ rows) s =
    if r.session == s && is_open r.command then r.place ∷ opens_of rows s else opens_of rows s

-- the place of the last one
abbrev pub last_row : List ℕ → Option ℕ
last_row rows = last_or None rows

-- An area of a session with OPEN rows at these places, whose last one began this game: its place
-- is that of one of them. Where that is the last one, its count is at most the inputs since, and,
-- where the story handed in has that row's digest, its bytes are those of the world after so many.
pub record Agrees
    (stories : List Story)
    (rows : List ℕ)
    (game : List Command)
    (area : Stored) : Type 0 where
  pub row : Contains rows area.place
  pub fits : last_row rows ≡ Some area.place → area.count ≤ length (inputs_of game)
  pub holds :
      last_row rows ≡ Some area.place → is_other_story stories game ≡ false
      → (world : WorldState) → world_at stories game area.count ≡ Some world
      → HasBytes world.image area.bytes world

-- each area of the store does
abbrev pub IsAgreed :
    {D : Type 0} → (D → List ℕ) → List Story → List ℕ → List Command → Snapshots D → Type 0
IsAgreed seen stories rows game store =
    (side : Side) (area : Stored) → store_area seen store side ≡ Some area
    → Agrees stories rows game area

-- each area of a file that may open does
abbrev pub IsAgreedFile : List Story → List ℕ → List Command → List ℕ → Type 0
IsAgreedFile stories rows game file =
    (side : Side) (area : Stored) → openable_area side file ≡ Some area
    → Agrees stories rows game area

-- the file of a session agrees with the first of a journal's rows
pub record AgreesWithBeginning
    (stories : List Story)
    (rows : List Row)
    (s : ℕ)
    (file : List ℕ) : Type 0 where
  pub first : List Row
  pub more : List Row
  pub all : rows ≡ first ++ more
  pub agreed : IsAgreedFile stories (opens_of first s) (game_of (commands_of first s)) file

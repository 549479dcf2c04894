-- What keeps a session's snapshots in agreement with its commands, and kept up (own).
use Rattle.std.specs.Prelude.{◌≡◌, ◌≤◌, ◌<◌, ℕ, ◌+◌, ◌*◌, true, false, List, [], ◌∷◌, ◌++◌, length}
use Rattle.std.specs.Prelude.{Option, Some}
use Rattle.std.specs.List.{Contains}
use Rattle.story_text.specs.declared.input.Input.{Input}
use Rattle.gate_journal.specs.Rows.{is_open}
use Rattle.gate_journal.specs.declared.command.Command.{Command}
use Rattle.story_run.specs.declared.story.Story.{Story}
use Rattle.story_run.specs.World.{WorldState}
use Rattle.story_run.specs.Solo.{is_wanted, world_after_input}
use Rattle.session_core.specs.History.{world_of}
use Rattle.session_core.specs.Turns.{turns_by}
use Rattle.snap_store.specs.File.{Stored}
use Rattle.snap_store.specs.Store.{Snapshots}
use Rattle.snap_store.specs.declared.slot.Slots.{Slots}
use Rattle.session_saves.specs.Agreement.{Agrees, IsAgreed, IsAgreedFile, last_row}
use Rattle.session_saves.specs.Game.{inputs_of}
use Rattle.session_saves.specs.Keeping.{MayStandMeanwhile}
use Rattle.session_saves.specs.Saves.{HasSince, IsMissCounted, IsKeptUp, due_in, none_missed}
use Rattle.session_saves.specs.declared.missed.Missed.{Missed}
use Rattle.session_saves.specs.declared.saves.Point.{Point}

-- A new OPEN leaves each area in agreement, since its row's place is above all earlier ones.
abbrev pub NewOpensStayAgreed : Type 0
NewOpensStayAgreed =
    (stories : List Story) (rows : List ℕ) (game new_game : List Command) (area : Stored)
    (place : ℕ)
    → ((row : ℕ) → Contains rows row → row < place)
    → Agrees stories rows game area
    → Agrees stories (rows ++ place ∷ []) new_game area

-- And so does a command more of the same game.
abbrev pub MoreCommandsStayAgreed : Type 0
MoreCommandsStayAgreed =
    (stories : List Story) (rows : List ℕ) (game : List Command) (command : Command)
    (area : Stored)
    → is_open command ≡ false
    → Agrees stories rows game area
    → Agrees stories rows (game ++ command ∷ []) area

-- Each image that a stop may leave of an agreed store, also while the snapshot of the game's own
-- world is put, is an agreed file.
abbrev pub ImagesStayAgreed : {D : Type 0} → (D → List ℕ) → Type 0
ImagesStayAgreed {D} seen =
    (stories : List Story) (rows : List ℕ) (game : List Command) (world : WorldState)
    (place : ℕ) (store : Snapshots D) (image : List ℕ)
    → last_row rows ≡ Some place
    → world_of stories game ≡ Some world
    → IsAgreed seen stories rows game store
    → MayStandMeanwhile seen world place (length (inputs_of game)) store image
    → IsAgreedFile stories rows game image

-- Snapshots are kept up at most 16 inputs after an OPEN, or behind an open area of that OPEN row;
-- and they stay so with an input more where none was due before it.
pub record StaysKeptUp : Type 0 where
  pub begins :
      (slots : Slots) (missed : Missed) (place count : ℕ) → count ≤ 16
      → IsKeptUp place count slots missed
  pub resumes :
      (slots : Slots) (missed : Missed) (place due count : ℕ)
      → HasSince place (due * 16) slots → count ≤ due * 16 + 16
      → IsKeptUp place count slots missed
  pub goes_on :
      (slots : Slots) (missed : Missed) (last : Option Point) (place count : ℕ)
      → IsMissCounted missed last
      → due_in slots last place count ≡ false
      → IsKeptUp place count slots missed
      → IsKeptUp place (count + 1) slots missed

-- Of snapshots that are kept up, and none of which was missed, one of this OPEN row is open that
-- has all inputs behind it but for the last 16.
abbrev pub IsWithinSixteen : Type 0
IsWithinSixteen =
    (slots : Slots) (place least : ℕ)
    → IsKeptUp place (least + 16) slots none_missed
    → 0 < least
    → HasSince place least slots

-- each of these inputs is wanted, as it comes
abbrev pub AreWanted : WorldState → List Input → Type 0
AreWanted world [] = Unit {0}
AreWanted world (input ∷ inputs) =
    (is_wanted world input ≡ true) × AreWanted (world_after_input world input) inputs

-- As many turns as inputs are taken where all of them are wanted.
abbrev pub WantedInputsAreTurns : Type 0
WantedInputsAreTurns =
    (world : WorldState) (inputs : List Input) → AreWanted world inputs
    → turns_by world inputs ≡ length inputs

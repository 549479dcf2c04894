-- The files of a folder, and a folder that a host may be run on (own).
use Rattle.std.specs.Prelude.{◌≡◌, ℕ, List, Some, slice_get}
use Rattle.gate_journal.specs.Log.{MayOpen}
use Rattle.gate_journal.specs.Rows.{IsJournal, commands_of}
use Rattle.gate_journal.specs.declared.row.Row.{Row}
use Rattle.session_core.specs.History.{game_of}
use Rattle.session_saves.specs.Agreement.{IsAgreedFile, opens_of}
use Rattle.story_run.specs.declared.story.Story.{Story}

-- the bytes of its files: the journal, and the snapshots of the sessions
pub record FolderImage : Type 0 where
  pub journal : List ℕ
  pub snaps : List (List ℕ)

-- each snapshot file agrees with the rows of its session
abbrev pub AgreeWith : List Story → List Row → List (List ℕ) → Type 0
AgreeWith stories rows snaps =
    (s : ℕ) (file : List ℕ) → slice_get snaps s ≡ Some file
    → IsAgreedFile stories (opens_of rows s) (game_of (commands_of rows s)) file

-- a sound folder: an opening may meet its journal, with whose rows each snapshot file agrees
pub record IsSoundFolder (stories : List Story) (folder : FolderImage) : Type 0 where
  pub rows : List Row
  pub journal : IsJournal rows
  pub opens : MayOpen rows folder.journal
  pub agree : AgreeWith stories rows folder.snaps

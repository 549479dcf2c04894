-- A session's rows, commands and snapshot file, and what may happen to them (own).
use Rattle.std.specs.Prelude.{◌≡◌, ℕ, ◌≤◌, ◌<◌, true, false, List, [], ◌∷◌, ◌++◌, length}
use Rattle.std.specs.Prelude.{Some, None}
use Rattle.std.specs.List.{Contains}
use Rattle.story_text.specs.declared.input.Input.{Input}
use Rattle.gate_journal.specs.Rows.{is_open}
use Rattle.gate_journal.specs.declared.command.Command.{Command}
use Rattle.story_run.specs.declared.story.Story.{Story}
use Rattle.story_run.specs.World.{WorldState}
use Rattle.story_snap.specs.Bytes.{HasBytes}
use Rattle.session_core.specs.History.{input_of}
use Rattle.session_saves.specs.Agreement.{Agrees, last_row}
use Rattle.session_saves.specs.Game.{inputs_of, world_at}
use Rattle.session_saves.specs.Saves.{IsKeptUp, due_in, none_missed}
use Rattle.store_events.specs.declared.event.FileEvent.{FileEvent}
use Rattle.store_events.specs.declared.event.FileEvent.TheVariants.{Keep}
use Rattle.store_events.specs.declared.state.StoreState.{StoreState}
use Rattle.store_events.specs.Areas.{EachArea}
use Rattle.store_events.specs.Events.{file_after}
use Rattle.store_events.specs.Steady.{IsSteady}

-- the places of its OPEN rows, oldest first, its last OPEN and the commands since, and its file
pub record SessionState : Type 0 where
  pub rows : List ℕ
  pub game : List Command
  pub store : StoreState

-- What happens to it: an event of its file, a command more whose row is synced, or a new OPEN,
-- whose row stands at this place.
pub data FileHappening : Type 0 where
  Does : FileEvent → FileHappening
  Takes : Command → FileHappening
  Begins : ℕ → Command → FileHappening

abbrev pub session_after : SessionState → FileHappening → SessionState
session_after x (Does event) = record x { store = file_after x.store event }
session_after x (Takes command) = record x { game = x.game ++ command ∷ [] }
session_after x (Begins place command) =
    record x { rows = x.rows ++ place ∷ []; game = command ∷ [] }

abbrev pub lived : SessionState → List FileHappening → SessionState
lived x [] = x
lived x (one ∷ more) = lived (session_after x one) more

-- the inputs since the last OPEN
abbrev pub inputs : SessionState → ℕ
inputs x = length (inputs_of x.game)

-- the snapshot of a session: of its last OPEN row, and with the bytes of the world after so many of
-- the inputs since
pub record IsSnapshotOfGame
    (stories : List Story)
    (x : SessionState)
    (place count : ℕ)
    (bytes : List ℕ) : Type 0 where
  pub row : last_row x.rows ≡ Some place
  pub fits : count ≤ inputs x
  pub world : WorldState
  pub comes : world_at stories x.game count ≡ Some world
  pub has : HasBytes world.image bytes world

-- What may happen: a put is of the session's own snapshot, and OPEN rows stand in their order.
abbrev pub MayCome : List Story → SessionState → FileHappening → Type 0
MayCome stories x (Does (Keep place count bytes)) = IsSnapshotOfGame stories x place count bytes
MayCome stories x (Does event) = Unit {0}
MayCome stories x (Takes command) = is_open command ≡ false
MayCome stories x (Begins place command) = (row : ℕ) → Contains x.rows row → row < place

abbrev pub EachMayCome : List Story → SessionState → List FileHappening → Type 0
EachMayCome stories x [] = Unit {0}
EachMayCome stories x (one ∷ more) =
    MayCome stories x one × EachMayCome stories (session_after x one) more

-- the snapshot that is due isn't known to be open
abbrev pub IsDue : SessionState → Type 0
IsDue x =
    (place : ℕ) × (last_row x.rows ≡ Some place)
    × (due_in x.store.slots None place (inputs x) ≡ true)

-- No snapshot is missed: where one is due, no input comes.
abbrev pub MissesNone : SessionState → FileHappening → Type 0
MissesNone x (Does event) = Unit {0}
MissesNone x (Takes command) = (input : Input) → input_of command ≡ Some input → IsDue x → ⊥
MissesNone x (Begins place command) = Unit {0}

abbrev pub EachMissesNone : SessionState → List FileHappening → Type 0
EachMissesNone x [] = Unit {0}
EachMissesNone x (one ∷ more) = MissesNone x one × EachMissesNone (session_after x one) more

-- The file is steady, each area that may open agrees with rows and commands, and the last OPEN row
-- stands behind the others.
pub record IsInAgreement (stories : List Story) (x : SessionState) : Type 0 where
  pub steady : IsSteady x.store
  pub areas : EachArea (Agrees stories x.rows x.game) x.store
  pub last :
      (place : ℕ) → last_row x.rows ≡ Some place → (row : ℕ) → Contains x.rows row → row ≤ place

-- each snapshot that fell due is behind one that is known to be open, but for the last one
abbrev pub IsUpToDate : SessionState → Type 0
IsUpToDate x =
    (place : ℕ) → last_row x.rows ≡ Some place
    → IsKeptUp place (inputs x) x.store.slots none_missed

-- A sound desk answers as a session that is played from the start (own).
use Rattle.std.specs.Prelude.{◌≡◌, ◌≤◌, ℕ, max, IsTrue, List, length, [], ◌++◌}
use Rattle.std.specs.Prelude.{Option, Some, None}
use Rattle.disk_model.specs.Work.{EachImage, LeavesOnly, SameDisk}
use Rattle.disk_model.specs.declared.disk.Disk.{Ghosts as DiskWords}
use Rattle.turn_cell.specs.Passes.{seen}
use Rattle.gate_journal.specs.Log.{rows_of}
use Rattle.gate_journal.specs.Rows.{IsJournal, commands_of}
use Rattle.gate_journal.specs.declared.row.Row.{Row}
use Rattle.line_words.specs.declared.request.Request.{Request}
use Rattle.story_run.specs.World.{WorldState}
use Rattle.session_core.specs.declared.decision.Decision.{Decision}
use Rattle.session_core.specs.History.{game_of, world_of}
use Rattle.session_core.specs.Answer.{answer_in}
use Rattle.session_core.specs.Turning.{MayMeet, turn_met}
use Rattle.snap_store.specs.Store.{Snapshots}
use Rattle.session_saves.specs.Agreement.{AgreesWithBeginning, IsAgreed, IsAgreedFile, last_row}
use Rattle.session_saves.specs.Agreement.{opens_of}
use Rattle.session_saves.specs.Game.{inputs_of}
use Rattle.session_saves.specs.Keeping.{KeepsOpen}
use Rattle.session_saves.specs.Saves.{HasSince, IsKeptUp}
use Rattle.session_desk.specs.declared.desk.mark.Mark.{Mark}
use Rattle.session_desk.specs.declared.turned.Turned.{Turned}
use Rattle.session_desk.specs.Desk.{game, HoldsOwnWorld}
use Rattle.session_desk.specs.Shared.{DeskTag, desk_tag, GoesOn, IsMarked, SharedState}

-- a desk is sound where its store's disk tells its bytes, and as the desk was opened the store's
-- areas agreed with the journal's rows
abbrev pub IsSoundDesk : {D : Type 0} → DiskWords D → DeskTag D → Type 0
IsSoundDesk disks tag =
    IsTrue (disks.tells tag.store.disk)
    × IsAgreed disks.seen tag.stories (opens_of tag.rows tag.session)
    (game_of (commands_of tag.rows tag.session)) tag.store

-- the places of the session's OPEN rows in what its desk has seen of the journal
abbrev pub open_rows : {D : Type 0} → SharedState D → List ℕ
open_rows state = opens_of (rows_of (seen state.pass)) state.desk.session

-- the world that a desk holds is its session's own, and its store's areas agree with the commands
pub record IsOwnState {D : Type 0} (seen_of : D → List ℕ) (state : SharedState D) : Type 0 where
  pub holds : HoldsOwnWorld state.desk.stories (game state.desk) state.desk.held
  pub agreed :
      IsAgreed seen_of state.desk.stories (open_rows state) (game state.desk)
      state.saves.store

-- what became of a store: it is on the same disk, which wasn't written farther than the end of the
-- longest area of B
pub record IsSameStore
    {D : Type 0} (disks : DiskWords D) (old new : Snapshots D) : Type 0 where
  pub same : SameDisk disks old.disk new.disk
  pub counts : disks.faults old.disk ≤ disks.faults new.disk
  pub reaches : disks.reach new.disk ≤ max (disks.reach old.disk) 16781344
  pub made : new.made ≡ old.made

-- while nothing was missed, on a desk whose session had no command as it was opened, the snapshots
-- of its last OPEN row are kept up
abbrev pub AreKeptUp : {D : Type 0} → SharedState D → Type 0
AreKeptUp state =
    commands_of state.rows state.desk.session ≡ []
    → (place : ℕ) → last_row (open_rows state) ≡ Some place
    → IsKeptUp place (length (inputs_of (game state.desk))) state.saves.store.slots
    state.saves.missed

-- What a sound desk keeps of its store's file. Each image that a stop may leave since the desk was
-- opened agrees with the first of the rows that its pass has seen of the journal. While no OPEN
-- comes, an open area of the session's last game is never lost.
pub record KeepsFile
    {D : Type 0} (disks : DiskWords D) (state : SharedState D) : Type 0 where
  pub agreed :
      LeavesOnly disks state.store.disk state.saves.store.disk
      (AgreesWithBeginning state.desk.stories (rows_of (seen state.pass)) state.desk.session)
  pub newest :
      IsJournal (rows_of (seen state.pass))
      → open_rows state ≡ opens_of state.rows state.desk.session
      → (place least : ℕ) → last_row (open_rows state) ≡ Some place
      → HasSince place least state.store.slots
      → KeepsOpen disks place least state.store state.saves.store

-- what holds of each desk, with its marks and the place of its session's last OPEN row
pub record IsWhole
    {D : Type 0} (disks : DiskWords D) (marks : List Mark) (place : Option ℕ)
    (state : SharedState D) : Type 0 where
  pub marked : IsMarked marks state.desk state.pass
  pub row : place ≡ last_row (open_rows state)
  pub store : IsSameStore disks state.store state.saves.store
  pub own : IsSoundDesk disks (desk_tag state) → IsOwnState disks.seen state
  pub kept_up : AreKeptUp state
  -- the journal's rows go on from those of the opening
  pub rows : (more : List Row) × (rows_of (seen state.pass) ≡ state.rows ++ more)
  pub file : IsSoundDesk disks (desk_tag state) → KeepsFile disks state

-- The session decides so on a request by a world `now`, which is its own where the desk is sound.
pub record Decides
    {D : Type 0} (disks : DiskWords D) (request : Request) (old : SharedState D)
    (decision : Decision) : Type 0 where
  pub now : Option WorldState
  pub own :
      IsSoundDesk disks (desk_tag old) → now ≡ world_of old.desk.stories (game_of old.desk.commands)
  pub decides : decision ≡ answer_in old.desk.stories old.desk.commands now request

-- The turn of a session on a request, by what it met. It is made on a world `now`, which is the
-- session's own where the desk is sound.
pub record TurnsBy
    {D : Type 0} (disks : DiskWords D) (request : Request) (by : ℕ) (old : SharedState D)
    (turned : Turned) (new : SharedState D) : Type 0 where
  pub now : Option WorldState
  pub own :
      IsSoundDesk disks (desk_tag old) → now ≡ world_of old.desk.stories (game_of old.desk.commands)
  pub met :
      MayMeet (answer_in old.desk.stories old.desk.commands now request).accepted
      turned.outcome
  pub reply :
      turned.reply
      ≡ (turn_met old.history by
      (answer_in old.desk.stories old.desk.commands now request).reply
      (answer_in old.desk.stories old.desk.commands now request).accepted
      turned.outcome).reply
  pub history :
      new.history
      ≡ (turn_met old.history by
      (answer_in old.desk.stories old.desk.commands now request).reply
      (answer_in old.desk.stories old.desk.commands now request).accepted
      turned.outcome).history
  pub journal :
      GoesOn old.desk.session
      (answer_in old.desk.stories old.desk.commands now request).accepted turned.outcome
      (seen old.pass) (seen new.pass)
  -- where nothing is accepted the journal isn't waited for
  pub idle :
      (answer_in old.desk.stories old.desk.commands now request).accepted ≡ None
      → new.pass ≡ old.pass

-- What a desk leaves of its store: the disk that it was given, and, where the desk is sound, images
-- that agree with the session's commands, now and at each moment since it was opened.
pub record EndsStore
    {D : Type 0} (disks : DiskWords D) (state : SharedState D) : Type 0 where
  pub store : IsSameStore disks state.store state.saves.store
  pub agreed :
      IsSoundDesk disks (desk_tag state) → EachImage disks state.saves.store.disk
      (IsAgreedFile state.desk.stories (open_rows state) (game state.desk))
  pub file : IsSoundDesk disks (desk_tag state) → KeepsFile disks state

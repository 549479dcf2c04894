-- When a desk's snapshot is due, and what becomes of it; and how a desk is made warm (own).
use Rattle.std.specs.Prelude.{◌≡◌, ◌⊎◌, ℕ, Bool, false, length, Option, Some}
use Rattle.disk_model.specs.declared.disk.Disk.{Ghosts as DiskWords}
use Rattle.story_run.specs.World.{WorldState}
use Rattle.session_saves.specs.Agreement.{last_row}
use Rattle.session_saves.specs.Game.{inputs_of}
use Rattle.session_saves.specs.Keeping.{CountsExactly, IsMissed, IsPut}
use Rattle.session_saves.specs.Saves.{SavesState, is_due}
use Rattle.session_saves.specs.Warming.{WarmsFrom}
use Rattle.session_desk.specs.declared.held.Held.TheVariants.{Current}
use Rattle.session_desk.specs.Desk.{game, warmed, world_now}
use Rattle.session_desk.specs.Shared.{SharedState}
use Rattle.session_desk.specs.Sound.{open_rows}

-- of a session whose world is held, the snapshot of its last OPEN row behind so many inputs is due
abbrev pub due_with : {D : Type 0} → SavesState D → Option WorldState → Option ℕ → ℕ → Bool
due_with saves (Some world) (Some place) count = is_due saves place count
due_with saves _ _ count = false

-- a snapshot of the desk's session is due
abbrev pub snapshot_due : {D : Type 0} → SharedState D → Bool
snapshot_due state =
    due_with state.saves (world_now state.desk.held) (last_row (open_rows state))
    (length (inputs_of (game state.desk)))

-- the snapshot of the world that is held was put into the store, or was missed and counted exactly
pub record KeepsSnapshot
    {D : Type 0} (disks : DiskWords D) (old new : SharedState D) : Type 0 where
  pub world : WorldState
  pub held : old.desk.held ≡ Current world
  pub place : ℕ
  pub row : last_row (open_rows old) ≡ Some place
  pub came :
      IsPut disks world place (length (inputs_of (game old.desk))) old.saves new.saves
      ⊎ IsMissed disks.faults world place (length (inputs_of (game old.desk))) old.saves new.saves
  pub exact :
      CountsExactly world place (length (inputs_of (game old.desk))) old.saves new.saves

-- the desk was made warm: with a world of an area of the last OPEN row, or from the start, and with
-- the inputs behind that
pub record IsWarmed
    {D : Type 0} (disks : DiskWords D) (old new : SharedState D) (before after : ℕ) : Type 0 where
  pub world : WorldState
  pub holds : new.desk ≡ warmed old.desk world
  pub place : ℕ
  pub row : last_row (open_rows old) ≡ Some place
  pub warms :
      WarmsFrom (disks.tells old.saves.store.disk) (disks.seen old.saves.store.disk) place
      (disks.faults old.saves.store.disk) (disks.faults new.saves.store.disk)
      old.desk.stories (game old.desk) (Some world) before after

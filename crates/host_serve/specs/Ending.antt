-- What the end of a host promises (own).
use Rattle.std.specs.Prelude.{◌≡◌, ℕ, ◌<◌, ◌≤◌, List, [], ◌∷◌, length, map, max, Some}
use Rattle.std.specs.Prelude.{slice_get}
use Rattle.turn_cell.specs.History.{Continues, IsForeign}
use Rattle.turn_cell.specs.Passes.{seen, tag_of}
use Rattle.disk_model.specs.Work.{EachImage, LeavesOnly, SameDisk}
use Rattle.disk_model.specs.declared.disk.Disk.{Ghosts as DiskWords}
use Rattle.gate_journal.specs.Log.{Log, entry_number}
use Rattle.gate_journal.specs.Rows.{IsJournal, commands_of}
use Rattle.gate_journal.specs.declared.row.Row.{Row}
use Rattle.snap_store.specs.Store.{Snapshots}
use Rattle.story_run.specs.declared.story.Story.{Story}
use Rattle.session_core.specs.declared.entry.Entry.{Entry}
use Rattle.session_core.specs.History.{game_of}
use Rattle.session_core.specs.Turning.{entry_by}
use Rattle.session_saves.specs.Agreement.{AgreesWithBeginning, IsAgreedFile, last_row, opens_of}
use Rattle.session_saves.specs.Saves.{HasOpenSince, HasSince}
use Rattle.session_desk.specs.Shared.{unnumbered}
use Rattle.session_desk.specs.Turn.{history_in}
use Rattle.host_serve.specs.declared.host.Host.{Host}
use Rattle.host_serve.specs.declared.host.Passes.{Passes}
use Rattle.host_serve.specs.Holders.{Holder, IsWholeHolder, IsAloneHolder, holder_at, holders, seen_at}
use Rattle.host_serve.specs.Holders.{seens}

-- the history of a session as its host ends, where this holder's pass had seen so much: others'
-- entries came since, and none where the pass is alone or all that were split from it were joined
-- into it again
pub record EndsAt (h : Holder) (old final : List Entry) : Type 0 where
  pub since : Continues (IsForeign entry_by h.holds) final old
  pub alone : IsAloneHolder h → final ≡ old
  pub complete : IsWholeHolder h → final ≡ old

-- The histories of all sessions as a host ends, and its journal then: of each session it has the
-- accepted commands and the faults, and no others, in their order.
pub record EndsWith {D : Type 0} (host : Host D) (passes : Passes D) (log : Log D) : Type 0 where
  pub finals : List (List Entry)
  pub many : length finals ≡ 64
  pub each :
      (s : ℕ) → s < 64
      → EndsAt (holder_at (holders passes.desks.items) s) (seen_at (seens passes.desks.items) s)
      (seen_at finals s)
  pub kept : (s : ℕ) → s < 64 → history_in log.entries s ≡ map unnumbered (seen_at finals s)
  -- it is the journal that the host was opened over, with more entries
  pub opening : tag_of (λ (j : Log D). j.opening) host.root ≡ Some log.opening
  pub grows : Continues (IsForeign entry_number (0 ∷ [])) log.entries (seen host.root)

module _ {D : Type 0} where
  -- a store's disk comes back: it is the one that the store was opened on, and wasn't written past
  -- the end of area B
  pub record GivesBack (disks : DiskWords D) (store : Snapshots D) (back : D) : Type 0 where
    pub same : SameDisk disks store.disk back
    pub counts : disks.faults store.disk ≤ disks.faults back
    pub reaches : disks.reach back ≤ max (disks.reach store.disk) 16781344

  -- each image of a disk agrees with the rows of its session
  abbrev pub IsAgreedDisk : DiskWords D → List Story → List Row → ℕ → D → Type 0
  IsAgreedDisk disks stories rows s disk = EachImage disks disk
      (IsAgreedFile stories (opens_of rows s) (game_of (commands_of rows s)))

  -- and so do those of the disks of all sessions
  abbrev pub AreAgreedDisks : DiskWords D → List Story → List Row → List D → Type 0
  AreAgreedDisks words stories rows disks =
      (s : ℕ) (disk : D) → slice_get disks s ≡ Some disk
      → IsAgreedDisk words stories rows s disk

  -- What is kept of the file of a session's store since it was opened, where the journal had these
  -- rows then and has those now. Each image that a stop may leave agrees with the first of the
  -- journal's rows. While no OPEN of the session comes, an open area of its last game is never lost.
  pub record KeepsFileOf (disks : DiskWords D) (stories : List Story) (rows after : List Row)
      (s : ℕ) (store : Snapshots D) (back : D)
      : Type 0 where
    pub agreed :
        LeavesOnly disks store.disk back (AgreesWithBeginning stories after s)
    pub newest :
        IsJournal after → opens_of after s ≡ opens_of rows s
        → (place least : ℕ) → last_row (opens_of after s) ≡ Some place
        → HasSince place least store.slots
        → LeavesOnly disks store.disk back (HasOpenSince place least)

  -- and so of those of all sessions
  abbrev pub KeepFiles : DiskWords D → List Story → List Row → List Row
      → List (Snapshots D) → List D → Type 0
  KeepFiles disks stories rows after stores backs =
      (s : ℕ) (store : Snapshots D) (back : D)
      → slice_get stores s ≡ Some store → slice_get backs s ≡ Some back
      → KeepsFileOf disks stories rows after s store back

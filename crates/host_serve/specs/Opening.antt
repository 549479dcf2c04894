-- A host as it is opened (own).
use Rattle.std.specs.Prelude.{◌≡◌, ℕ, List, [], ◌∷◌, length, map, Some, IsTrue, slice_get}
use Rattle.atomic_table.specs.Seated.{TableId}
use Rattle.turn_cell.specs.declared.cell.Cell.{Cell}
use Rattle.turn_cell.specs.declared.pass.Pass.{Pass}
use Rattle.turn_cell.specs.Passes.{IsOf, IsOutside, seen, tag_of}
use Rattle.disk_model.specs.Work.{OnlyLooks}
use Rattle.disk_model.specs.declared.disk.Disk.{Ghosts as DiskWords}
use Rattle.gate_journal.specs.Log.{Log, Opening, rows_kept}
use Rattle.gate_journal.specs.Rows.{commands_of}
use Rattle.gate_journal.specs.declared.fault.JournalFault.{JournalFault}
use Rattle.gate_journal.specs.declared.row.Row.{Row}
use Rattle.snap_store.specs.File.{openable_area}
use Rattle.snap_store.specs.Frames.{IsFaultOfDisk}
use Rattle.snap_store.specs.Slots.{slot_in, slot_of}
use Rattle.snap_store.specs.Store.{Snapshots, store_area}
use Rattle.snap_store.specs.declared.fault.DiskFault.{DiskFault as StoreFault}
use Rattle.snap_store.specs.declared.side.Side.{Side}
use Rattle.story_run.specs.declared.story.Story.{Story}
use Rattle.session_core.specs.declared.entry.Entry.{Entry}
use Rattle.session_core.specs.History.{game_of}
use Rattle.session_saves.specs.Agreement.{IsAgreedFile, opens_of}
use Rattle.session_desk.specs.Shared.{SharedState, desk_tag}
use Rattle.session_desk.specs.Turn.{history_in}
use Rattle.host_serve.specs.declared.fault.OpenFault.{OpenFault}
use Rattle.host_serve.specs.declared.fault.OpenFault.TheVariants.{Journal, Snap, NoMemory}
use Rattle.host_serve.specs.declared.host.Host.{Host}
use Rattle.host_serve.specs.declared.host.Passes.{Passes}
use Rattle.host_serve.specs.Holders.{Holder, holder_of, holders, seens}
use Rattle.host_serve.specs.Hosts.{AreOf, ArePasses, sessions_below, tag_at, tags_from}

-- the root of a cell, which was never split
abbrev pub lone : Holder
lone = record { number = 0; made = 0; holds = 0 ∷ [] }

-- the lone roots of 64 cells
abbrev pub roots : List Holder
roots = map (λ (s : ℕ). lone) (sessions_below 64)

-- the histories of the 64 sessions that these rows give
abbrev pub histories_in_rows : List Row → List (List Entry)
histories_in_rows rows = map (history_in (rows_kept rows)) (sessions_below 64)

module _ {D : Type 0} (stories : List Story) (budget : ℕ) (journal : TableId) (rows : List Row)
  where
    -- the cell of a session's desk and its root, where the journal has these rows
    pub record IsOpenedDesk (s : ℕ) (store : Snapshots D) (c : Cell (SharedState D) Entry)
        (p : Pass (SharedState D) Entry) : Type 0 where
      pub of : IsOf c p
      pub outside : IsOutside p
      pub tagged : tag_of desk_tag p ≡ Some (tag_at stories budget journal rows s store)
      pub root : holder_of p ≡ lone
      pub history : seen p ≡ history_in (rows_kept rows) s

    -- the same of the first sessions, whose stores are these
    pub record AreOpenedDesks (stores : List (Snapshots D))
        (cells : List (Cell (SharedState D) Entry)) (passes : List (Pass (SharedState D) Entry))
        : Type 0 where
      pub many : length cells ≡ length stores
      pub each : ArePasses desk_tag (tags_from stories budget journal rows 0 stores) cells passes
      pub roots : holders passes ≡ map (λ (s : ℕ). lone) (sessions_below (length stores))
      pub histories :
          seens passes ≡ map (history_in (rows_kept rows)) (sessions_below (length stores))

-- the host over these stories, of a journal with these rows that was opened so
pub record IsOpenedHost {D : Type 0} (given : List Story) (ticks : ℕ) (rows : List Row)
    (opening : Opening D) (host : Host D) (passes : Passes D) : Type 0 where
  pub of : AreOf host passes
  pub stories : host.stories.now ≡ given
  pub budget : host.budget ≡ ticks
  pub root : tag_of (λ (j : Log D). j.opening) host.root ≡ Some opening
  pub begins : seen host.root ≡ rows_kept rows
  pub alone : holders passes.desks.items ≡ roots
  pub histories : seens passes.desks.items ≡ histories_in_rows rows

module _ {D : Type 0} where
  -- what holds of a journal's disk that comes back
  abbrev pub OnJournal : OpenFault D → (JournalFault → D → Type 0) → Type 0
  OnJournal (Journal fault disk) P = P fault disk
  OnJournal (Snap session fault disk) P = Unit {0}
  OnJournal NoMemory P = Unit {0}

  -- what holds of a store's disk that comes back, by its session
  abbrev pub OnStore : OpenFault D → (ℕ → StoreFault → D → Type 0) → Type 0
  OnStore (Journal fault disk) P = Unit {0}
  OnStore (Snap session fault disk) P = P session fault disk
  OnStore NoMemory P = Unit {0}

  -- it is a fault of the stores: P holds of the disk that comes back, or Q where memory is wanted
  abbrev pub IsOfStores : OpenFault D → (ℕ → StoreFault → D → Type 0) → Type 0 → Type 0
  IsOfStores (Journal fault disk) P Q = ⊥
  IsOfStores (Snap session fault disk) P Q = P session fault disk
  IsOfStores NoMemory P Q = Q

  -- the disks tell their bytes, and each file agrees with the rows of its session
  abbrev pub AreAgreed : DiskWords D → List Story → List Row → List D → Type 0
  AreAgreed words stories rows disks =
      (s : ℕ) (disk : D) → slice_get disks s ≡ Some disk
      → IsTrue (words.tells disk)
      × IsAgreedFile stories (opens_of rows s) (game_of (commands_of rows s)) (words.seen disk)

  module _ (words : DiskWords D)
    where
      -- the store of a disk, as it was opened: nothing was written, and its areas are those of the
      -- file that may open
      pub record IsStoreOf (disk : D) (store : Snapshots D) : Type 0 where
        pub areas :
            IsTrue (words.tells disk) → (side : Side)
            → store_area words.seen store side ≡ openable_area side (words.seen disk)
        pub slots :
            IsTrue (words.tells disk) → (side : Side)
            → slot_of store.slots side ≡ slot_in side (words.seen disk)
        pub counts : words.faults store.disk ≡ words.faults disk
        pub kept :
            OnlyLooks words disk store.disk

      -- the store of this session's disk isn't opened, since that failed; nothing was written
      pub record IsRefused (disks : List D) (session : ℕ) (fault : StoreFault) (back : D)
          : Type 0 where
        pub disk : D
        pub given : slice_get disks session ≡ Some disk
        pub cause : IsFaultOfDisk (words.faults disk) (words.faults back) fault
        pub kept : OnlyLooks words disk back

-- A host, and the passes that are of it (own).
use Rattle.std.specs.Prelude.{◌≡◌, ◌≤◌, ℕ, ◌+◌, List, [], ◌∷◌, length, Option, Some}
use Rattle.std.specs.Prelude.{map, slice_get, vec_capacity}
use Rattle.std.specs.List.{range_with_len}
use Rattle.disk_model.specs.declared.disk.Disk.{Ghosts as DiskWords}
use Rattle.atomic_table.specs.Seated.{TableId}
use Rattle.turn_cell.specs.History.{Each}
use Rattle.turn_cell.specs.declared.cell.Cell.{Cell}
use Rattle.turn_cell.specs.declared.pass.Pass.{Pass}
use Rattle.turn_cell.specs.Passes.{IsOf, IsOutside, pass_number, pass_numbers, seen, tag_of}
use Rattle.gate_journal.specs.Command.{IsBudget}
use Rattle.gate_journal.specs.Log.{rows_of}
use Rattle.gate_journal.specs.declared.row.Row.{Row}
use Rattle.snap_store.specs.Store.{Snapshots}
use Rattle.story_run.specs.declared.story.Story.{Story}
use Rattle.session_desk.specs.Shared.{DeskTag, desk_tag}
use Rattle.session_desk.specs.Sound.{IsSoundDesk}
use Rattle.host_serve.specs.declared.host.Host.{Host}
use Rattle.host_serve.specs.declared.host.Passes.{Passes}

module _ {T E : Type 0} where
  -- by which a cell is known
  abbrev pub cell_id : Cell T E → TableId
  cell_id c = c.table.shared.table_id

  -- and the cell that a pass is of
  abbrev pub pass_id : Pass T E → TableId
  pass_id p = p.known.place.table_id

  -- there is a pass for each cell, of it, and in no turn; the cells keep these tags
  pub record ArePasses {G : Type 0} (tag : T → G) (tags : List (Option G))
      (cells : List (Cell T E)) (passes : List (Pass T E)) : Type 0 where
    pub same : map cell_id cells ≡ map pass_id passes
    pub outside : Each IsOutside passes
    pub tagged : map (tag_of tag) passes ≡ tags

-- the sessions below this number
unfoldable pub sessions_below : ℕ → List ℕ
sessions_below n = range_with_len 0 n

-- over these stories with this budget, whose passes are of this journal, which had these rows
module _ {D : Type 0} (stories : List Story) (budget : ℕ) (journal : TableId) (rows : List Row)
  where
    -- the tag of the desk of a session, which was opened with this store
    abbrev pub tag_at : ℕ → Snapshots D → DeskTag D
    tag_at s store = record {
      session = s;
      stories = stories;
      budget = budget;
      cell = journal;
      store = store;
      rows = rows;
    }

    -- the tags of the desks of the sessions from this one on, with these stores
    abbrev pub tags_from : ℕ → List (Snapshots D) → List (Option (DeskTag D))
    tags_from s [] = []
    tags_from s (store ∷ stores) = Some (tag_at s store) ∷ tags_from (s + 1) stores

module _ {D : Type 0} where
  -- the stores of the sessions, as they were opened
  abbrev pub opened_stores : Host D → List (Snapshots D)
  opened_stores host = host.opened.value.items

  -- the journal's rows as the host was opened
  abbrev pub rows_at_opening : Host D → List Row
  rows_at_opening host = rows_of (seen host.root)

  -- the tags of its desks
  abbrev pub tags_in : Host D → List (Option (DeskTag D))
  tags_in host = tags_from host.stories.now host.budget (cell_id host.journal)
      (rows_at_opening host) 0 (opened_stores host)

  -- the tag is that of the desk of this session
  abbrev pub IsTagOf : Host D → ℕ → Option (DeskTag D) → Type 0
  IsTagOf host s tag = (store : Snapshots D)
      × (slice_get (opened_stores host) s ≡ Some store)
      × (tag ≡ Some (tag_at host.stories.now host.budget (cell_id host.journal)
      (rows_at_opening host) s store))

  -- what holds of each host
  pub record IsHost (host : Host D) : Type 0 where
    pub many : length host.desks.items ≡ 64
    pub stores : length (opened_stores host) ≡ 64
    pub budget : IsBudget host.budget
    -- the root of the journal's cell, from which the desks' passes were split
    pub root : IsOf host.journal host.root × IsOutside host.root
    pub numbered : (pass_number host.root ≡ 0) × (pass_numbers host.root ≡ 0 ∷ [])
    -- room for the stores' disks
    pub room : (host.room.items ≡ []) × (64 ≤ vec_capacity host.room)

  -- the passes are of this host, one for each session
  pub record AreOf (host : Host D) (passes : Passes D) : Type 0 where
    pub whole : IsHost host
    pub each : ArePasses desk_tag (tags_in host) host.desks.items passes.desks.items

  -- The host is sound: the stores' disks tell their bytes, and as it was opened each store's areas
  -- agreed with the journal's rows.
  abbrev pub IsSound : DiskWords D → Host D → Type 0
  IsSound disks host =
      (s : ℕ) (store : Snapshots D) → slice_get (opened_stores host) s ≡ Some store
      → IsSoundDesk disks (tag_at host.stories.now host.budget (cell_id host.journal)
      (rows_at_opening host) s store)

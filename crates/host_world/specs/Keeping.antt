-- The snapshot of a session that is due, and its put (own).
use Rattle.std.specs.Prelude.{◌≡◌, ℕ, ◌^◌, ◌&&◌, nat_lt, not, if◌then◌else◌, Bool}
use Rattle.std.specs.Prelude.{List, length, set, Option, Some, None, option_map}
use Rattle.std.specs.List.{slice_get}
use Rattle.gate_journal.specs.Rows.{commands_of}
use Rattle.gate_journal.specs.declared.command.Command.{Command}
use Rattle.gate_journal.specs.declared.row.Row.{Row}
use Rattle.story_run.specs.declared.story.Story.{Story}
use Rattle.story_run.specs.World.{WorldState}
use Rattle.story_snap.specs.Bytes.{HasBytes}
use Rattle.story_snap.specs.Fields.{fields_of}
use Rattle.snap_fields.specs.Printing.{print_fields}
use Rattle.snap_store.specs.declared.slot.Slots.{Slots}
use Rattle.session_core.specs.Checks.{is_other_story}
use Rattle.session_core.specs.History.{game_of, is_in_use, world_of}
use Rattle.session_saves.specs.Agreement.{last_row, opens_of}
use Rattle.session_saves.specs.Game.{inputs_of}
use Rattle.session_saves.specs.Saves.{due_in}
use Rattle.store_events.specs.declared.event.FileEvent.{FileEvent}
use Rattle.store_events.specs.declared.event.FileEvent.TheVariants.{Keep}
use Rattle.store_events.specs.declared.state.StoreState.{StoreState}
use Rattle.store_events.specs.Events.{file_after}
use Rattle.store_events.specs.Rows.{session_in_rows}
use Rattle.store_events.specs.Session.{IsSnapshotOfGame}
use Rattle.host_world.specs.declared.keeping.Snapshot.{Snapshot}

-- an area's head has room for these numbers
abbrev pub fits_head : ℕ → ℕ → Bool
fits_head place count = nat_lt place (2 ^ 64) && nat_lt count (2 ^ 32)

-- a snapshot after so many inputs is due in a file of which this is known, and not stored there
abbrev pub is_due_at : Slots → ℕ → ℕ → Bool
is_due_at slots place count = fits_head place count && due_in slots None place count

module _ (stories : List Story) where
  -- the snapshot of the world that a game has come to behind an OPEN row at this place, where its
  -- story is there
  abbrev pub snapshot_of : List Command → ℕ → Option Snapshot
  snapshot_of game place =
      option_map (λ (world : WorldState). record {
        place = place;
        count = length (inputs_of game);
        bytes = print_fields (fields_of world);
      }) (world_of stories game)

  -- the same where the session is in use, it is due, and the story handed in has the row's digest
  abbrev pub due_behind : List Command → Slots → Option ℕ → Option Snapshot
  due_behind game slots None = None
  due_behind game slots (Some place) =
      if is_in_use game
      && (is_due_at slots place (length (inputs_of game)) && not (is_other_story stories game))
      then snapshot_of game place
      else None

  -- that of a session by a journal's rows
  abbrev pub due_snapshot : List Row → ℕ → StoreState → Option Snapshot
  due_snapshot rows s x =
      due_behind (game_of (commands_of rows s)) x.slots (last_row (opens_of rows s))

  -- it has the bytes of the world that the game has come to
  pub record HasWorldOf (game : List Command) (snapshot : Snapshot) : Type 0 where
    pub world : WorldState
    pub comes : world_of stories game ≡ Some world
    pub has : HasBytes world.image snapshot.bytes world

  -- it is the session's own
  abbrev pub IsOwnSnapshot : List Row → ℕ → StoreState → Snapshot → Type 0
  IsOwnSnapshot rows s x snapshot =
      IsSnapshotOfGame stories (session_in_rows rows s x)
      snapshot.place snapshot.count snapshot.bytes

-- the files, where one of them has lived through an event of its own
abbrev pub file_set : List StoreState → ℕ → FileEvent → Option StoreState → List StoreState
file_set stores s event None = stores
file_set stores s event (Some x) = set stores s (file_after x event)

abbrev pub with_event : List StoreState → ℕ → FileEvent → List StoreState
with_event stores s event = file_set stores s event (slice_get stores s)

-- the put of a snapshot begins, where there is one
abbrev pub put_begun : List StoreState → ℕ → Option Snapshot → List StoreState
put_begun stores s None = stores
put_begun stores s (Some x) = with_event stores s (Keep x.place x.count x.bytes)

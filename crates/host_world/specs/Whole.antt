-- A host with the snapshot files of its sessions, after an event and after a list of events (own).
use Rattle.std.specs.Prelude.{ℕ, ◌-◌, ◌==◌, ◌&&◌, not, if◌then◌else◌, Bool, true, false}
use Rattle.std.specs.Prelude.{List, [], ◌∷◌, ◌++◌, map, Option, Some, None}
use Rattle.std.specs.List.{slice_get}
use Rattle.disk_model.specs.Plain.{is_image}
use Rattle.story_run.specs.declared.story.Story.{Story}
use Rattle.store_events.specs.declared.event.FileEvent.TheVariants as files
use Rattle.store_events.specs.declared.state.StoreState.{StoreState}
use Rattle.store_events.specs.Events.{is_opening, is_putting, begins_opening, file_after}
use Rattle.store_events.specs.Events.{store_down_over as file_down}
use Rattle.host_world.specs.declared.event.JournalEvent.{JournalEvent}
use Rattle.host_world.specs.declared.event.JournalEvent.TheVariants as journal
use Rattle.host_world.specs.declared.keeping.Snapshot.{Snapshot}
use Rattle.host_world.specs.declared.state.JournalHost.{JournalHost}
use Rattle.host_world.specs.declared.whole.Event.{Event}
use Rattle.host_world.specs.declared.whole.Event.TheVariants.{Take, Want, Hold, Call, Free, Run}
use Rattle.host_world.specs.declared.whole.Event.TheVariants.{Keep, Accept, Give, Stop, Recover}
use Rattle.host_world.specs.declared.whole.HostState.{HostState}
use Rattle.host_world.specs.Events.{holds_journal, run}
use Rattle.host_world.specs.Keeping.{due_snapshot, put_begun, with_event}
use Rattle.host_world.specs.Reading.{row_behind_gate, rows_in}
use Rattle.host_world.specs.Starts.{down_over, rows_or_none}

-- the journal and each file are opened
abbrev pub all_up : List StoreState → Bool
all_up [] = true
all_up (x ∷ stores) = x.up && all_up stores

abbrev pub is_up : HostState → Bool
is_up w = w.host.up && all_up w.stores

-- a stop may leave these images of the files
abbrev pub are_images : List StoreState → List (List ℕ) → Bool
are_images [] [] = true
are_images [] (image ∷ images) = false
are_images (x ∷ stores) [] = false
are_images (x ∷ stores) (image ∷ images) = is_image x.disk image && are_images stores images

-- no put of a file is under way
abbrev pub no_put : Option StoreState → Bool
no_put None = true
no_put (Some x) = not (is_putting x.step)

-- the opening of a file failed in this call
abbrev pub fails : StoreState → StoreState → Bool
fails x y = is_opening x.step && (not (is_opening y.step) && not y.up)

abbrev pub fails_at : Option StoreState → Bool → List ℕ → Bool
fails_at None good reads = false
fails_at (Some x) good reads = fails x (file_after x (files.Call good reads))

-- The host, of which a file can't be opened, is down again: nothing is pending in its journal, so
-- it stays as it reads.
abbrev pub closes_host : JournalHost → List JournalEvent
closes_host w = journal.Stop (w.disk.seen ∷ []) ∷ []

-- What an event is to the host with its journal alone: nothing where it isn't enabled.
abbrev pub to_host : HostState → Event → List JournalEvent
to_host w (Take s pass line) = if is_up w then journal.Take s pass line ∷ [] else []
to_host w (Want s) = journal.Want s ∷ []
to_host w (Hold s) = journal.Hold s ∷ []
to_host w (Call disk good reads) =
    if disk == 0 then journal.Call 0 good reads ∷ []
    else if w.host.up && fails_at (slice_get w.stores (disk - 1)) good reads then closes_host w.host
    else []
to_host w (Free s) = journal.Free s ∷ []
to_host w (Run s found) = journal.Run s found ∷ []
to_host w (Keep s) = []
to_host w (Accept s) = journal.Accept s ∷ []
to_host w (Give s) = if no_put (slice_get w.stores s) then journal.Give s ∷ [] else []
to_host w (Stop []) = []
to_host w (Stop (image ∷ images)) =
    if is_image w.host.disk image && are_images w.stores images
    then journal.Stop (image ∷ []) ∷ []
    else []
to_host w Recover =
    if is_up w then []
    else (if w.host.up then closes_host w.host else []) ++ journal.Recover ∷ []

-- each file holds its image
abbrev pub stopped_files : List StoreState → List (List ℕ) → List StoreState
stopped_files [] images = []
stopped_files (x ∷ stores) [] = x ∷ stores
stopped_files (x ∷ stores) (image ∷ images) =
    file_after x (files.Stop image) ∷ stopped_files stores images

-- with another host, or other files
abbrev pub with_host : HostState → JournalHost → HostState
with_host w host = record { host = host; stores = w.stores }

abbrev pub with_files : HostState → List StoreState → HostState
with_files w stores = record { host = w.host; stores = stores }

module _ (stories : List Story) where
  -- The snapshot of a session that is due: by its synced rows, where the host is up and the turn of
  -- the session doesn't hold the journal.
  abbrev pub put_in : HostState → ℕ → Option StoreState → Option Snapshot
  put_in w s None = None
  put_in w s (Some x) =
      if is_up w && not (holds_journal w.host s) then due_snapshot stories w.host.rows s x else None

  abbrev pub put_of : HostState → ℕ → Option Snapshot
  put_of w s = put_in w s (slice_get w.stores s)

  -- What an event is to the files. A file is called once the journal is open.
  abbrev pub to_files : HostState → Event → List StoreState
  to_files w (Take s pass line) = w.stores
  to_files w (Want s) = w.stores
  to_files w (Hold s) = w.stores
  to_files w (Call disk good reads) =
      if disk == 0 then w.stores
      else if w.host.up then with_event w.stores (disk - 1) (files.Call good reads)
      else w.stores
  to_files w (Free s) = w.stores
  to_files w (Run s found) = w.stores
  to_files w (Keep s) = put_begun w.stores s (put_of w s)
  to_files w (Accept s) = w.stores
  to_files w (Give s) = w.stores
  to_files w (Stop []) = w.stores
  to_files w (Stop (image ∷ images)) =
      if is_image w.host.disk image && are_images w.stores images
      then stopped_files w.stores images
      else w.stores
  to_files w Recover = if is_up w then w.stores else map begins_opening w.stores

module _ (stories : List Story) (budget : ℕ) where
  -- the host and its files after an event, and after these, one after the other
  abbrev pub whole_after : HostState → Event → HostState
  whole_after w event =
      record {
        host = run stories budget w.host (to_host w event);
        stores = to_files stories w event;
      }

  abbrev pub whole_run : HostState → List Event → HostState
  whole_run w [] = w
  whole_run w (event ∷ events) = whole_run (whole_after w event) events

  -- what the host with its journal alone lives through
  abbrev pub all_to_host : HostState → List Event → List JournalEvent
  all_to_host w [] = []
  all_to_host w (event ∷ events) = to_host w event ++ all_to_host (whole_after w event) events

-- a host that is down over these bytes, with nothing pending in its disks
abbrev pub file_over : List ℕ → StoreState
file_over bytes = file_down bytes

abbrev pub whole_down : List ℕ → List (List ℕ) → HostState
whole_down bytes files =
    record {
      host = down_over bytes (rows_or_none (rows_in bytes))
          (row_behind_gate bytes (rows_in bytes));
      stores = map file_over files;
    }

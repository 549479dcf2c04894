-- What holds of a host with the snapshot files of its sessions, whatever happens (own).
use Rattle.std.specs.Prelude.{◌≡◌, ℕ, ◌≤◌, List, [], ◌∷◌, ◌++◌, length, Some, None}
use Rattle.std.specs.List.{slice_get}
use Rattle.disk_model.specs.DiskState.{IsDiskImage}
use Rattle.gate_journal.specs.declared.command.Command.{Command}
use Rattle.gate_journal.specs.declared.row.Row.{Row}
use Rattle.gate_journal.specs.Log.{MayOpen}
use Rattle.gate_journal.specs.Rows.{IsJournal, commands_of}
use Rattle.story_run.specs.declared.story.Story.{Story}
use Rattle.session_core.specs.History.{game_of}
use Rattle.session_core.specs.Turning.{commands_in}
use Rattle.snap_store.specs.File.{area_given, newest_area}
use Rattle.session_saves.specs.Agreement.{IsAgreedFile, last_row, opens_of}
use Rattle.session_saves.specs.Game.{inputs_of, turns_after}
use Rattle.session_saves.specs.Warming.{count_in}
use Rattle.store_events.specs.declared.state.StoreState.{StoreState}
use Rattle.store_events.specs.Rows.{session_in_rows, told_of}
use Rattle.store_events.specs.Session.{EachMissesNone, IsInAgreement, IsUpToDate}
use Rattle.host_world.specs.Events.{run}
use Rattle.host_world.specs.Headline.{AreGiven}
use Rattle.host_world.specs.Starts.{IsStart}
use Rattle.host_world.specs.declared.turn.Session.{Session}
use Rattle.host_world.specs.declared.whole.Event.{Event}
use Rattle.host_world.specs.declared.whole.HostState.{HostState}
use Rattle.host_world.specs.Whole.{all_to_host, whole_after, whole_run}

module _ (stories : List Story) (budget : ℕ) where
  -- each session's file is in agreement with its rows and its commands
  abbrev pub EachInAgreement : HostState → Type 0
  EachInAgreement w =
      (s : ℕ) (x : StoreState) → slice_get w.stores s ≡ Some x
      → IsInAgreement stories (session_in_rows w.host.rows s x)

  -- From a host that is opened or down these events lead to the host v.
  module _ (w : HostState) (events : List Event) (v : HostState) where
    -- What the host lived through with its journal alone, to which its theorems apply.
    abbrev pub LivesAsHost : Type 0
    LivesAsHost = v.host ≡ run stories budget w.host (all_to_host stories budget w events)

    -- What a session had accepted at some event when it had no turn under way, so all that was
    -- acknowledged, it keeps in its order, whatever comes.
    abbrev pub NothingIsLostInAll : Type 0
    NothingIsLostInAll =
        AreGiven stories budget → IsStart w.host → (earlier later : List Event)
        → events ≡ earlier ++ later → (s : ℕ) (x y : Session)
        → slice_get (whole_run stories budget w earlier).host.sessions s ≡ Some x
        → x.turn ≡ None → slice_get v.host.sessions s ≡ Some y
        → (more : List Command) × (commands_in y.history ≡ commands_in x.history ++ more)

    -- Each image that a stop may leave of a session's file agrees with its rows and its commands.
    abbrev pub FilesAgree : Type 0
    FilesAgree =
        AreGiven stories budget → IsStart w.host → EachInAgreement w
        → EachInAgreement v
        × ((s : ℕ) (x : StoreState) (image : List ℕ) → slice_get v.stores s ≡ Some x
        → IsDiskImage x.disk image
        → IsAgreedFile stories (opens_of v.host.rows s) (game_of (commands_of v.host.rows s)) image)

  -- Where this event adds a row of the session with an input, no snapshot of it is due.
  abbrev pub NoneIsMissed : ℕ → HostState → Event → Type 0
  NoneIsMissed s w event =
      (x : StoreState) (r : Row) → slice_get w.stores s ≡ Some x
      → (whole_after stories budget w event).host.rows ≡ w.host.rows ++ r ∷ []
      → EachMissesNone (session_in_rows w.host.rows s x) (told_of r s)

  abbrev pub NoneAreMissed : ℕ → HostState → List Event → Type 0
  NoneAreMissed s w [] = Unit {0}
  NoneAreMissed s w (event ∷ events) =
      NoneIsMissed s w event × NoneAreMissed s (whole_after stories budget w event) events

  -- A session of which no due snapshot was missed since it was up to date, at some point of the
  -- events, warms in at most 16 turns. So it is from the beginning, from the moment at which its last
  -- due snapshot is kept, and from the OPEN of its next game.
  abbrev pub SessionWarmsInSixteen : HostState → List Event → HostState → Type 0
  SessionWarmsInSixteen w events v =
      AreGiven stories budget → IsStart w.host → EachInAgreement w
      → (earlier later : List Event) → events ≡ earlier ++ later
      → (s : ℕ) (then_ last : StoreState)
      → slice_get (whole_run stories budget w earlier).stores s ≡ Some then_
      → IsUpToDate (session_in_rows (whole_run stories budget w earlier).host.rows s then_)
      → NoneAreMissed s (whole_run stories budget w earlier) later
      → slice_get v.stores s ≡ Some last
      → (place : ℕ) (image : List ℕ)
      → last_row (opens_of v.host.rows s) ≡ Some place → IsDiskImage last.disk image
      → turns_after stories (game_of (commands_of v.host.rows s))
      (count_in (area_given (newest_area place
      (length (inputs_of (game_of (commands_of v.host.rows s)))) image))) ≤ 16

-- Over a journal that an opening may meet, and files that agree with the rows that are read in it, a
-- list of events may begin at this host.
abbrev pub MayBegin : List ℕ → List (List ℕ) → HostState → Type 0
MayBegin journal files w =
    (rows : List Row) → IsJournal rows → MayOpen rows journal
    → IsStart w.host
    × ((stories : List Story) (budget : ℕ)
    → ((s : ℕ) (bytes : List ℕ) → slice_get files s ≡ Some bytes
    → IsAgreedFile stories (opens_of w.host.rows s) (game_of (commands_of w.host.rows s)) bytes)
    → EachInAgreement stories budget w)

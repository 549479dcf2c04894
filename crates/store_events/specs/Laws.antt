-- Laws of a session's snapshot file, over every order of events (own).
use Rattle.std.specs.Prelude.{◌≡◌, ◌⊎◌, ℕ, ◌≤◌, ◌+◌, ◌*◌, List, Some}
use Rattle.std.specs.List.{Contains}
use Rattle.disk_model.specs.DiskState.{IsDiskImage}
use Rattle.gate_journal.specs.declared.command.Command.{Command}
use Rattle.story_run.specs.declared.story.Story.{Story}
use Rattle.snap_store.specs.declared.side.Side.{Side}
use Rattle.snap_store.specs.File.{Stored, area_given, newest_area, open_area}
use Rattle.snap_store.specs.Store.{IsImageOf}
use Rattle.session_saves.specs.Agreement.{IsAgreedFile, last_row}
use Rattle.session_saves.specs.Game.{turns_after}
use Rattle.session_saves.specs.Saves.{HasSince}
use Rattle.session_saves.specs.Warming.{count_in}
use Rattle.store_events.specs.declared.event.FileEvent.{FileEvent}
use Rattle.store_events.specs.declared.state.StoreState.{StoreState}
use Rattle.store_events.specs.Areas.{EachArea}
use Rattle.store_events.specs.Events.{file_after, store_down_over}
use Rattle.store_events.specs.Session.{EachMayCome, EachMissesNone, FileHappening, IsInAgreement}
use Rattle.store_events.specs.Session.{IsUpToDate, SessionState, inputs, lived}
use Rattle.store_events.specs.Steady.{IsSteady, seen_of, store_of}

-- Whatever happens, what is known of the gates holds in each image that a stop may leave, and each
-- image shows the store that these tell of.
pub record StaysSteady : Type 0 where
  pub begins : (bytes : List ℕ) → IsSteady (store_down_over bytes)
  pub goes_on :
      (w : StoreState) (event : FileEvent) → IsSteady w → IsSteady (file_after w event)
  pub shows :
      (w : StoreState) (image : List ℕ) → IsSteady w → IsDiskImage w.disk image
      → IsImageOf seen_of (store_of w) image

-- An area that is known to be open stays so, or a newer one of its OPEN row is, whatever the next
-- event is, where no area is of a later OPEN row; and it is open in each image.
pub record StaysOpen : Type 0 where
  pub goes_on :
      (w : StoreState) (event : FileEvent) (place least : ℕ) → IsSteady w
      → EachArea (λ area. area.place ≤ place) w → HasSince place least w.slots
      → HasSince place least (file_after w event).slots
  pub shows :
      (w : StoreState) (place least : ℕ) (image : List ℕ) → IsSteady w
      → HasSince place least w.slots → IsDiskImage w.disk image
      → (side : Side) × (area : Stored) × (open_area side image ≡ Some area)
      × (area.place ≡ place) × (least ≤ area.count)

-- Whatever happens to a session in whatever order, each image that a stop may leave of its file
-- agrees with its rows and its commands. So it begins over a file that agrees, of which nothing is
-- pending.
pub record StaysInAgreement (stories : List Story) : Type 0 where
  pub begins :
      (rows : List ℕ) (game : List Command) (bytes : List ℕ)
      → ((place : ℕ) → last_row rows ≡ Some place
      → (row : ℕ) → Contains rows row → row ≤ place)
      → IsAgreedFile stories rows game bytes
      → IsInAgreement stories (record { rows = rows; game = game; store = store_down_over bytes })
  pub goes_on :
      (x : SessionState) (past : List FileHappening)
      → IsInAgreement stories x → EachMayCome stories x past
      → IsInAgreement stories (lived x past)
  pub shows :
      (x : SessionState) (image : List ℕ) → IsInAgreement stories x
      → IsDiskImage x.store.disk image → IsAgreedFile stories x.rows x.game image

-- an area of the last OPEN row is open in the file that has all inputs behind it but the last 16
abbrev pub HasOpen : SessionState → List ℕ → Type 0
HasOpen x bytes =
    (side : Side) × (area : Stored) × (due : ℕ) × (open_area side bytes ≡ Some area)
    × (last_row x.rows ≡ Some area.place) × (due * 16 ≤ area.count)
    × (inputs x ≤ due * 16 + 16)

-- Of a session that misses no snapshot each image warms in at most 16 turns: those behind the
-- newest area of its last OPEN row, or behind the start. It begins so with at most 16 inputs, or
-- over a file in which such an area is open.
pub record WarmsInSixteen (stories : List Story) : Type 0 where
  pub begins :
      (rows : List ℕ) (game : List Command) (bytes : List ℕ)
      → (let x : SessionState =
      record { rows = rows; game = game; store = store_down_over bytes } in
      (inputs x ≤ 16) ⊎ HasOpen x bytes → IsUpToDate x)
  pub goes_on :
      (x : SessionState) (past : List FileHappening)
      → IsInAgreement stories x → EachMayCome stories x past
      → IsUpToDate x → EachMissesNone x past
      → IsUpToDate (lived x past)
  pub warms :
      (x : SessionState) (place : ℕ) (image : List ℕ)
      → IsInAgreement stories x → IsUpToDate x
      → last_row x.rows ≡ Some place → IsDiskImage x.store.disk image
      → turns_after stories x.game (count_in (area_given (newest_area place (inputs x) image))) ≤ 16

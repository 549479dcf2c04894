-- Hosts at which a list of events may begin (own).
use Rattle.std.specs.Prelude.{◌≡◌, ◌⊎◌, ℕ, true, false, List, [], length, Option, Some, None}
use Rattle.std.specs.Prelude.{IfSome}
use Rattle.std.specs.List.{slice_get}
use Rattle.disk_model.specs.DiskState.{IsDiskImage, settled}
use Rattle.gate_journal.specs.declared.row.Row.{Row}
use Rattle.gate_journal.specs.Gate.{IsShut}
use Rattle.gate_journal.specs.Rows.{journal_bytes, commands_of, IsJournal, IsNext}
use Rattle.gate_journal.specs.Log.{StandsInEither}
use Rattle.session_core.specs.Turning.{commands_in}
use Rattle.host_world.specs.declared.turn.Session.{Session}
use Rattle.host_world.specs.declared.state.Step.TheVariants.{Idle}
use Rattle.host_world.specs.declared.state.JournalHost.{JournalHost}
use Rattle.host_world.specs.Sessions.{found_sessions}

-- nothing is under way, no reply was given, and the commands of each of 64 sessions are its rows,
-- which a journal may have
pub record IsQuietHost (w : JournalHost) : Type 0 where
  pub journal : IsJournal w.rows
  pub reads : IsDiskImage w.disk w.disk.seen
  pub idle : w.step ≡ Idle
  pub silent : w.given ≡ []
  pub sessions : length w.sessions ≡ 64
  pub each :
      (s : ℕ) (x : Session) → slice_get w.sessions s ≡ Some x
      → (x.turn ≡ None) × (commands_of w.rows s ≡ commands_in x.history)

-- an opened host: each image of its disk has its rows and a closed gate
pub record IsOpenedState (w : JournalHost) : Type 0 where
  pub up : w.up ≡ true
  pub quiet : IsQuietHost w
  pub certain : w.uncertain ≡ None
  pub nobody : w.holder ≡ None
  pub shut : (c : List ℕ) → IsDiskImage w.disk c → IsShut (journal_bytes w.rows) c

-- a host that is down: each image, of either version, has its rows, and a closed gate or one of
-- which nothing is known before a row that may stand there
pub record IsDown (w : JournalHost) : Type 0 where
  pub down : w.up ≡ false
  pub quiet : IsQuietHost w
  pub next : IfSome w.uncertain (IsNext w.rows)
  pub stands : (c : List ℕ) → IsDiskImage w.disk c → StandsInEither w.rows w.uncertain c

abbrev pub IsStart : JournalHost → Type 0
IsStart w = IsOpenedState w ⊎ IsDown w

-- the rows that bytes spell, or none where they spell none
abbrev pub rows_or_none : Option (List Row) → List Row
rows_or_none None = []
rows_or_none (Some rows) = rows

-- a host that is down over these bytes, with nothing pending in its disk
abbrev pub down_over : List ℕ → List Row → Option Row → JournalHost
down_over bytes rows uncertain =
    record {
      up = false;
      sessions = found_sessions rows;
      given = [];
      disk = settled bytes;
      faults = 0;
      rows = rows;
      uncertain = uncertain;
      holder = None;
      step = Idle;
    }

-- What every event keeps.
use Rattle.std.proofs.Common.{Bool, List, None, Option, Some, [], false, length, true, ℕ, ◌++◌, ◌∷◌}
use Rattle.std.proofs.Common.{◌≡◌, ◌≢◌, ◌⊎◌}
use Rattle.std.specs.List.{slice_get}
use Rattle.std.specs.Prelude.{IfSome}
use Rattle.disk_model.specs.DiskState.{IsDiskImage}
use Rattle.gate_journal.specs.Gate.{IsShut, IsUnsure}
use Rattle.gate_journal.specs.Log.{StandsInEither, StandsInImage}
use Rattle.gate_journal.proofs.VersionLemmas.{stands_either}
use Rattle.gate_journal.specs.Rows.{IsJournal, IsNext, commands_of, journal_bytes, version_byte}
use Rattle.gate_journal.specs.declared.command.Command.{Command}
use Rattle.gate_journal.specs.declared.row.Row.{Row}
use Rattle.story_run.specs.declared.story.Story.{Story}
use Rattle.session_core.specs.Turning.{commands_in, decision_on, turn_of}
use Rattle.session_core.specs.declared.entry.Entry.{Entry}
use Rattle.session_core.specs.declared.entry.Outcome.{Outcome}
use Rattle.session_core.specs.declared.entry.Outcome.TheVariants.{OutOfMemory}
use Rattle.host_world.specs.Happenings.{Happening, history_left, replies_of, given_replies}
use Rattle.host_world.specs.Reading.{past_gate}
use Rattle.host_world.specs.Pending.{OneMore, pending}
use Rattle.host_world.specs.declared.state.JournalHost.{JournalHost}
use Rattle.host_world.specs.declared.state.Step.{Step}
use Rattle.host_world.specs.declared.state.Step.TheVariants.{AskSize, CloseSync, CloseWrite}
use Rattle.host_world.specs.declared.state.Step.TheVariants.{FirstSync, GateSync, GateWrite, Idle}
use Rattle.host_world.specs.declared.state.Step.TheVariants.{ReadAll, RepairSync, RepairWrite}
use Rattle.host_world.specs.declared.state.Step.TheVariants.{RowSync, RowWrite}
use Rattle.host_world.specs.declared.state.Step.TheVariants.{VersionSync, VersionWrite}
use Rattle.host_world.specs.declared.turn.Phase.{Phase}
use Rattle.host_world.specs.declared.turn.Phase.TheVariants.{Begun, Plain, Ready, Taken}
use Rattle.host_world.specs.declared.turn.Session.{Session}
use Rattle.host_world.specs.declared.turn.Turn.{Turn}

-- an outcome that a turn has once its append has begun
abbrev pub IsAppendOutcome : Outcome → Type 0
IsAppendOutcome OutOfMemory = ⊥
IsAppendOutcome outcome = Unit {0}

-- what stands in an image: of version 2 while the host is up, and of either while it is down
abbrev pub Stands : Bool → List Row → Option Row → List ℕ → Type 0
Stands true rows u c = StandsInImage rows u c
Stands false rows u c = StandsInEither rows u c

pub stands_either_way : (up : Bool) (rows : List Row) (u : Option Row) (c : List ℕ)
    → Stands up rows u c → StandsInEither rows u c
stands_either_way true rows u c stands = stands_either rows u c stands
stands_either_way false rows u c stands = stands

-- the rows that an opening may find of a host
abbrev pub MayBeFound : JournalHost → List Row → Type 0
MayBeFound w rows =
    (rows ≡ w.rows) ⊎ ((u : Row) × (w.uncertain ≡ Some u) × (rows ≡ w.rows ++ u ∷ []))

module _ (stories : List Story) (budget : ℕ) where
  -- an append of this row is under way
  pub record Busy (w : JournalHost) (r : Row) : Type 0 where
    pub up : w.up ≡ true
    pub next : IsNext w.rows r
    pub held : w.holder ≡ Some r.session
    pub asker : Session
    pub turn : Turn
    pub at : slice_get w.sessions r.session ≡ Some asker
    pub stands : asker.turn ≡ Some turn
    pub started : turn.phase ≡ Begun
    pub accepted : (decision_on stories budget (commands_in asker.history) turn.line).accepted
        ≡ Some (r.command)

  -- what is known between two device calls
  abbrev pub StepFact : JournalHost → Step → Type 0
  StepFact w Idle = Unit {0}
  StepFact w (RepairWrite r n) = Busy w r × ((u : Row) × (w.uncertain ≡ Some u))
  StepFact w (RepairSync r n) = Busy w r × IsShut (journal_bytes w.rows) w.disk.seen
  StepFact w (RowWrite r n) = Busy w r × (w.uncertain ≡ None)
  StepFact w (RowSync r n) =
      Busy w r × (w.uncertain ≡ None) × IsUnsure (journal_bytes w.rows) (past_gate r) w.disk.seen
  StepFact w (GateWrite r n) = Busy w r × (w.uncertain ≡ Some r)
  StepFact w (GateSync r n) =
      Busy w r × (w.uncertain ≡ Some r) × IsShut (journal_bytes (w.rows ++ r ∷ [])) w.disk.seen
  StepFact w FirstSync = w.up ≡ false
  StepFact w AskSize = (w.up ≡ false) × ((c : List ℕ) → IsDiskImage w.disk c → c ≡ w.disk.seen)
  StepFact w ReadAll = (w.up ≡ false) × ((c : List ℕ) → IsDiskImage w.disk c → c ≡ w.disk.seen)
  StepFact w (CloseWrite rows) =
      (w.up ≡ false) × (rows ≡ w.rows) × ((u : Row) × (w.uncertain ≡ Some u))
  StepFact w (CloseSync rows) =
      (w.up ≡ false) × (rows ≡ w.rows) × StandsInEither w.rows None w.disk.seen
  StepFact w (VersionWrite rows) =
      (w.up ≡ false) × MayBeFound w rows × StandsInEither rows None w.disk.seen
      × (version_byte w.disk.seen ≢ 1) × ((c : List ℕ) → IsDiskImage w.disk c → c ≡ w.disk.seen)
  StepFact w (VersionSync rows) =
      (w.up ≡ false) × MayBeFound w rows × IsShut (journal_bytes rows) w.disk.seen

  abbrev pub Accepts : List Entry → Turn → Type 0
  Accepts h t =
      (c : Command) × ((decision_on stories budget (commands_in h) t.line).accepted ≡ Some c)

  abbrev pub PhaseFact : List Entry → List Entry → Turn → Phase → Type 0
  PhaseFact before h t (Ready outcome) = (h ≡ before) × Accepts h t × IsAppendOutcome outcome
  PhaseFact before h t (Taken outcome reply) =
      turn_of stories budget before t.pass t.line outcome ≡ record { reply = reply; history = h }
  PhaseFact before h t (Plain outcome reply) =
      (h ≡ before) × (turn_of stories budget before t.pass t.line outcome
      ≡ record { reply = reply; history = h })
  PhaseFact before h t phase = (h ≡ before) × Accepts h t

  -- of the turn under way, over the history that the turns given have left
  abbrev pub TurnFact : List Entry → List Entry → Option Turn → Type 0
  TurnFact before h None = h ≡ before
  TurnFact before h (Some t) = PhaseFact before h t t.phase

  -- the rows of a session are its commands and the pending one; while the host is down, these or
  -- one more
  abbrev pub RowsFact : ℕ → List Row → Option Row → Session → Bool → Type 0
  RowsFact s rows uncertain x true =
      (commands_of rows s ≡ commands_in x.history ++ pending stories budget x)
      × IfSome uncertain (λ r. r.session ≡ s → pending stories budget x ≡ [])
  RowsFact s rows uncertain x false =
      (x.turn ≡ None) × OneMore (commands_in x.history) (commands_of rows s)
      × IfSome uncertain (λ r. OneMore (commands_in x.history) (commands_of (rows ++ r ∷ []) s))

  pub record Knows (h : List Entry) (past : List Happening) (w : JournalHost) (s : ℕ)
      (x : Session) : Type 0 where
    pub turn : TurnFact (history_left stories budget h past) x.history x.turn
    pub replies : given_replies s w.given ≡ replies_of stories budget h past
    pub rows : RowsFact s w.rows w.uncertain x w.up

  pub record Sound (first : ℕ → List Entry) (past : ℕ → List Happening)
      (w : JournalHost) : Type 0 where
    pub stays : IsDiskImage w.disk w.disk.seen
    pub images : (c : List ℕ) → IsDiskImage w.disk c → Stands w.up w.rows w.uncertain c
    pub journal : IsJournal w.rows
    pub next : IfSome w.uncertain (IsNext w.rows)
    pub sessions : length w.sessions ≡ 64
    pub step : StepFact w w.step
    pub each : (s : ℕ) (x : Session) → slice_get w.sessions s ≡ Some x
        → Knows (first s) (past s) w s x

-- The headline: what holds of each session, whatever happens in whatever order (own).
use Rattle.std.specs.Prelude.{◌≡◌, ℕ, ◌≤◌, Bool, true, false, List, [], ◌∷◌, ◌++◌, length, map}
use Rattle.std.specs.Prelude.{Some, None}
use Rattle.std.specs.List.{slice_get}
use Rattle.disk_model.specs.DiskState.{IsDiskImage}
use Rattle.gate_journal.specs.declared.command.Command.{Command}
use Rattle.gate_journal.specs.declared.row.Row.{Row}
use Rattle.gate_journal.specs.Command.{IsBudget}
use Rattle.gate_journal.specs.Rows.{commands_of, SpellsRows}
use Rattle.line_words.specs.declared.reply.No.TheVariants.{DiskFault}
use Rattle.line_words.specs.declared.reply.Reply.{Reply}
use Rattle.line_words.specs.declared.reply.Reply.TheVariants.{No}
use Rattle.story_run.specs.declared.story.Story.{Story}
use Rattle.session_core.specs.declared.entry.Outcome.{Outcome}
use Rattle.session_core.specs.declared.entry.Outcome.TheVariants.{DiskFailed}
use Rattle.session_core.specs.Turning.{commands_in}
use Rattle.host_world.specs.declared.turn.Session.{Session}
use Rattle.host_world.specs.declared.state.JournalHost.{JournalHost}
use Rattle.host_world.specs.declared.event.JournalEvent.{JournalEvent}
use Rattle.host_world.specs.declared.event.JournalEvent.TheVariants.{Call}
use Rattle.host_world.specs.Events.{after, run}
use Rattle.host_world.specs.Happenings.{Happening, Ended, Cut, Opened, cut_at, all_told}
use Rattle.host_world.specs.Happenings.{history_left, replies_of, given_replies}
use Rattle.host_world.specs.Pending.{OneMore, RowsOrOneMore, KeepsCommands}
use Rattle.host_world.specs.Starts.{IsStart}

-- stories and a budget that a host is given: each digest has 32 bytes
pub record AreGiven (stories : List Story) (budget : ℕ) : Type 0 where
  pub digests :
      (n : ℕ) (story : Story) → slice_get stories n ≡ Some story → length story.digest ≡ 32
  pub range : IsBudget budget

-- an opening gives the commands of before, or these and one more
abbrev pub FindsOneMore : Happening → Type 0
FindsOneMore (Opened commands) = length commands ≤ 1
FindsOneMore happening = Unit {0}

abbrev pub EachFindsOneMore : List Happening → Type 0
EachFindsOneMore [] = Unit {0}
EachFindsOneMore (one ∷ more) = FindsOneMore one × EachFindsOneMore more

-- without the two counts of a fault, and without the number of a pass
abbrev pub uncounted_outcome : Outcome → Outcome
uncounted_outcome (DiskFailed from to) = DiskFailed 0 0
uncounted_outcome outcome = outcome

abbrev pub uncounted : Happening → Happening
uncounted (Ended pass line outcome) = Ended 0 line (uncounted_outcome outcome)
uncounted (Cut pass line outcome) = Cut 0 line (uncounted_outcome outcome)
uncounted (Opened commands) = Opened commands

abbrev pub uncounted_reply : Reply → Reply
uncounted_reply (No (DiskFault from to)) = No (DiskFault 0 0)
uncounted_reply reply = reply

-- A session that was x as the events began is y behind them.
pub record Lives
    (stories : List Story)
    (budget s : ℕ)
    (x : Session)
    (past : List Happening)
    (w : JournalHost)
    (y : Session) : Type 0 where
  -- its history is the fold of its turns
  pub history : y.history ≡ history_left stories budget x.history (past ++ cut_at y.turn)
  -- the replies given to it are those of its turns
  pub replies : given_replies s w.given ≡ replies_of stories budget x.history past
  -- each opening gave the commands of before, or these and one more
  pub recovers : EachFindsOneMore past
  -- A stop now, of a host that is opened or down, leaves the rows of its journal, or these and the
  -- one behind the gate of which nothing is known: rows with the commands of the session, or with
  -- these and one more.
  pub stop :
      (image : List ℕ) → IsDiskImage w.disk image
      → (rows : List Row) × SpellsRows image rows
      × RowsOrOneMore w rows
      × OneMore (commands_in y.history) (commands_of rows s)
      × (w.up ≡ true → KeepsCommands stories budget s w y rows)

-- From a host w that is opened or down these events lead to the host v.
module _ (stories : List Story) (budget : ℕ) (w : JournalHost) (events : List JournalEvent)
    (v : JournalHost) where
  -- each session lives so
  abbrev pub EachLives : Type 0
  EachLives = AreGiven stories budget → IsStart w → (s : ℕ) (x y : Session)
      → slice_get w.sessions s ≡ Some x → slice_get v.sessions s ≡ Some y
      → Lives stories budget s x (all_told stories budget s w events) v y

  -- The call with which an opening ends well finds the rows of before, or these and the one behind
  -- the gate of which nothing was known.
  abbrev pub OpeningsFindRows : Type 0
  OpeningsFindRows = AreGiven stories budget → IsStart w → (earlier later : List JournalEvent)
      → (disk : ℕ) (good : Bool) (reads : List ℕ)
      → events ≡ earlier ++ Call disk good reads ∷ later
      → (run stories budget w earlier).up ≡ false
      → (after stories budget (run stories budget w earlier) (Call disk good reads)).up ≡ true
      → RowsOrOneMore (run stories budget w earlier)
      (after stories budget (run stories budget w earlier) (Call disk good reads)).rows

  -- What a session had accepted at some event when it had no turn under way, so all that was
  -- acknowledged, it keeps in its order, whatever comes.
  abbrev pub NothingIsLost : Type 0
  NothingIsLost = AreGiven stories budget → IsStart w → (earlier later : List JournalEvent)
      → events ≡ earlier ++ later → (s : ℕ) (x y : Session)
      → slice_get (run stories budget w earlier).sessions s ≡ Some x → x.turn ≡ None
      → slice_get v.sessions s ≡ Some y
      → (more : List Command) × (commands_in y.history ≡ commands_in x.history ++ more)

  -- Another list of events that tells the same of a session gives it the same replies, but for the
  -- counts of faults, whatever else it holds.
  abbrev pub EventsAreIsolated : Type 0
  EventsAreIsolated =
      AreGiven stories budget → IsStart w → (other : JournalHost) (others : List JournalEvent)
      → IsStart other → (s : ℕ) (x y : Session)
      → slice_get w.sessions s ≡ Some x → slice_get other.sessions s ≡ Some y
      → commands_in x.history ≡ commands_in y.history
      → map uncounted (all_told stories budget s w events)
      ≡ map uncounted (all_told stories budget s other others)
      → map uncounted_reply (given_replies s v.given)
      ≡ map uncounted_reply (given_replies s (run stories budget other others).given)

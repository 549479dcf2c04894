-- The host after an event, and after a list of events (own).
use Rattle.std.specs.Prelude.{ℕ, ◌==◌, if◌then◌else◌, Bool, false, List, [], ◌∷◌, ◌++◌, map, set}
use Rattle.std.specs.Prelude.{Option, Some, None}
use Rattle.std.specs.List.{slice_get}
use Rattle.disk_model.specs.DiskState.{settled}
use Rattle.gate_journal.specs.declared.command.Command.{Command}
use Rattle.gate_journal.specs.declared.row.Row.{Row}
use Rattle.gate_journal.specs.Log.{next_row}
use Rattle.line_words.specs.declared.reply.No.TheVariants.{NoMemory}
use Rattle.line_words.specs.declared.reply.Reply.{Reply}
use Rattle.line_words.specs.declared.reply.Reply.TheVariants.{No}
use Rattle.story_run.specs.declared.story.Story.{Story}
use Rattle.session_core.specs.declared.entry.Outcome.TheVariants.{Answered, DiskFailed}
use Rattle.session_core.specs.declared.entry.Outcome.TheVariants.{OutOfMemory, Forgotten}
use Rattle.session_core.specs.Turning.{commands_in, decision_on, turn_of}
use Rattle.host_world.specs.declared.turn.Phase.{Phase}
use Rattle.host_world.specs.declared.turn.Phase.TheVariants.{Asked, Begun, Kept, Broken, Freed}
use Rattle.host_world.specs.declared.turn.Phase.TheVariants.{Ready, Plain}
use Rattle.host_world.specs.declared.turn.Turn.{Turn}
use Rattle.host_world.specs.declared.turn.Session.{Session}
use Rattle.host_world.specs.declared.state.Step.{Step}
use Rattle.host_world.specs.declared.state.Step.TheVariants.{Idle, RepairWrite, RowWrite, FirstSync}
use Rattle.host_world.specs.declared.state.JournalHost.{JournalHost}
use Rattle.host_world.specs.declared.event.JournalEvent.{JournalEvent}
use Rattle.host_world.specs.declared.event.JournalEvent.TheVariants.{Take, Want, Hold, Call, Free, Run}
use Rattle.host_world.specs.declared.event.JournalEvent.TheVariants.{Accept, Give, Stop, Recover}
use Rattle.disk_model.specs.Plain.{is_image}
use Rattle.host_world.specs.Journal.{next_call, sessions_with, host_called}
use Rattle.host_world.specs.Sessions.{phase_of, asking, taking, without_turn, in_phase}
use Rattle.host_world.specs.Sessions.{ready_reply, turn_ended}

-- this session holds the journal
abbrev pub held_by : Option ℕ → ℕ → Bool
held_by None s = false
held_by (Some t) s = t == s

abbrev pub holds_journal : JournalHost → ℕ → Bool
holds_journal w s = held_by w.holder s

-- who holds the journal where this session gives it back
abbrev pub freed_by : JournalHost → ℕ → Option ℕ
freed_by w s = if holds_journal w s then None else w.holder

-- the turn of a session goes on to this phase
abbrev pub goes_to : JournalHost → ℕ → Phase → Option ℕ → JournalHost
goes_to w s phase holder = record w { sessions = sessions_with w s phase; holder = holder }

-- Want: `NO 12` is ready. So it may be in place of another reply that has no entry.
abbrev pub want : JournalHost → ℕ → Option Phase → JournalHost
want w s (Some Asked) = goes_to w s (Plain OutOfMemory (No NoMemory)) (freed_by w s)
want w s (Some (Plain outcome reply)) =
    goes_to w s (Plain OutOfMemory (No NoMemory)) w.holder
want w s other = w

-- Hold, where nobody holds the journal
abbrev pub hold : JournalHost → ℕ → Option Phase → Option ℕ → JournalHost
hold w s (Some Asked) None = record w { holder = Some s }
hold w s other holder = w

-- Free: after a failure the reply is ready, with the disk's counts
abbrev pub free : JournalHost → ℕ → Option Phase → JournalHost
free w s (Some Kept) = goes_to w s Freed None
free w s (Some (Broken from to)) = goes_to w s (Ready (DiskFailed from to)) None
free w s other = w

-- Run: the reply is ready
abbrev pub run_turn : JournalHost → ℕ → Bool → Option Phase → JournalHost
run_turn w s found (Some Freed) =
    goes_to w s (Ready (if found then Answered else Forgotten)) w.holder
run_turn w s found other = w

-- a session is this from now on, and these replies are given
abbrev pub with_session : JournalHost → ℕ → Session → JournalHost
with_session w s x = record w { sessions = set w.sessions s x }

-- Give: the reply that is ready is given, and the turn is over
abbrev pub gives_reply : JournalHost → ℕ → Option Reply → JournalHost
gives_reply w s None = w
gives_reply w s (Some reply) =
    record w {
      sessions = turn_ended w.sessions s (slice_get w.sessions s);
      given = w.given ++ record { session = s; reply = reply } ∷ [];
    }

-- the first step of an append: a gate of which nothing is known is closed first
abbrev pub first_step : Option Row → Row → ℕ → Step
first_step None r from = RowWrite r from
first_step (Some u) r from = RepairWrite r from

-- the append of this row begins
abbrev pub begun_with : JournalHost → Row → JournalHost
begun_with w r =
    record w {
      sessions = sessions_with w r.session Begun;
      step = first_step w.uncertain r w.faults;
    }

-- Stop: the disk holds the image, the host is down, and no turn stands
abbrev pub stopped : JournalHost → List ℕ → JournalHost
stopped w image =
    record w {
      up = false;
      sessions = map without_turn w.sessions;
      disk = settled image;
      holder = None;
      step = Idle;
    }

abbrev pub stop : JournalHost → List (List ℕ) → JournalHost
stop w (image ∷ []) = if is_image w.disk image then stopped w image else w
stop w images = w

-- Call: the next call of the journal's disk
abbrev pub call_next : JournalHost → JournalHost → Bool → List ℕ → JournalHost
call_next w new good reads = host_called w new good reads new.step (next_call new.rows new.step)

-- by the stories that the host was handed and the budget of its turns
module _ (stories : List Story) (budget : ℕ) where
  -- Take, where the session has no turn
  abbrev pub take_turn : JournalHost → ℕ → ℕ → List ℕ → Session → Option Turn → JournalHost
  take_turn w s pass line x (Some t) = w
  take_turn w s pass line x None =
      with_session w s
      (asking x pass line (decision_on stories budget (commands_in x.history) line))

  abbrev pub takes_at : JournalHost → ℕ → ℕ → List ℕ → Option Session → JournalHost
  takes_at w s pass line None = w
  takes_at w s pass line (Some x) = take_turn w s pass line x x.turn

  -- Accept: the history takes the entry
  abbrev pub accept : JournalHost → ℕ → Session → Turn → Phase → JournalHost
  accept w s x t (Ready outcome) =
      with_session w s
      (taking t outcome (turn_of stories budget x.history t.pass t.line outcome))
  accept w s x t phase = w

  abbrev pub accept_turn : JournalHost → ℕ → Session → Option Turn → JournalHost
  accept_turn w s x None = w
  accept_turn w s x (Some t) = accept w s x t t.phase

  abbrev pub accept_at : JournalHost → ℕ → Option Session → JournalHost
  accept_at w s None = w
  accept_at w s (Some x) = accept_turn w s x x.turn

  -- the append of who holds the journal begins with the first call
  abbrev pub begin_append : JournalHost → ℕ → Session → Turn → Phase → Option Command → JournalHost
  begin_append w s x t Asked (Some command) =
      record w {
        sessions = set w.sessions s (in_phase x t Begun);
        step = first_step w.uncertain (next_row w.rows s command) w.faults;
      }
  begin_append w s x t phase accepted = w

  abbrev pub begin_session_turn : JournalHost → ℕ → Session → Option Turn → JournalHost
  begin_session_turn w s x None = w
  begin_session_turn w s x (Some t) =
      begin_append w s x t t.phase
      (decision_on stories budget (commands_in x.history) t.line).accepted

  abbrev pub begin_session : JournalHost → ℕ → Option Session → JournalHost
  begin_session w s None = w
  begin_session w s (Some x) = begin_session_turn w s x x.turn

  abbrev pub begin_held : JournalHost → Step → Option ℕ → JournalHost
  begin_held w Idle (Some s) = begin_session w s (slice_get w.sessions s)
  begin_held w step holder = w

  abbrev pub begun : JournalHost → JournalHost
  begun w = begin_held w w.step w.holder

  -- the host after an event; one that isn't enabled leaves it
  abbrev pub after : JournalHost → JournalEvent → JournalHost
  after w (Take s pass line) =
      if w.up then takes_at w s pass line (slice_get w.sessions s) else w
  after w (Want s) = want w s (phase_of (slice_get w.sessions s))
  after w (Hold s) = hold w s (phase_of (slice_get w.sessions s)) w.holder
  after w (Call disk good reads) = if disk == 0 then call_next w (begun w) good reads else w
  after w (Free s) = if holds_journal w s then free w s (phase_of (slice_get w.sessions s)) else w
  after w (Run s found) = run_turn w s found (phase_of (slice_get w.sessions s))
  after w (Accept s) = accept_at w s (slice_get w.sessions s)
  after w (Give s) = gives_reply w s (ready_reply (phase_of (slice_get w.sessions s)))
  after w (Stop images) = stop w images
  after w Recover = if w.up then w else record w { step = FirstSync }

  -- the host after these events, one after the other
  abbrev pub run : JournalHost → List JournalEvent → JournalHost
  run w [] = w
  run w (event ∷ events) = run (after w event) events

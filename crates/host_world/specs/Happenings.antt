-- What events tell of a session, and the turns folded over it (own).
use Rattle.std.specs.Prelude.{ℕ, ◌==◌, ◌&&◌, not, if◌then◌else◌, List, [], ◌∷◌, ◌++◌, length, drop}
use Rattle.std.specs.Prelude.{Option, Some, None}
use Rattle.std.specs.List.{slice_get}
use Rattle.gate_journal.specs.declared.command.Command.{Command}
use Rattle.gate_journal.specs.Rows.{commands_of}
use Rattle.line_words.specs.declared.reply.Reply.{Reply}
use Rattle.story_run.specs.declared.story.Story.{Story}
use Rattle.session_core.specs.declared.entry.Entry.{Entry}
use Rattle.session_core.specs.declared.entry.Outcome.{Outcome}
use Rattle.session_core.specs.Turning.{commands_in, turn_of}
use Rattle.host_world.specs.declared.turn.Phase.{Phase}
use Rattle.host_world.specs.declared.turn.Phase.TheVariants.{Taken, Plain}
use Rattle.host_world.specs.declared.turn.Turn.{Turn}
use Rattle.host_world.specs.declared.turn.Session.{Session}
use Rattle.host_world.specs.declared.state.Given.{Given}
use Rattle.host_world.specs.declared.state.JournalHost.{JournalHost}
use Rattle.host_world.specs.declared.event.JournalEvent.{JournalEvent}
use Rattle.host_world.specs.declared.event.JournalEvent.TheVariants.{Call, Give, Stop}
use Rattle.disk_model.specs.Plain.{is_image}
use Rattle.host_world.specs.Sessions.{history_found}
use Rattle.host_world.specs.Events.{after}

-- What a session lived through: a turn, with its pass, its line and what it met; one whose entry
-- was taken and whose reply wasn't given as a stop came; or an opening, which gave the commands of
-- before and these.
pub data Happening : Type 0 where
  Ended : ℕ → List ℕ → Outcome → Happening
  Cut : ℕ → List ℕ → Outcome → Happening
  Opened : List Command → Happening

-- a turn ends when its reply is given
abbrev pub turn_over : Turn → Phase → List Happening
turn_over t (Taken outcome reply) = Ended t.pass t.line outcome ∷ []
turn_over t (Plain outcome reply) = Ended t.pass t.line outcome ∷ []
turn_over t phase = []

abbrev pub ended_at : Option Turn → List Happening
ended_at None = []
ended_at (Some t) = turn_over t t.phase

abbrev pub ended_in : Option Session → List Happening
ended_in None = []
ended_in (Some x) = ended_at x.turn

-- the turn under way, once its entry is taken
abbrev pub turn_cut : Turn → Phase → List Happening
turn_cut t (Taken outcome reply) = Cut t.pass t.line outcome ∷ []
turn_cut t phase = []

abbrev pub cut_at : Option Turn → List Happening
cut_at None = []
cut_at (Some t) = turn_cut t t.phase

abbrev pub cut_in : Option Session → List Happening
cut_in None = []
cut_in (Some x) = cut_at x.turn

-- what an opening gives besides the commands of before
abbrev pub further : Option Session → List Command → List Command
further None commands = commands
further (Some x) commands = drop (length (commands_in x.history)) commands

-- the host has come up: an opening ended well
abbrev pub news : ℕ → JournalHost → JournalHost → List Happening
news s old new =
    if not old.up && new.up
    then Opened (further (slice_get old.sessions s) (commands_of new.rows s)) ∷ []
    else []

-- a stop cuts off the turn of a session
abbrev pub lost : ℕ → JournalHost → List (List ℕ) → List Happening
lost s w (image ∷ []) =
    if is_image w.disk image then cut_in (slice_get w.sessions s) else []
lost s w images = []

-- the replies given to a session
abbrev pub given_replies : ℕ → List Given → List Reply
given_replies s [] = []
given_replies s (given ∷ more) =
    if given.session == s then given.reply ∷ given_replies s more else given_replies s more

module _ (stories : List Story) (budget : ℕ) where
  -- what an event tells of a session
  abbrev pub told : ℕ → JournalHost → JournalEvent → List Happening
  told s w (Give t) = if t == s then ended_in (slice_get w.sessions t) else []
  told s w (Call disk good reads) = news s w (after stories budget w (Call disk good reads))
  told s w (Stop images) = lost s w images
  told s w event = []

  -- what events tell of it, one after the other
  abbrev pub all_told : ℕ → JournalHost → List JournalEvent → List Happening
  all_told s w [] = []
  all_told s w (event ∷ events) =
      told s w event ++ all_told s (after stories budget w event) events

  -- the history that these leave
  abbrev pub history_left : List Entry → List Happening → List Entry
  history_left history [] = history
  history_left history (Ended pass line outcome ∷ more) =
      history_left (turn_of stories budget history pass line outcome).history more
  history_left history (Cut pass line outcome ∷ more) =
      history_left (turn_of stories budget history pass line outcome).history more
  history_left history (Opened commands ∷ more) =
      history_left (history_found (commands_in history ++ commands)) more

  -- the replies of the turns among them
  abbrev pub replies_of : List Entry → List Happening → List Reply
  replies_of history [] = []
  replies_of history (Ended pass line outcome ∷ more) =
      (turn_of stories budget history pass line outcome).reply
      ∷ replies_of (turn_of stories budget history pass line outcome).history more
  replies_of history (Cut pass line outcome ∷ more) =
      replies_of (turn_of stories budget history pass line outcome).history more
  replies_of history (Opened commands ∷ more) =
      replies_of (history_found (commands_in history ++ commands)) more

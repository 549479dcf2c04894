-- The entry of a turn, as its history takes it.
use Rattle.std.proofs.Common.{List, None, Option, Some, [], ap, arith, length, length-append, refl}
use Rattle.std.proofs.Common.{subst, sym, ℕ, ◌++◌, ◌<◌, ◌∙◌, ◌∷◌, ◌≡◌, ◌≤◌}
use Rattle.std.specs.List.{slice_get}
use Rattle.std.specs.Prelude.{IfSome}
use Rattle.gate_journal.specs.declared.command.Command.{Command}
use Rattle.line_words.specs.declared.reply.Reply.{Reply}
use Rattle.story_run.specs.declared.story.Story.{Story}
use Rattle.session_core.specs.Turning.{Turned, commands_in, decision_on, turn_met, turn_of}
use Rattle.session_core.specs.declared.decision.Decision.{Decision}
use Rattle.session_core.specs.declared.entry.Entry.{Entry}
use Rattle.session_core.specs.declared.entry.Entry.TheVariants.{Accepted}
use Rattle.session_core.specs.declared.entry.Outcome.{Outcome}
use Rattle.session_core.specs.declared.entry.Outcome.TheVariants.{Answered, DiskFailed, Forgotten}
use Rattle.session_core.specs.declared.entry.Outcome.TheVariants.{OutOfMemory}
use Rattle.host_world.specs.Events.{accept_at}
use Rattle.host_world.specs.Sessions.{taken_in, with_entry}
use Rattle.host_world.specs.declared.state.JournalHost.{JournalHost}
use Rattle.host_world.specs.declared.turn.Phase.TheVariants.{Ready, Taken}
use Rattle.host_world.specs.declared.turn.Session.{Session}
use Rattle.host_world.specs.declared.turn.Turn.{Turn}
use Rattle.host_world.proofs.Folds.{commands-accepted, commands-faulted, turn_is}

accepted_few : (h : List Entry) (by : ℕ) (c : Command) → length (commands_in h) < 8192
    → length (commands_in (h ++ Accepted by c ∷ [])) ≤ 8192
accepted_few h by c room =
    subst (λ (l : List Command). length l ≤ 8192) (sym (commands-accepted h by c))
    (omega (arith, room, length-append (commands_in h) (c ∷ [])))

turn_few : (h : List Entry) (by : ℕ) (reply : Reply) (accepted : Option Command)
    (outcome : Outcome) → length (commands_in h) ≤ 8192
    → IfSome accepted (λ (_ : Command). length (commands_in h) < 8192)
    → length (commands_in (turn_met h by reply accepted outcome).history) ≤ 8192
turn_few h by reply accepted OutOfMemory few room = few
turn_few h by reply None Answered few room = few
turn_few h by reply None (DiskFailed from to) few room = few
turn_few h by reply None Forgotten few room = few
turn_few h by reply (Some c) Answered few room = accepted_few h by c room
turn_few h by reply (Some c) (DiskFailed from to) few room =
    subst (λ (l : List Command). length l ≤ 8192) (sym (commands-faulted h by from to)) few
turn_few h by reply (Some c) Forgotten few room = accepted_few h by c room

module _ (h : List Entry) (by : ℕ) (commands : List Command) (d : Decision) (outcome : Outcome)
    (reply : Reply) (entry : Option Entry) (same : commands ≡ commands_in h)
    (met : turn_met h by d.reply d.accepted outcome
    ≡ record { reply = reply; history = with_entry h entry }) where
  -- there is room for it
  pub entry_fits : length commands ≤ 8192
      → IfSome d.accepted (λ (_ : Command). length commands < 8192)
      → length (commands_in (with_entry h entry)) ≤ 8192
  entry_fits few room =
      subst (λ (t : Turned). length (commands_in t.history) ≤ 8192) met
      (turn_few h by d.reply d.accepted outcome
      (subst (λ (l : List Command). length l ≤ 8192) same few)
      (subst (λ (l : List Command). IfSome d.accepted (λ (_ : Command). length l < 8192))
      same room))

  -- it is the turn's
  pub entry_is : (stories : List Story) (budget : ℕ) (line : List ℕ)
      → d ≡ decision_on stories budget commands line
      → turn_of stories budget h by line outcome
      ≡ record { reply = reply; history = with_entry h entry }
  entry_is stories budget line decided =
      turn_is stories budget h by line outcome
      ∙ ap (λ (e : Decision). turn_met h by e.reply e.accepted outcome)
      (sym (decided ∙ ap (λ (l : List Command). decision_on stories budget l line) same))
      ∙ met

-- so Accept is done once its session has it
pub accept_is : (stories : List Story) (budget : ℕ) (w : JournalHost) (s : ℕ) (x : Session) (t : Turn)
    (outcome : Outcome) (reply : Reply) (entry : Option Entry)
    → slice_get w.sessions s ≡ Some x → x.turn ≡ Some t → t.phase ≡ Ready outcome
    → turn_of stories budget x.history t.pass t.line outcome
    ≡ record { reply = reply; history = with_entry x.history entry }
    → record w {
      sessions = taken_in w.sessions s entry (Taken outcome reply) (slice_get w.sessions s);
    } ≡ accept_at stories budget w s (slice_get w.sessions s)
accept_is stories budget w s x t outcome reply entry at turn phase turned =
    rw (at, turn, phase, turned) refl

-- An append begins.
use Rattle.std.proofs.Common.{Bool, List, None, Option, Some, [], ap, arith, false, refl, set}
use Rattle.std.proofs.Common.{subst, sym, true, ℕ, ◌++◌, ◌∙◌, ◌≡◌}
use Rattle.std.proofs.lemmas.List.{append-nil}
use Rattle.std.proofs.lemmas.Option.{slice_get_within}
use Rattle.std.specs.List.{slice_get}
use Rattle.std.specs.Prelude.{IfSome}
use Rattle.gate_journal.specs.Log.{next_row}
use Rattle.gate_journal.specs.Rows.{IsNext, commands_of}
use Rattle.gate_journal.specs.declared.command.Command.{Command}
use Rattle.gate_journal.specs.declared.row.Row.{Row}
use Rattle.story_run.specs.declared.story.Story.{Story}
use Rattle.session_core.specs.Turning.{commands_in, decision_on}
use Rattle.session_core.specs.declared.entry.Entry.{Entry}
use Rattle.host_world.specs.Events.{begin_append, begin_held, begin_session}
use Rattle.host_world.specs.Events.{begin_session_turn, begun, first_step}
use Rattle.host_world.specs.Happenings.{Happening, history_left}
use Rattle.host_world.specs.Headline.{AreGiven}
use Rattle.host_world.specs.Pending.{pending}
use Rattle.host_world.specs.Sessions.{in_phase}
use Rattle.host_world.specs.declared.state.JournalHost.{JournalHost}
use Rattle.host_world.specs.declared.state.Step.{Step}
use Rattle.host_world.specs.declared.state.Step.TheVariants.{AskSize, CloseSync, CloseWrite}
use Rattle.host_world.specs.declared.state.Step.TheVariants.{FirstSync, GateSync, GateWrite, Idle}
use Rattle.host_world.specs.declared.state.Step.TheVariants.{ReadAll, RepairSync, RepairWrite}
use Rattle.host_world.specs.declared.state.Step.TheVariants.{RowSync, RowWrite}
use Rattle.host_world.specs.declared.state.Step.TheVariants.{VersionSync, VersionWrite}
use Rattle.host_world.specs.declared.turn.Phase.{Phase}
use Rattle.host_world.specs.declared.turn.Phase.TheVariants.{Asked, Begun, Broken, Freed, Kept}
use Rattle.host_world.specs.declared.turn.Phase.TheVariants.{Plain, Ready, Taken}
use Rattle.host_world.specs.declared.turn.Session.{Session}
use Rattle.host_world.specs.declared.turn.Turn.{Turn}
use Rattle.host_world.proofs.Accepting.{row_follows}
use Rattle.host_world.proofs.Lists.{false_true, get_here}
use Rattle.host_world.proofs.Phases.{turn_up}
use Rattle.host_world.proofs.Rephasing.{rephased}
use Rattle.host_world.proofs.Sound.{Busy, PhaseFact, RowsFact, Sound, StepFact, TurnFact}

module _ (stories : List Story) (budget : ℕ) (premise : AreGiven stories budget) where
  pub rows_up : (s : ℕ) (rows : List Row) (u : Option Row) (x : Session) (up : Bool) → up ≡ true
      → RowsFact stories budget s rows u x up
      → commands_of rows s ≡ commands_in x.history ++ pending stories budget x
  rows_up s rows u x true is fact = fact.0
  rows_up s rows u x false is fact = absurd (false_true is)

  pub rows_with : (s : ℕ) (rows : List Row) (u : Option Row) (x : Session) (up : Bool) → up ≡ true
      → commands_of rows s ≡ commands_in x.history ++ pending stories budget x
      → IfSome u (λ r. r.session ≡ s → pending stories budget x ≡ [])
      → RowsFact stories budget s rows u x up
  rows_with s rows u x true is same none = (same, none)
  rows_with s rows u x false is same none = absurd (false_true is)

  none_up : (s : ℕ) (rows : List Row) (u : Option Row) (x : Session) (up : Bool) → up ≡ true
      → RowsFact stories budget s rows u x up
      → IfSome u (λ r. r.session ≡ s → pending stories budget x ≡ [])
  none_up s rows u x true is fact = fact.1
  none_up s rows u x false is fact = absurd (false_true is)

  pub nothing_pending : (u : Option Row) (s : ℕ) (x : Session) → pending stories budget x ≡ []
      → IfSome u (λ r. r.session ≡ s → pending stories budget x ≡ [])
  nothing_pending None s x none = tt
  nothing_pending (Some r) s x none = λ is. none

  -- an append begins
  module _ (first : ℕ → List Entry) (past : ℕ → List Happening) (w : JournalHost)
      (sound : Sound stories budget first past w) where
    append_fact : (v : JournalHost) (r : Row) (n : ℕ) (u : Option Row) → v.uncertain ≡ u
        → Busy stories budget v r → StepFact stories budget v (first_step u r n)
    append_fact v r n None is busy = (busy, is)
    append_fact v r n (Some y) is busy = (busy, (y, is))

    begins : (s : ℕ) (x : Session) (t : Turn) → slice_get w.sessions s ≡ Some x → x.turn ≡ Some t
        → w.holder ≡ Some s → t.phase ≡ Asked → (c : Command)
        → (decision_on stories budget (commands_in x.history) t.line).accepted ≡ Some c
        → Sound stories budget first past
        (record w {
          sessions = set w.sessions s (in_phase x t Begun);
          step =
              first_step w.uncertain (next_row w.rows s c) w.faults;
        })
    begins s x t at turn held phase c accepted =
        let known = sound.each s x at in
        let up = turn_up stories budget s w.rows w.uncertain x t w.up known.rows turn in
        let none : pending stories budget x ≡ [] = rw (turn, phase) refl in
        let same : commands_of w.rows s ≡ commands_in x.history =
        rows_up s w.rows w.uncertain x w.up up known.rows
        ∙ ap (λ (l : List Command). commands_in x.history ++ l) none
        ∙ append-nil (commands_in x.history) in
        let next : IsNext w.rows (next_row w.rows s c) =
        row_follows stories budget premise w.rows s (commands_in x.history) t.line c
        (omega (arith, slice_get_within w.sessions s x at, sound.sessions)) sound.journal same
        accepted in
        let fact : PhaseFact stories budget
        (history_left stories budget (first s) (past s)) x.history t Asked =
        subst (λ (p : Phase). PhaseFact stories budget
        (history_left stories budget (first s) (past s)) x.history t p) phase
        (subst (λ (o : Option Turn). TurnFact stories budget
        (history_left stories budget (first s) (past s)) x.history o) turn known.turn) in
        rephased stories budget first past w s x t Begun w.disk w.faults w.rows w.uncertain
        (first_step w.uncertain (next_row w.rows s c) w.faults) sound record {
          at = at;
          stays = sound.stays;
          images = sound.images;
          journal = sound.journal;
          follows = sound.next;
          now = append_fact (record w {
            sessions = set w.sessions s (in_phase x t Begun);
            step =
                first_step w.uncertain (next_row w.rows s c) w.faults;
          })
              (next_row w.rows s c) w.faults w.uncertain refl record {
                up = up;
                next = next;
                held = held;
                asker = in_phase x t Begun;
                turn = record t { phase = Begun };
                at = get_here w.sessions s x (in_phase x t Begun) at;
                stands = refl;
                started = refl;
                accepted = accepted;
              };
          fact = fact;
          here = rows_with s w.rows w.uncertain (in_phase x t Begun) w.up up
              (same ∙ sym (append-nil (commands_in x.history)))
              (nothing_pending w.uncertain s (in_phase x t Begun) refl);
          elsewhere = λ m z other f. f;
        }

  -- what a beginning leaves
  pub record SameHost (w v : JournalHost) : Type 0 where
    pub up : v.up ≡ w.up
    pub rows : v.rows ≡ w.rows
    pub uncertain : v.uncertain ≡ w.uncertain

  same_host : (w : JournalHost) → SameHost w w
  same_host w = record { up = refl; rows = refl; uncertain = refl }

  module _ (first : ℕ → List Entry) (past : ℕ → List Happening) (w : JournalHost)
      (sound : Sound stories budget first past w) where
    as_it_is : Sound stories budget first past w × SameHost w w
    as_it_is = (sound, same_host w)

    at_phase : (s : ℕ) (x : Session) (t : Turn) → slice_get w.sessions s ≡ Some x → x.turn ≡ Some t
        → w.holder ≡ Some s → (phase : Phase) → t.phase ≡ phase → (o : Option Command)
        → (decision_on stories budget (commands_in x.history) t.line).accepted ≡ o
        → Sound stories budget first past (begin_append stories budget w s x t phase o)
        × SameHost w (begin_append stories budget w s x t phase o)
    at_phase s x t at turn held Asked is (Some c) accepted = (
      begins first past w sound s x t at turn held is c accepted,
      record
          { up = refl; rows = refl; uncertain = refl },
    )
    at_phase s x t at turn held Asked is None accepted = as_it_is
    at_phase s x t at turn held Begun is o accepted = as_it_is
    at_phase s x t at turn held Kept is o accepted = as_it_is
    at_phase s x t at turn held (Broken from to) is o accepted = as_it_is
    at_phase s x t at turn held Freed is o accepted = as_it_is
    at_phase s x t at turn held (Ready outcome) is o accepted = as_it_is
    at_phase s x t at turn held (Taken outcome reply) is o accepted = as_it_is
    at_phase s x t at turn held (Plain outcome reply) is o accepted = as_it_is

    at_turn : (s : ℕ) (x : Session) → slice_get w.sessions s ≡ Some x → w.holder ≡ Some s
        → (o : Option Turn) → x.turn ≡ o → Sound stories budget first past
        (begin_session_turn stories budget w s x o)
        × SameHost w (begin_session_turn stories budget w s x o)
    at_turn s x at held None turn = as_it_is
    at_turn s x at held (Some t) turn =
        at_phase s x t at turn held t.phase refl
        (decision_on stories budget (commands_in x.history) t.line).accepted refl

    at_session : (s : ℕ) → w.holder ≡ Some s → (o : Option Session) → slice_get w.sessions s ≡ o
        → Sound stories budget first past (begin_session stories budget w s o)
        × SameHost w (begin_session stories budget w s o)
    at_session s held None at = as_it_is
    at_session s held (Some x) at = at_turn s x at held x.turn refl

    at_step : (step : Step) (holder : Option ℕ) → w.holder ≡ holder
        → Sound stories budget first past (begin_held stories budget w step holder)
        × SameHost w (begin_held stories budget w step holder)
    at_step Idle None held = as_it_is
    at_step Idle (Some s) held = at_session s held (slice_get w.sessions s) refl
    at_step (RepairWrite r n) holder held = as_it_is
    at_step (RepairSync r n) holder held = as_it_is
    at_step (RowWrite r n) holder held = as_it_is
    at_step (RowSync r n) holder held = as_it_is
    at_step (GateWrite r n) holder held = as_it_is
    at_step (GateSync r n) holder held = as_it_is
    at_step FirstSync holder held = as_it_is
    at_step AskSize holder held = as_it_is
    at_step ReadAll holder held = as_it_is
    at_step (CloseWrite those) holder held = as_it_is
    at_step (CloseSync those) holder held = as_it_is
    at_step (VersionWrite those) holder held = as_it_is
    at_step (VersionSync those) holder held = as_it_is

    pub begun_well : Sound stories budget first past (begun stories budget w)
        × SameHost w (begun stories budget w)
    begun_well = at_step w.step w.holder refl

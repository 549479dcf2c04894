-- Take, Want, Hold, Free, Run and Accept keep what every event keeps.
use Rattle.std.proofs.Common.{Bool, List, None, Option, Some, [], ap, false, refl, subst, sym, true}
use Rattle.std.proofs.Common.{ℕ, ◌++◌, ◌∙◌, ◌≡◌, ◌≢◌}
use Rattle.std.proofs.lemmas.List.{append-nil}
use Rattle.std.specs.List.{slice_get}
use Rattle.std.specs.Prelude.{if◌then◌else◌}
use Rattle.gate_journal.specs.declared.command.Command.{Command}
use Rattle.line_words.specs.declared.reply.No.TheVariants.{NoMemory}
use Rattle.line_words.specs.declared.reply.Reply.{Reply}
use Rattle.line_words.specs.declared.reply.Reply.TheVariants.{No}
use Rattle.story_run.specs.declared.story.Story.{Story}
use Rattle.session_core.specs.Turning.{commands_in, decision_on, turn_met, turn_of}
use Rattle.session_core.specs.declared.entry.Entry.{Entry}
use Rattle.session_core.specs.declared.entry.Outcome.TheVariants.{Answered, DiskFailed, Forgotten}
use Rattle.session_core.specs.declared.entry.Outcome.TheVariants.{OutOfMemory}
use Rattle.host_world.specs.Events.{accept, free, freed_by, goes_to, hold, holds_journal, run_turn}
use Rattle.host_world.specs.Events.{take_turn, want}
use Rattle.host_world.specs.Happenings.{Happening, history_left, given_replies}
use Rattle.host_world.specs.Pending.{pending, pending_at, pending_of}
use Rattle.host_world.specs.Sessions.{asking, first_phase, in_phase, taking}
use Rattle.host_world.specs.declared.state.Given.{Given}
use Rattle.host_world.specs.declared.state.JournalHost.{JournalHost}
use Rattle.host_world.specs.declared.turn.Phase.{Phase}
use Rattle.host_world.specs.declared.turn.Phase.TheVariants.{Asked, Begun, Broken, Freed, Kept}
use Rattle.host_world.specs.declared.turn.Phase.TheVariants.{Plain, Ready, Taken}
use Rattle.host_world.specs.declared.turn.Session.{Session}
use Rattle.host_world.specs.declared.turn.Turn.{Turn}
use Rattle.host_world.proofs.Folds.{entry_rows, turn_is}
use Rattle.host_world.proofs.Lists.{false_true, some_none, some_same}
use Rattle.host_world.proofs.Moves.{moves}
use Rattle.host_world.proofs.Phases.{Quiet, goes_is, held_as, held_is, not_begun, turn_up, with_is}
use Rattle.host_world.proofs.Rephasing.{reached}
use Rattle.host_world.proofs.Sound.{Knows, PhaseFact, Sound, TurnFact}

module _ (stories : List Story) (budget : ℕ) where
  module _ (first : ℕ → List Entry) (past : ℕ → List Happening) (w : JournalHost)
      (sound : Sound stories budget first past w) (s : ℕ) (x : Session)
      (at : slice_get w.sessions s ≡ Some x) where
    pub knows_of : Knows stories budget (first s) (past s) w s x
    knows_of = sound.each s x at

    abbrev before : List Entry
    before = history_left stories budget (first s) (past s)

    module _ (t : Turn) (turn : x.turn ≡ Some t) where
      pub turn_is_up : w.up ≡ true
      turn_is_up = turn_up stories budget s w.rows w.uncertain x t w.up knows_of.rows turn

      pub fact_at : (phase : Phase) → t.phase ≡ phase
          → PhaseFact stories budget (history_left stories budget (first s)
          (past s)) x.history t phase
      fact_at phase is =
          subst (λ (p : Phase). PhaseFact stories budget
          (history_left stories budget (first s) (past s)) x.history t p) is
          (subst (λ (o : Option Turn). TurnFact stories budget
          (history_left stories budget (first s) (past s)) x.history o) turn knows_of.turn)

      pub pending_is : (phase : Phase) → t.phase ≡ phase
          → pending stories budget x ≡ pending_at stories budget
          (commands_in x.history) t.line phase
      pending_is phase is = rw (turn, is) refl

      pub quiet_is : (phase : Phase) → t.phase ≡ phase → Quiet stories budget phase → (u : Turn)
          → x.turn ≡ Some u → u.phase ≡ Begun → ⊥
      quiet_is phase is quiet u stands starts =
          not_begun stories budget phase quiet
          (sym is ∙ ap (λ (v : Turn). v.phase) (some_same t u (sym turn ∙ stands)) ∙ starts)

      -- from one phase to the next
      advance : (phase next : Phase) (holder : Option ℕ) → t.phase ≡ phase
          → Quiet stories budget phase → ((n : ℕ) → n ≢ s → w.holder ≡ Some n → holder ≡ Some n)
          → PhaseFact stories budget
          (history_left stories budget (first s) (past s)) x.history t next
          → pending_at stories budget (commands_in x.history) t.line next
          ≡ pending_at stories budget (commands_in x.history) t.line phase
          → Sound stories budget first past (goes_to w s next holder)
      advance phase next holder is quiet keeps fact same =
          subst (λ (v : JournalHost). Sound stories budget first past v)
          (goes_is stories budget w s x t next holder at turn)
          (moves stories budget first past past w s x (in_phase x t next) holder [] (record {
            at = at;
            up = turn_is_up;
            quiet = quiet_is phase is quiet;
            keeps = keeps;
            others = λ n other. (refl, refl);
            turn = reached stories budget before x.history t next next fact;
            replies = ap (λ (l : List Given). given_replies s l) (append-nil w.given)
                ∙ knows_of.replies;
            rows = ap (λ (l : List Command). commands_in x.history ++ l)
                (same ∙ sym (pending_is phase is));
            none = λ none. same ∙ sym (pending_is phase is) ∙ none;
          }) sound)

      no_room : (h : List Entry) → h ≡ before
          → turn_of stories budget (history_left stories budget (first s)
          (past s)) t.pass t.line OutOfMemory ≡ record { reply = No NoMemory; history = h }
      no_room h is =
          turn_is stories budget (history_left stories budget (first s)
          (past s)) t.pass t.line OutOfMemory
          ∙ ap (λ (l : List Entry). record { reply = No NoMemory; history = l }) (sym is)

      freed_keeps : (n : ℕ) → n ≢ s → w.holder ≡ Some n → freed_by w s ≡ Some n
      freed_keeps n other held =
          ap (λ (b : Bool). if b then None else w.holder)
          (held_is stories budget w.holder s n other held) ∙ held

      pub want_kept : (phase : Phase) → t.phase ≡ phase
          → Sound stories budget first past (want w s (Some phase))
      want_kept Asked is =
          advance Asked (Plain OutOfMemory (No NoMemory)) (freed_by w s) is tt freed_keeps
          ((fact_at Asked is).0, no_room x.history (fact_at Asked is).0) refl
      want_kept (Plain outcome reply) is =
          advance (Plain outcome reply) (Plain OutOfMemory (No NoMemory)) w.holder is tt
          (λ n other held. held) (
            (fact_at (Plain outcome reply) is).0,
            no_room x.history
                (fact_at (Plain outcome reply) is).0,
          ) refl
      want_kept Begun is = sound
      want_kept Kept is = sound
      want_kept (Broken from to) is = sound
      want_kept Freed is = sound
      want_kept (Ready outcome) is = sound
      want_kept (Taken outcome reply) is = sound

      pub run_kept : (good : Bool) (phase : Phase) → t.phase ≡ phase
          → Sound stories budget first past (run_turn w s good (Some phase))
      run_kept true Freed is =
          advance Freed (Ready Answered) w.holder is tt (λ n other held. held)
          ((fact_at Freed is).0, (fact_at Freed is).1, tt) refl
      run_kept false Freed is =
          advance Freed (Ready Forgotten) w.holder is tt (λ n other held. held)
          ((fact_at Freed is).0, (fact_at Freed is).1, tt) refl
      run_kept good Asked is = sound
      run_kept good (Plain outcome reply) is = sound
      run_kept good Begun is = sound
      run_kept good Kept is = sound
      run_kept good (Broken from to) is = sound
      run_kept good (Ready outcome) is = sound
      run_kept good (Taken outcome reply) is = sound

      free_keeps : holds_journal w s ≡ true → (n : ℕ) → n ≢ s → w.holder ≡ Some n → None ≡ Some n
      free_keeps mine n other held =
          absurd (false_true (sym (held_is stories budget w.holder s n other held) ∙ mine))

      pub free_kept : holds_journal w s ≡ true → (phase : Phase) → t.phase ≡ phase
          → Sound stories budget first past (free w s (Some phase))
      free_kept mine Kept is =
          advance Kept Freed None is tt (free_keeps mine) (fact_at Kept is) refl
      free_kept mine (Broken from to) is =
          advance (Broken from to) (Ready (DiskFailed from to)) None is tt (free_keeps mine)
          ((fact_at (Broken from to) is).0, (fact_at (Broken from to) is).1, tt) refl
      free_kept mine Asked is = sound
      free_kept mine Begun is = sound
      free_kept mine Freed is = sound
      free_kept mine (Ready outcome) is = sound
      free_kept mine (Taken outcome reply) is = sound
      free_kept mine (Plain outcome reply) is = sound

      pub hold_kept : (phase : Phase) → t.phase ≡ phase → (holder : Option ℕ) → w.holder ≡ holder
          → Sound stories budget first past (hold w s (Some phase) holder)
      hold_kept Asked is None nobody =
          subst (λ (v : JournalHost). Sound stories budget first past v)
          (held_as stories budget w s x at)
          (moves stories budget first past past w s x x (Some s) [] (record {
            at = at;
            up = turn_is_up;
            quiet = quiet_is Asked is tt;
            keeps = λ n other held. absurd (some_none n (sym held ∙ nobody));
            others = λ n other. (refl, refl);
            turn = knows_of.turn;
            replies = ap (λ (l : List Given). given_replies s l) (append-nil w.given)
                ∙ knows_of.replies;
            rows = refl;
            none = λ none. none;
          }) sound)
      hold_kept Asked is (Some n) held = sound
      hold_kept (Plain outcome reply) is holder held = sound
      hold_kept Begun is holder held = sound
      hold_kept Kept is holder held = sound
      hold_kept (Broken from to) is holder held = sound
      hold_kept Freed is holder held = sound
      hold_kept (Ready outcome) is holder held = sound
      hold_kept (Taken outcome reply) is holder held = sound

      pub accept_kept : (phase : Phase) → t.phase ≡ phase
          → Sound stories budget first past (accept stories budget w s x t phase)
      accept_kept (Ready outcome) is =
          let f = fact_at (Ready outcome) is in
          let rows : commands_in
          (turn_of stories budget x.history t.pass t.line outcome).history ++ []
          ≡ commands_in x.history ++ pending stories budget x =
          entry_rows stories budget x.history t.pass t.line outcome f.1.0 f.1.1 f.2
          ∙ ap (λ (l : List Command). commands_in x.history ++ l)
          (sym (pending_is (Ready outcome) is)) in
          subst (λ (v : JournalHost). Sound stories budget first past v)
          (with_is stories budget w s
          (taking t outcome (turn_of stories budget x.history t.pass t.line outcome)))
          (moves stories budget first past past w s x
          (taking t outcome
          (turn_of stories budget x.history t.pass t.line outcome)) w.holder [] (record {
            at = at;
            up = turn_is_up;
            quiet = quiet_is (Ready outcome) is tt;
            keeps = λ n other held. held;
            others = λ n other. (refl, refl);
            turn = ap (λ (l : List Entry). turn_of stories budget l t.pass t.line outcome)
                (sym f.0);
            replies = ap (λ (l : List Given). given_replies s l) (append-nil w.given)
                ∙ knows_of.replies;
            rows = rows;
            none = λ none. refl;
          }) sound)
      accept_kept Asked is = sound
      accept_kept Begun is = sound
      accept_kept Kept is = sound
      accept_kept (Broken from to) is = sound
      accept_kept Freed is = sound
      accept_kept (Taken outcome reply) is = sound
      accept_kept (Plain outcome reply) is = sound

    first_fact : (pass : ℕ) (line : List ℕ) (before_ h : List Entry) (c : Option Command)
        → h ≡ before_ → (decision_on stories budget (commands_in h) line).accepted ≡ c
        → PhaseFact stories budget before_ h
        (record {
          pass = pass;
          line = line;
          phase =
              first_phase (decision_on stories budget (commands_in h) line).reply c;
        })
        (first_phase (decision_on stories budget (commands_in h) line).reply c)
    first_fact pass line before_ h None is accepted = (
      is,
      ap (λ (l : List Entry). turn_of stories budget l pass line Answered) (sym is)
          ∙ turn_is stories budget h pass line Answered
          ∙ ap (λ (o : Option Command). turn_met h pass
          (decision_on stories budget (commands_in h) line).reply o Answered) accepted,
    )
    first_fact pass line before_ h (Some c) is accepted = (is, (c, accepted))

    first_pending : (cs : List Command) (line : List ℕ) (reply : Reply) (c : Option Command)
        → pending_at stories budget cs line (first_phase reply c) ≡ []
    first_pending cs line reply None = refl
    first_pending cs line reply (Some c) = refl

    pub take_kept : (pass : ℕ) (line : List ℕ) → w.up ≡ true → (o : Option Turn) → x.turn ≡ o
        → Sound stories budget first past (take_turn stories budget w s pass line x o)
    take_kept pass line is_up (Some t) is = sound
    take_kept pass line is_up None is =
        let nothing : pending stories budget x ≡ [] =
        ap (λ (o : Option Turn). pending_of stories budget x.history o) is in
        let a = decision_on stories budget (commands_in x.history) line in
        let p : pending_at stories budget (commands_in x.history) line
        (first_phase a.reply a.accepted) ≡ [] =
        first_pending (commands_in x.history) line a.reply a.accepted in
        subst (λ (v : JournalHost). Sound stories budget first past v)
        (with_is stories budget w s (asking x pass line
        (decision_on stories budget (commands_in x.history) line)))
        (moves stories budget first past past w s x
        (asking x pass line (decision_on stories budget
        (commands_in x.history) line)) w.holder [] (record {
          at = at;
          up = is_up;
          quiet = λ t stands starts. some_none t (sym stands ∙ is);
          keeps = λ n other held. held;
          others = λ n other. (refl, refl);
          turn = first_fact pass line (history_left stories budget (first s) (past s)) x.history
              (decision_on stories budget (commands_in x.history) line).accepted
              (subst (λ (o : Option Turn). TurnFact stories budget
              (history_left stories budget (first s) (past s)) x.history o) is knows_of.turn) refl;
          replies =
              ap (λ (l : List Given). given_replies s l) (append-nil w.given) ∙ knows_of.replies;
          rows = ap (λ (l : List Command). commands_in x.history ++ l) (p ∙ sym nothing);
          none = λ none. p;
        }) sound)

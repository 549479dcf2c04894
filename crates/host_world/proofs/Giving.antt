-- A reply is given; and each event of one session.
use Rattle.std.proofs.Common.{Bool, List, None, Option, Some, [], ap, false, refl, subst, sym, true}
use Rattle.std.proofs.Common.{ℕ, ◌++◌, ◌==◌, ◌∙◌, ◌∷◌, ◌≡◌, ◌≢◌}
use Rattle.std.proofs.lemmas.List.{append-nil}
use Rattle.std.specs.List.{slice_get}
use Rattle.std.specs.Prelude.{if◌then◌else◌}
use Rattle.gate_journal.specs.declared.command.Command.{Command}
use Rattle.line_words.specs.declared.reply.Reply.{Reply}
use Rattle.story_run.specs.declared.story.Story.{Story}
use Rattle.session_core.specs.Turning.{Turned, commands_in, turn_of}
use Rattle.session_core.specs.declared.entry.Entry.{Entry}
use Rattle.session_core.specs.declared.entry.Outcome.{Outcome}
use Rattle.host_world.specs.Events.{accept_at, accept_turn, after, free, gives_reply}
use Rattle.host_world.specs.Events.{hold, holds_journal, run_turn, takes_at, want}
use Rattle.host_world.specs.Happenings.{Ended, Happening, turn_over, ended_at}
use Rattle.host_world.specs.Happenings.{ended_in, history_left, replies_of}
use Rattle.host_world.specs.Pending.{pending, pending_at}
use Rattle.host_world.specs.Sessions.{ready_reply, phase_in, phase_of, turn_ended}
use Rattle.host_world.specs.declared.event.JournalEvent.TheVariants.{Accept, Free, Hold, Run, Take, Want}
use Rattle.host_world.specs.declared.state.JournalHost.{JournalHost}
use Rattle.host_world.specs.declared.turn.Phase.{Phase}
use Rattle.host_world.specs.declared.turn.Phase.TheVariants.{Asked, Begun, Broken, Freed, Kept}
use Rattle.host_world.specs.declared.turn.Phase.TheVariants.{Plain, Ready, Taken}
use Rattle.host_world.specs.declared.turn.Session.{Session}
use Rattle.host_world.specs.declared.turn.Turn.{Turn}
use Rattle.host_world.proofs.Folds.{eq_other, eq_self, history-push, replies-push, replies_to-one}
use Rattle.host_world.proofs.Folds.{replies_to-other}
use Rattle.host_world.proofs.Moves.{moves}
use Rattle.host_world.proofs.Phases.{Quiet, if_kept, phase_kept, same_past}
use Rattle.host_world.proofs.Sound.{Sound}
use Rattle.host_world.proofs.Turning.{accept_kept, fact_at, free_kept, hold_kept, knows_of}
use Rattle.host_world.proofs.Turning.{pending_is, quiet_is, run_kept, take_kept, turn_is_up}
use Rattle.host_world.proofs.Turning.{want_kept}

module _ (stories : List Story) (budget : ℕ) where
  -- a reply is given: the turn has happened
  module _ (first : ℕ → List Entry) (past : ℕ → List Happening) (w : JournalHost)
      (sound : Sound stories budget first past w) (s : ℕ) where
    -- the past of each session, where the event tells this of s
    abbrev pub past_with : List Happening → ℕ → List Happening
    past_with more n = past n ++ (if s == n then more else [])

    past_with_here : (more : List Happening) → past_with more s ≡ past s ++ more
    past_with_here more = ap (λ (b : Bool). past s ++ (if b then more else [])) (eq_self s)

    past_with_other : (more : List Happening) (n : ℕ) → n ≢ s → past_with more n ≡ past n
    past_with_other more n other =
        ap (λ (b : Bool). past n ++ (if b then more else [])) (eq_other s n other)
        ∙ append-nil (past n)

    abbrev none_told : List Happening
    none_told = []

    untold : (b : Bool) → (if b then none_told else none_told) ≡ none_told
    untold true = refl
    untold false = refl

    nothing_told : Sound stories budget first (past_with []) w
    nothing_told =
        same_past stories budget first past (past_with []) w
        (λ n. sym (ap (λ (l : List Happening). past n ++ l) (untold (s == n))
        ∙ append-nil (past n))) sound

    module _ (x : Session) (at : slice_get w.sessions s ≡ Some x) (t : Turn)
        (turn : x.turn ≡ Some t) where
      given_kept : (phase : Phase) (outcome : Outcome) (reply : Reply) → t.phase ≡ phase
          → Quiet stories budget phase → pending_at stories budget
          (commands_in x.history) t.line phase ≡ []
          → turn_of stories budget (history_left stories budget (first s)
          (past s)) t.pass t.line outcome ≡ record { reply = reply; history = x.history }
          → Sound stories budget first (past_with (Ended t.pass t.line outcome ∷ []))
          (gives_reply w s (Some reply))
      given_kept phase outcome reply is quiet none did =
          let more = Ended t.pass t.line outcome ∷ [] in
          let nothing : pending stories budget x ≡ [] =
          pending_is stories budget first past w sound s x at t turn phase is ∙ none in
          subst (λ (l : List Session). Sound stories budget first
          (past_with (Ended t.pass t.line outcome ∷ []))
          (record w {
            sessions = l;
            given =
                w.given ++ record { session = s; reply = reply } ∷ [];
          }))
          (sym (ap (λ (o : Option Session). turn_ended w.sessions s o) at))
          (moves stories budget first past (past_with more) w s x
          (record { history = x.history; turn = None }) w.holder
          (record { session = s; reply = reply } ∷ []) (record {
            at = at;
            up = turn_is_up stories budget first past w sound s x at t turn;
            quiet = quiet_is stories budget first past w sound s x at t turn phase is quiet;
            keeps = λ n other held. held;
            others = λ n other. (past_with_other more n other, replies_to-other s n reply other);
            turn = ap (λ (p : Turned). p.history) (sym did)
                ∙ sym (ap (λ (l : List Happening). history_left stories budget (first s) l)
                (past_with_here more) ∙ history-push stories budget (first s) (past s) more);
            replies = replies_to-one s w.given reply
                ∙ ap (λ (l : List Reply). l ++ reply ∷ [])
                (knows_of stories budget first past w sound s x at).replies
                ∙ ap (λ (p : Turned). replies_of stories budget (first s) (past s) ++ p.reply ∷ [])
                (sym did)
                ∙ sym (ap (λ (l : List Happening). replies_of stories budget (first s) l)
                (past_with_here more) ∙ replies-push stories budget (first s) (past s) more);
            rows = ap (λ (l : List Command). commands_in x.history ++ l) (sym nothing);
            none = λ empty. refl;
          }) sound)

      give_phase : (phase : Phase) → t.phase ≡ phase
          → Sound stories budget first (past_with (turn_over t phase))
          (gives_reply w s (ready_reply (Some phase)))
      give_phase (Taken outcome reply) is =
          given_kept (Taken outcome reply) outcome reply is tt refl
          (fact_at stories budget first past w sound s x at t turn (Taken outcome reply) is)
      give_phase (Plain outcome reply) is =
          given_kept (Plain outcome reply) outcome reply is tt refl
          (fact_at stories budget first past w sound s x at t turn (Plain outcome reply) is).1
      give_phase Asked is = nothing_told
      give_phase Begun is = nothing_told
      give_phase Kept is = nothing_told
      give_phase (Broken from to) is = nothing_told
      give_phase Freed is = nothing_told
      give_phase (Ready outcome) is = nothing_told

    give_turn : (x : Session) → slice_get w.sessions s ≡ Some x → (o : Option Turn) → x.turn ≡ o
        → Sound stories budget first (past_with (ended_at o))
        (gives_reply w s (ready_reply (phase_in o)))
    give_turn x at None is = nothing_told
    give_turn x at (Some t) is = give_phase x at t is t.phase refl

    pub give_kept : (o : Option Session) → slice_get w.sessions s ≡ o
        → Sound stories budget first (past_with (ended_in o))
        (gives_reply w s (ready_reply (phase_of o)))
    give_kept None is = nothing_told
    give_kept (Some x) is = give_turn x is x.turn refl

  -- the events of one session, but for Give: nothing is told
  module _ (first : ℕ → List Entry) (past : ℕ → List Happening) (w : JournalHost)
      (sound : Sound stories budget first past w) where
    abbrev Good : JournalHost → Type 0
    Good v = Sound stories budget first past v

    take_session : (s pass : ℕ) (line : List ℕ) → w.up ≡ true → (o : Option Session)
        → slice_get w.sessions s ≡ o → Sound stories budget first past
        (takes_at stories budget w s pass line o)
    take_session s pass line risen None at = sound
    take_session s pass line risen (Some x) at =
        take_kept stories budget first past w sound s x at pass line risen x.turn refl

    pub take_after : (s pass : ℕ) (line : List ℕ)
        → Sound stories budget first past (after stories budget w (Take s pass line))
    take_after s pass line =
        if_kept stories budget Good (takes_at stories budget w s pass line
        (slice_get w.sessions s)) w w.up sound
        (λ up. take_session s pass line up (slice_get w.sessions s) refl)

    pub want_after : (s : ℕ) → Sound stories budget first past (after stories budget w (Want s))
    want_after s =
        phase_kept stories budget Good w s (λ o. want w s o) sound
        (λ x at t turn. want_kept stories budget first past w sound s x at t turn t.phase refl)

    pub hold_after : (s : ℕ) → Sound stories budget first past (after stories budget w (Hold s))
    hold_after s =
        phase_kept stories budget Good w s (λ o. hold w s o w.holder) sound
        (λ x at t turn. hold_kept stories budget first past w sound s x at t turn t.phase refl
        w.holder refl)

    pub free_after : (s : ℕ) → Sound stories budget first past (after stories budget w (Free s))
    free_after s =
        if_kept stories budget Good (free w s (phase_of (slice_get w.sessions s))) w
        (holds_journal w s) sound (λ mine.
        phase_kept stories budget Good w s (λ o. free w s o) sound
        (λ x at t turn. free_kept stories budget first past w sound s x at t turn mine t.phase
        refl))

    pub run_after : (s : ℕ) (good : Bool)
        → Sound stories budget first past (after stories budget w (Run s good))
    run_after s good =
        phase_kept stories budget Good w s (λ o. run_turn w s good o) sound
        (λ x at t turn. run_kept stories budget first past w sound s x at t turn good t.phase refl)

    accept_turn_kept : (s : ℕ) (x : Session) → slice_get w.sessions s ≡ Some x → (o : Option Turn)
        → x.turn ≡ o → Sound stories budget first past (accept_turn stories budget w s x o)
    accept_turn_kept s x at None is = sound
    accept_turn_kept s x at (Some t) is =
        accept_kept stories budget first past w sound s x at t is t.phase refl

    accept_session : (s : ℕ) (o : Option Session) → slice_get w.sessions s ≡ o
        → Sound stories budget first past (accept_at stories budget w s o)
    accept_session s None at = sound
    accept_session s (Some x) at = accept_turn_kept s x at x.turn refl

    pub accept_after : (s : ℕ) → Sound stories budget first past (after stories budget w (Accept s))
    accept_after s = accept_session s (slice_get w.sessions s) refl

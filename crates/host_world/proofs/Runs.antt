-- Every event, and every list of events.
use Rattle.std.proofs.Common.{Bool, List, None, Option, Some, [], ap, append_assoc, arith, drop}
use Rattle.std.proofs.Common.{false, get_or, inl, inr, length, refl, subst, sym, true, ℕ, ◌++◌, ◌<◌}
use Rattle.std.proofs.Common.{◌==◌, ◌∙◌, ◌∷◌, ◌≡◌}
use Rattle.std.proofs.lemmas.Bool.{cases_eq}
use Rattle.std.proofs.lemmas.List.{append-nil, drop_at}
use Rattle.std.proofs.lemmas.List.FromFn.{length-map-range_with_len}
use Rattle.std.proofs.lemmas.Option.{slice_get-get_or, slice_get_within}
use Rattle.std.specs.List.{slice_get}
use Rattle.std.specs.Prelude.{IfSome, if◌then◌else◌, not, ◌&&◌}
use Rattle.disk_model.proofs.StateLaws.{only_settled, settled_image}
use Rattle.gate_journal.specs.Log.{StandsInEither, StandsInImage}
use Rattle.gate_journal.specs.Rows.{IsJournal, IsNext, commands_of}
use Rattle.gate_journal.specs.declared.command.Command.{Command}
use Rattle.gate_journal.specs.declared.row.Row.{Row}
use Rattle.story_run.specs.declared.story.Story.{Story}
use Rattle.session_core.specs.Turning.{commands_in}
use Rattle.session_core.specs.declared.entry.Entry.{Entry}
use Rattle.disk_model.specs.Plain.{is_image}
use Rattle.host_world.specs.Events.{after, run}
use Rattle.host_world.specs.Happenings.{Happening, Opened, all_told, turn_cut, cut_at}
use Rattle.host_world.specs.Happenings.{cut_in, turn_over, ended_at, ended_in, further}
use Rattle.host_world.specs.Happenings.{history_left, replies_of, given_replies, told}
use Rattle.host_world.specs.Headline.{AreGiven, EachFindsOneMore, Lives}
use Rattle.host_world.specs.Laws.{StartsOver}
use Rattle.host_world.specs.Pending.{OneMore, pending, pending_of}
use Rattle.host_world.specs.Sessions.{found_session}
use Rattle.host_world.specs.Starts.{IsDown, IsOpenedState, IsStart, down_over}
use Rattle.host_world.specs.declared.event.JournalEvent.{JournalEvent}
use Rattle.host_world.specs.declared.event.JournalEvent.TheVariants.{Accept, Call, Free, Give, Hold}
use Rattle.host_world.specs.declared.event.JournalEvent.TheVariants.{Recover, Run, Stop, Take, Want}
use Rattle.host_world.specs.declared.state.Given.{Given}
use Rattle.host_world.specs.declared.state.JournalHost.{JournalHost}
use Rattle.host_world.specs.declared.state.Step.{Step}
use Rattle.host_world.specs.declared.state.Step.TheVariants.{FirstSync}
use Rattle.host_world.specs.declared.turn.Phase.{Phase}
use Rattle.host_world.specs.declared.turn.Phase.TheVariants.{Asked, Begun, Broken, Freed, Kept}
use Rattle.host_world.specs.declared.turn.Phase.TheVariants.{Plain, Ready, Taken}
use Rattle.host_world.specs.declared.turn.Session.{Session}
use Rattle.host_world.specs.declared.turn.Turn.{Turn}
use Rattle.host_world.proofs.Giving.{accept_after, free_after, give_kept, hold_after, run_after}
use Rattle.host_world.proofs.Giving.{take_after, want_after}
use Rattle.host_world.proofs.Lists.{false_true}
use Rattle.host_world.proofs.Openings.{call_well}
use Rattle.host_world.proofs.Phases.{same_past, untold}
use Rattle.host_world.proofs.Reopening.{CallsWell, found_at, nobody, of_down, one_more_of}
use Rattle.host_world.proofs.RowsOf.{commands-found, rows-here, rows-other}
use Rattle.host_world.proofs.Sound.{RowsFact, Sound, Stands, StepFact, TurnFact}
use Rattle.host_world.proofs.Stops.{cut_fact, image_spells, stop_well}

pub down_well : (bytes : List ℕ) (rows : List Row) (u : Option Row) → IsJournal rows
    → IfSome u (IsNext rows) → StandsInEither rows u bytes → IsDown (down_over bytes rows u)
down_well bytes rows u all next stands = record {
  down = refl;
  quiet = record {
    journal = all;
    reads = settled_image bytes;
    idle = refl;
    silent = refl;
    sessions = length-map-range_with_len (found_session rows) 0 64;
    each = λ s x at.
        let f = found_at rows s x at in (
          ap (λ (z : Session). z.turn) (sym f.1),
          sym (commands-found (commands_of rows s))
              ∙ ap (λ (z : Session). commands_in z.history) f.1,
        );
  };
  next = next;
  stands = λ c image. subst (λ (l : List ℕ). StandsInEither rows u l)
      (sym (only_settled bytes c image)) stands;
}

pub starts_over : StartsOver
starts_over bytes rows all (inl shut) = (None, down_well bytes rows None all tt shut)
starts_over bytes rows all (inr one) =
    (Some one.0, down_well bytes rows (Some one.0) all one.1 one.2)

module _ (stories : List Story) (budget : ℕ) (premise : AreGiven stories budget) where
  recover_well : (first : ℕ → List Entry) (past : ℕ → List Happening) (w : JournalHost)
      → Sound stories budget first past w → (up : Bool) → w.up ≡ up
      → Sound stories budget first past (if up then w else record w { step = FirstSync })
  recover_well first past w sound true is = sound
  recover_well first past w sound false is = record {
    stays = sound.stays;
    images = sound.images;
    journal = sound.journal;
    next = sound.next;
    sessions = sound.sessions;
    step = is;
    each = λ s x at. let known =
        sound.each s x at in record {
          turn = known.turn;
          replies = known.replies;
          rows =
              known.rows;
        };
  }

  pub event_well : (first : ℕ → List Entry) (past : ℕ → List Happening) (w : JournalHost) (e : JournalEvent)
      → Sound stories budget first past w
      → Sound stories budget first (λ s. past s ++ told stories budget s w e)
      (after stories budget w e)
  event_well first past w (Take s pass line) sound =
      untold stories budget first past (after stories budget w (Take s pass line))
      (take_after stories budget first past w sound s pass line)
  event_well first past w (Want s) sound =
      untold stories budget first past (after stories budget w (Want s))
      (want_after stories budget first past w sound s)
  event_well first past w (Hold s) sound =
      untold stories budget first past (after stories budget w (Hold s))
      (hold_after stories budget first past w sound s)
  event_well first past w (Call disk good reads) sound =
      (call_well stories budget premise first past w disk good reads sound).sound
  event_well first past w (Free s) sound =
      untold stories budget first past (after stories budget w (Free s))
      (free_after stories budget first past w sound s)
  event_well first past w (Run s good) sound =
      untold stories budget first past (after stories budget w (Run s good))
      (run_after stories budget first past w sound s good)
  event_well first past w (Accept s) sound =
      untold stories budget first past (after stories budget w (Accept s))
      (accept_after stories budget first past w sound s)
  event_well first past w (Give s) sound =
      give_kept stories budget first past w sound s (slice_get w.sessions s) refl
  event_well first past w (Stop images) sound = stop_well stories budget first past w sound images
  event_well first past w Recover sound =
      untold stories budget first past (after stories budget w Recover)
      (recover_well first past w sound w.up refl)

  pub run_well : (events : List JournalEvent) (first : ℕ → List Entry) (past : ℕ → List Happening)
      (w : JournalHost) → Sound stories budget first past w
      → Sound stories budget first (λ s. past s ++ all_told stories budget s w events)
      (run stories budget w events)
  run_well [] first past w sound = untold stories budget first past w sound
  run_well (e ∷ events) first past w sound =
      same_past stories budget first (λ s.
      (past s ++ told stories budget s w e) ++ all_told stories budget s
      (after stories budget w e) events)
      (λ s. past s ++ (told stories budget s w e ++ all_told stories budget s
      (after stories budget w e) events)) (run stories budget (after stories budget w e) events)
      (λ s. append_assoc (past s) (told stories budget s w e)
      (all_told stories budget s (after stories budget w e) events))
      (run_well events first (λ s. past s ++ told stories budget s w e) (after stories budget w e)
      (event_well first past w e sound))

  abbrev pub history_at : Option Session → List Entry
  history_at None = []
  history_at (Some x) = x.history

  abbrev pub first_of : JournalHost → ℕ → List Entry
  first_of w s = history_at (slice_get w.sessions s)

  opened_well : (w : JournalHost) → IsOpenedState w → Sound stories budget (first_of w) (λ s. []) w
  opened_well w o = record {
    stays = o.quiet.reads;
    images =
        λ c is. subst (λ (up : Bool). Stands up w.rows w.uncertain c) (sym o.up)
        (subst (λ (u : Option Row). StandsInImage w.rows u c) (sym o.certain) (o.shut c is));
    journal = o.quiet.journal;
    next = subst (λ (u : Option Row). IfSome u (IsNext w.rows)) (sym o.certain) tt;
    sessions = o.quiet.sessions;
    step = subst (λ (step : Step). StepFact stories budget w step) (sym o.quiet.idle) tt;
    each = λ s x at.
        let e = o.quiet.each s x at in
        let none : pending stories budget x ≡ [] =
        ap (λ (t : Option Turn). pending_of stories budget x.history t) e.0 in
        let same : commands_of w.rows s ≡ commands_in x.history ++ pending stories budget x = e.1
        ∙ sym (append-nil (commands_in x.history))
        ∙ ap (λ (l : List Command). commands_in x.history ++ l) (sym none) in
        record {
          turn = subst (λ (t : Option Turn). TurnFact stories budget (first_of w s) x.history t)
              (sym e.0) (sym (ap history_at at));
          replies = ap (λ (l : List Given). given_replies s l) o.quiet.silent;
          rows =
              subst (λ (up : Bool). RowsFact stories budget s w.rows w.uncertain x up) (sym o.up) (
                same,
                subst (λ (u : Option Row). IfSome u
                    (λ r. r.session ≡ s → pending stories budget x ≡ [])) (sym o.certain) tt,
              );
        };
  }

  same_or_more : (s : ℕ) (rows : List Row) (h : List Entry) (u : Option Row)
      → commands_of rows s ≡ commands_in h
      → IfSome u (λ r. OneMore (commands_in h) (commands_of (rows ++ r ∷ []) s))
  same_or_more s rows h None same = tt
  same_or_more s rows h (Some r) same = elim (cases_eq r.session s) [
    | inl is ↦ (
      r.command ∷ [],
      omega arith,
      rows-here s rows r is
          ∙ ap (λ (l : List Command). l ++ r.command ∷ []) same,
    )
    | inr other ↦ (
      [],
      omega arith,
      rows-other s rows r other ∙ same
          ∙ sym (append-nil (commands_in h)),
    )
  ]

  stopped_well : (w : JournalHost) → IsDown w → Sound stories budget (first_of w) (λ s. []) w
  stopped_well w o = record {
    stays = o.quiet.reads;
    images =
        λ c is. subst (λ (up : Bool). Stands up w.rows w.uncertain c) (sym o.down) (o.stands c is);
    journal = o.quiet.journal;
    next = o.next;
    sessions = o.quiet.sessions;
    step = subst (λ (step : Step). StepFact stories budget w step) (sym o.quiet.idle) tt;
    each = λ s x at.
        let e = o.quiet.each s x at in
        record {
          turn = subst (λ (t : Option Turn). TurnFact stories budget (first_of w s) x.history t)
              (sym e.0) (sym (ap history_at at));
          replies = ap (λ (l : List Given). given_replies s l) o.quiet.silent;
          rows = subst (λ (up : Bool). RowsFact stories budget s w.rows w.uncertain x up)
              (sym o.down) (
                e.0,
                (
                  [],
                  omega arith,
                  e.1
                      ∙ sym (append-nil
                      (commands_in x.history)),
                ),
                same_or_more s w.rows x.history w.uncertain e.1,
              );
        };
  }

  pub start_well : (w : JournalHost) → IsStart w → Sound stories budget (first_of w) (λ s. []) w
  start_well w (inl o) = opened_well w o
  start_well w (inr o) = stopped_well w o

  few-append : (l m : List Happening) → EachFindsOneMore l → EachFindsOneMore m
      → EachFindsOneMore (l ++ m)
  few-append [] m first second = second
  few-append (one ∷ l) m first second = (first.0, few-append l m first.1 second)

  few_ended : (t : Turn) (phase : Phase) → EachFindsOneMore (turn_over t phase)
  few_ended t (Taken outcome reply) = (tt, tt)
  few_ended t (Plain outcome reply) = (tt, tt)
  few_ended t Asked = tt
  few_ended t Begun = tt
  few_ended t Kept = tt
  few_ended t (Broken from to) = tt
  few_ended t Freed = tt
  few_ended t (Ready outcome) = tt

  few_cut : (t : Turn) (phase : Phase) → EachFindsOneMore (turn_cut t phase)
  few_cut t (Taken outcome reply) = (tt, tt)
  few_cut t (Plain outcome reply) = tt
  few_cut t Asked = tt
  few_cut t Begun = tt
  few_cut t Kept = tt
  few_cut t (Broken from to) = tt
  few_cut t Freed = tt
  few_cut t (Ready outcome) = tt

  few_ended_in : (o : Option Session) → EachFindsOneMore (ended_in o)
  few_ended_in None = tt
  few_ended_in (Some x) = of x.turn
    where
      of : (t : Option Turn) → EachFindsOneMore (ended_at t)
      of None = tt
      of (Some t) = few_ended t t.phase

  few_cut_in : (o : Option Session) → EachFindsOneMore (cut_in o)
  few_cut_in None = tt
  few_cut_in (Some x) = of x.turn
    where
      of : (t : Option Turn) → EachFindsOneMore (cut_at t)
      of None = tt
      of (Some t) = few_cut t t.phase

  few_if : (b : Bool) (l : List Happening) → EachFindsOneMore l
      → EachFindsOneMore (if b then l else [])
  few_if true l few = few
  few_if false l few = tt

  risen : (a b : Bool) → (not a && b) ≡ true → (a ≡ false) × (b ≡ true)
  risen false true is = (refl, refl)
  risen true b is = absurd (false_true is)
  risen false false is = absurd (false_true is)

  module _ (first : ℕ → List Entry) (past : ℕ → List Happening) (w : JournalHost)
      (sound : Sound stories budget first past w) (s : ℕ) (low : s < 64) where
    few_news : (new : JournalHost) → CallsWell stories budget first past w new → (b : Bool)
        → (not w.up && new.up) ≡ b → EachFindsOneMore
        (if b then Opened (further (slice_get w.sessions s) (commands_of new.rows s)) ∷ [] else [])
    few_news new calls false is = tt
    few_news new calls true is =
        let up = risen w.up new.up is in
        let x = get_or w.sessions s nobody in
        let at = slice_get-get_or w.sessions s nobody (omega (arith, low, sound.sessions)) in
        let one =
        one_more_of stories budget w new.rows s x
        (of_down stories budget s w.rows w.uncertain x w.up up.0 (sound.each s x at).rows)
        (calls.reopens up.0 up.1).rows in
        let is_more : further (slice_get w.sessions s) (commands_of new.rows s) ≡ one.0 =
        ap (λ (o : Option Session). further o (commands_of new.rows s)) at
        ∙ ap (λ (l : List Command). drop (length (commands_in x.history)) l) one.2
        ∙ drop_at (commands_in x.history) one.0 (length (commands_in x.history)) refl in
        (omega (arith, ap (λ (l : List Command). length l) is_more, one.1), tt)

    few_told : (e : JournalEvent) → EachFindsOneMore (told stories budget s w e)
    few_told (Take t pass line) = tt
    few_told (Want t) = tt
    few_told (Hold t) = tt
    few_told (Call disk good reads) =
        few_news (after stories budget w (Call disk good reads))
        (call_well stories budget premise first past w disk good reads sound)
        (not w.up && (after stories budget w (Call disk good reads)).up) refl
    few_told (Free t) = tt
    few_told (Run t good) = tt
    few_told (Accept t) = tt
    few_told (Give t) =
        few_if (t == s) (ended_in (slice_get w.sessions t)) (few_ended_in (slice_get w.sessions t))
    few_told (Stop []) = tt
    few_told (Stop (image ∷ [])) =
        few_if (is_image w.disk image) (cut_in (slice_get w.sessions s))
        (few_cut_in (slice_get w.sessions s))
    few_told (Stop (image ∷ other ∷ more)) = tt
    few_told Recover = tt

  few_all : (events : List JournalEvent) (first : ℕ → List Entry) (past : ℕ → List Happening)
      (w : JournalHost) → Sound stories budget first past w → (s : ℕ) → s < 64
      → EachFindsOneMore (all_told stories budget s w events)
  few_all [] first past w sound s low = tt
  few_all (e ∷ events) first past w sound s low =
      few-append (told stories budget s w e)
      (all_told stories budget s (after stories budget w e) events)
      (few_told first past w sound s low e)
      (few_all events first (λ k. past k ++ told stories budget k w e) (after stories budget w e)
      (event_well first past w e sound) s low)

  pub lives_holds :
      (w : JournalHost) (events : List JournalEvent) → IsStart w → (s : ℕ) (x y : Session)
      → slice_get w.sessions s ≡ Some x → slice_get (run stories budget w events).sessions s
      ≡ Some y
      → Lives stories budget s x (all_told stories budget s w events)
      (run stories budget w events) y
  lives_holds w events o s x y at found_later =
      let start = start_well w o in
      let sound = run_well events (first_of w) (λ k. []) w start in
      let known = sound.each s y found_later in
      let same : first_of w s ≡ x.history = ap history_at at in
      record {
        history =
            subst (λ (h : List Entry). y.history
            ≡ history_left stories budget h
            (all_told stories budget s w events ++ cut_at y.turn)) same
            (cut_fact stories budget (first_of w s)
            (all_told stories budget s w events) y.history y.turn known.turn);
        replies =
            subst (λ (h : List Entry). given_replies s (run stories budget w events).given
            ≡ replies_of stories budget h (all_told stories budget s w events)) same known.replies;
        recovers =
            few_all events (first_of w) (λ k. []) w start s
            (omega (arith, slice_get_within w.sessions s x at, start.sessions));
        stop = λ image of. image_spells stories budget (first_of w)
            (λ k. all_told stories budget k w events)
            (run stories budget w events) sound image s y found_later of;
      }

  -- the replies to a session of a host that has run
  pub lives_on : (w : JournalHost) (events : List JournalEvent) → IsStart w → (s : ℕ) (x : Session)
      → slice_get w.sessions s ≡ Some x → given_replies s (run stories budget w events).given
      ≡ replies_of stories budget x.history (all_told stories budget s w events)
  lives_on w events o s x at =
      let sound = run_well events (first_of w) (λ k. []) w (start_well w o) in
      let low = slice_get_within w.sessions s x at in
      let there =
      slice_get-get_or (run stories budget w events).sessions s nobody
      (omega (arith, low, (start_well w o).sessions, sound.sessions)) in
      (sound.each s (get_or (run stories budget w events).sessions s nobody) there).replies
      ∙ ap (λ (h : List Entry). replies_of stories budget h
      (all_told stories budget s w events)) (ap history_at at)

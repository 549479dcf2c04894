-- What a stop leaves.
use Rattle.std.proofs.Common.{Bool, List, None, Option, Some, [], ap, arith, false, inl, inr}
use Rattle.std.proofs.Common.{length, refl, subst, sym, true, ℕ, ◌++◌, ◌∙◌, ◌∷◌, ◌≡◌, ◌≤◌, ◌⊎◌}
use Rattle.std.proofs.lemmas.Bool.{cases_eq}
use Rattle.std.proofs.lemmas.List.{append-nil, length-map}
use Rattle.std.specs.List.{slice_get}
use Rattle.std.specs.Prelude.{IfSome, if◌then◌else◌}
use Rattle.disk_model.proofs.StateLaws.{only_settled, settled_image}
use Rattle.disk_model.specs.DiskState.{IsDiskImage}
use Rattle.gate_journal.proofs.LogLemmas.{closed_either}
use Rattle.gate_journal.proofs.RowLemmas.{spells_shut}
use Rattle.gate_journal.specs.Log.{StandsInEither}
use Rattle.gate_journal.specs.Rows.{IsNext, SpellsRows, commands_of}
use Rattle.gate_journal.specs.declared.command.Command.{Command}
use Rattle.gate_journal.specs.declared.row.Row.{Row}
use Rattle.line_words.specs.declared.reply.Reply.{Reply}
use Rattle.story_run.specs.declared.story.Story.{Story}
use Rattle.session_core.specs.Turning.{Turned, commands_in, decision_on}
use Rattle.session_core.specs.declared.entry.Entry.{Entry}
use Rattle.session_core.specs.declared.entry.Outcome.TheVariants.{Answered, DiskFailed, Forgotten}
use Rattle.session_core.specs.declared.entry.Outcome.TheVariants.{OutOfMemory}
use Rattle.disk_model.specs.Plain.{is_image}
use Rattle.host_world.specs.Events.{stop, stopped}
use Rattle.host_world.specs.Happenings.{Cut, Happening, turn_cut, cut_at}
use Rattle.host_world.specs.Happenings.{cut_in, history_left, lost, replies_of}
use Rattle.host_world.specs.Pending.{KeepsCommands, OneMore, RowsOrOneMore, command_listed}
use Rattle.host_world.specs.Pending.{pending, pending_at, pending_of}
use Rattle.host_world.specs.Sessions.{without_turn}
use Rattle.host_world.specs.declared.state.JournalHost.{JournalHost}
use Rattle.host_world.specs.declared.turn.Phase.{Phase}
use Rattle.host_world.specs.declared.turn.Phase.TheVariants.{Asked, Begun, Broken, Freed, Kept}
use Rattle.host_world.specs.declared.turn.Phase.TheVariants.{Plain, Ready, Taken}
use Rattle.host_world.specs.declared.turn.Session.{Session}
use Rattle.host_world.specs.declared.turn.Turn.{Turn}
use Rattle.host_world.proofs.Folds.{history-push, replies-push}
use Rattle.disk_model.proofs.PlainLaws.{image_is}
use Rattle.host_world.proofs.Lists.{false_true, map_at}
use Rattle.host_world.proofs.Phases.{untold}
use Rattle.host_world.proofs.RowsOf.{rows-here, rows-other}
use Rattle.host_world.proofs.Sound.{Knows, PhaseFact, RowsFact, Sound, TurnFact, stands_either_way}

module _ (stories : List Story) (budget : ℕ) where
  uncut : (h : List Entry) (past : List Happening) (x : List Entry)
      → x ≡ history_left stories budget h past → x ≡ history_left stories budget h (past ++ [])
  uncut h past x is =
      is ∙ ap (λ (l : List Happening). history_left stories budget h l) (sym (append-nil past))

  -- the history is the fold of the turns given and the one whose entry is taken
  cut_phase : (h : List Entry) (past : List Happening) (x : List Entry) (t : Turn) (phase : Phase)
      → PhaseFact stories budget (history_left stories budget h past) x t phase
      → x ≡ history_left stories budget h (past ++ turn_cut t phase)
  cut_phase h past x t (Taken outcome reply) fact =
      sym (history-push stories budget h past (Cut t.pass t.line outcome ∷ [])
      ∙ ap (λ (p : Turned). p.history) fact)
  cut_phase h past x t Asked fact = uncut h past x fact.0
  cut_phase h past x t Begun fact = uncut h past x fact.0
  cut_phase h past x t Kept fact = uncut h past x fact.0
  cut_phase h past x t (Broken from to) fact = uncut h past x fact.0
  cut_phase h past x t Freed fact = uncut h past x fact.0
  cut_phase h past x t (Ready outcome) fact = uncut h past x fact.0
  cut_phase h past x t (Plain outcome reply) fact = uncut h past x fact.0

  pub cut_fact : (h : List Entry) (past : List Happening) (x : List Entry) (o : Option Turn)
      → TurnFact stories budget (history_left stories budget h past) x o
      → x ≡ history_left stories budget h (past ++ cut_at o)
  cut_fact h past x None fact = uncut h past x fact
  cut_fact h past x (Some t) fact = cut_phase h past x t t.phase fact

  silent_phase : (h : List Entry) (t : Turn) (phase : Phase)
      → replies_of stories budget h (turn_cut t phase) ≡ []
  silent_phase h t (Taken outcome reply) = refl
  silent_phase h t Asked = refl
  silent_phase h t Begun = refl
  silent_phase h t Kept = refl
  silent_phase h t (Broken from to) = refl
  silent_phase h t Freed = refl
  silent_phase h t (Ready outcome) = refl
  silent_phase h t (Plain outcome reply) = refl

  silent : (h : List Entry) (o : Option Turn) → replies_of stories budget h (cut_at o) ≡ []
  silent h None = refl
  silent h (Some t) = silent_phase h t t.phase

  listed_small : (o : Option Command) → length (command_listed o) ≤ 1
  listed_small None = omega arith
  listed_small (Some c) = omega arith

  phase_small : (cs : List Command) (line : List ℕ) (phase : Phase)
      → length (pending_at stories budget cs line phase) ≤ 1
  phase_small cs line Kept = listed_small (decision_on stories budget cs line).accepted
  phase_small cs line Freed = listed_small (decision_on stories budget cs line).accepted
  phase_small cs line (Ready Answered) = listed_small (decision_on stories budget cs line).accepted
  phase_small cs line (Ready Forgotten) = listed_small (decision_on stories budget cs line).accepted
  phase_small cs line (Ready OutOfMemory) = omega arith
  phase_small cs line (Ready (DiskFailed from to)) = omega arith
  phase_small cs line Asked = omega arith
  phase_small cs line Begun = omega arith
  phase_small cs line (Broken from to) = omega arith
  phase_small cs line (Taken outcome reply) = omega arith
  phase_small cs line (Plain outcome reply) = omega arith

  pending_small : (h : List Entry) (o : Option Turn) → length (pending_of stories budget h o) ≤ 1
  pending_small h None = omega arith
  pending_small h (Some t) = phase_small (commands_in h) t.line t.phase

  -- one row more, of this session or another
  more_or_other : (s : ℕ) (rows : List Row) (r : Row) (x : Session)
      → commands_of rows s ≡ commands_in x.history ++ pending stories budget x
      → (r.session ≡ s → pending stories budget x ≡ [])
      → (commands_of (rows ++ r ∷ []) s ≡ commands_in x.history ++ pending stories budget x) ⊎
      ((r.session ≡ s) × (commands_of (rows ++ r ∷ []) s
      ≡ commands_in x.history ++ r.command ∷ []))
  more_or_other s rows r x same none = elim (cases_eq r.session s) [
    | inl is ↦ inr (
      is,
      rows-here s rows r is
          ∙ ap (λ (l : List Command). l ++ r.command ∷ [])
          (same ∙ ap (λ (l : List Command). commands_in x.history ++ l) (none is)
          ∙ append-nil (commands_in x.history)),
    )
    | inr other ↦ inl (rows-other s rows r other ∙ same)
  ]

  down_gate : (s : ℕ) (rows : List Row) (u : Option Row) (x : Session)
      → commands_of rows s ≡ commands_in x.history ++ pending stories budget x
      → IfSome u (λ r. r.session ≡ s → pending stories budget x ≡ [])
      → IfSome u (λ r. OneMore (commands_in x.history) (commands_of (rows ++ r ∷ []) s))
  down_gate s rows None x same none = tt
  down_gate s rows (Some r) x same none = elim (more_or_other s rows r x same none) [
    | inl is ↦ (pending stories budget x, pending_small x.history x.turn, is)
    | inr is ↦ (r.command ∷ [], omega arith, is.1)
  ]

  pub down_rows : (s : ℕ) (rows : List Row) (u : Option Row) (x : Session) (up : Bool)
      → RowsFact stories budget s rows u x up
      → RowsFact stories budget s rows u (without_turn x) false
  down_rows s rows u x true fact = (
    refl,
    (pending stories budget x, pending_small x.history x.turn, fact.0),
    down_gate s rows u
        x fact.0 fact.1,
  )
  down_rows s rows u x false fact = (refl, fact.1, fact.2)

  module _ (first : ℕ → List Entry) (past : ℕ → List Happening) (w : JournalHost)
      (sound : Sound stories budget first past w) (image : List ℕ) where
    abbrev down_now : JournalHost
    down_now = stopped w image

    stops : IsDiskImage w.disk image → Sound stories budget first
        (λ s. past s ++ cut_in (slice_get w.sessions s)) down_now
    stops is = record {
      stays = settled_image image;
      images = λ c of. subst (λ (l : List ℕ). StandsInEither w.rows w.uncertain l)
          (sym (only_settled image c of))
          (stands_either_way w.up w.rows w.uncertain image (sound.images image is));
      journal = sound.journal;
      next = sound.next;
      sessions = length-map w.sessions without_turn ∙ sound.sessions;
      step = tt;
      each = λ s y at.
          let x = map_at without_turn w.sessions s y at in
          let known = sound.each s x.0 x.1 in
          subst (λ (q : Session). Knows stories budget (first s)
          (past s ++ cut_in (slice_get w.sessions s)) down_now s q) (sym x.2)
          (subst (λ (o : Option Session). Knows stories budget (first s)
          (past s ++ cut_in o) down_now s (without_turn x.0)) (sym x.1) record {
            turn = cut_fact (first s) (past s) x.0.history x.0.turn known.turn;
            replies = known.replies
                ∙ sym (replies-push stories budget (first s) (past s) (cut_at x.0.turn)
                ∙ ap (λ (l : List Reply). replies_of stories budget (first s) (past s) ++ l)
                (silent (history_left stories budget (first s) (past s)) x.0.turn)
                ∙ append-nil (replies_of stories budget (first s) (past s)));
            rows = down_rows s w.rows w.uncertain x.0 w.up known.rows;
          });
    }

    stop_if : (b : Bool) → is_image w.disk image ≡ b
        → Sound stories budget first (λ s. past s ++
        (if b then cut_in (slice_get w.sessions s) else [])) (if b then down_now else w)
    stop_if true is = stops (image_is w.disk image is)
    stop_if false is =
        untold stories budget first past w sound

    pub one_stop : Sound stories budget first (λ s. past s ++ lost s w (image ∷ []))
        (stop w (image ∷ []))
    one_stop = stop_if (is_image w.disk image) refl

    -- what the image spells for one session
    module _ (s : ℕ) (x : Session) (at : slice_get w.sessions s ≡ Some x) where
      rows_now : RowsFact stories budget s w.rows w.uncertain x w.up
      rows_now = (sound.each s x at).rows

      abbrev Found : List Row → Type 0
      Found rows =
          OneMore (commands_in x.history) (commands_of rows s)
          × (w.up ≡ true → KeepsCommands stories budget s w x rows)

      plain : (up : Bool) → RowsFact stories budget s w.rows w.uncertain x up → up ≡ true
          → KeepsCommands stories budget s w x w.rows
      plain true fact is = inr (inl fact.0)
      plain false fact is = absurd (false_true is)

      with_gate : (u : Row) → w.uncertain ≡ Some u → (up : Bool)
          → RowsFact stories budget s w.rows (Some u) x up → up ≡ true
          → KeepsCommands stories budget s w x (w.rows ++ u ∷ [])
      with_gate u is true fact up = elim (more_or_other s w.rows u x fact.0 fact.1) [
        | inl same ↦ inr (inl same)
        | inr one ↦ inr (inr (u.command, (u, is, one.0, refl), one.1))
      ]
      with_gate u is false fact up = absurd (false_true up)

      first_found : Found w.rows
      first_found = ((down_rows s w.rows w.uncertain x w.up rows_now).1, plain w.up rows_now)

      spelled_by : (u : Option Row) → w.uncertain ≡ u → IsDiskImage w.disk image
          → (rows : List Row) × SpellsRows image rows × RowsOrOneMore w rows
          × OneMore (commands_in x.history) (commands_of rows s)
          × (w.up ≡ true → KeepsCommands stories budget s w x rows)
      spelled_by None is of = (
        w.rows,
        spells_shut w.rows image sound.journal
            (subst (λ (o : Option Row). StandsInEither w.rows o image) is
            (stands_either_way w.up w.rows w.uncertain image (sound.images image of))),
        inl refl,
        first_found.0,
        first_found.1,
      )
      spelled_by (Some u) is of =
          let stands =
          subst (λ (o : Option Row). StandsInEither w.rows o image) is
          (stands_either_way w.up w.rows w.uncertain image (sound.images image of)) in
          let next : IsNext w.rows u =
          subst (λ (o : Option Row). IfSome o (IsNext w.rows)) is sound.next in
          let now : RowsFact stories budget s w.rows (Some u) x w.up =
          subst (λ (o : Option Row). RowsFact stories budget s w.rows o x w.up) is rows_now in
          elim (closed_either w.rows (Some u) image sound.journal next stands) [
            | inl same ↦ (w.rows, same.spells, inl refl, first_found.0, first_found.1)
            | inr more ↦ (
              w.rows ++ u ∷ [],
              more.spells,
              inr (u, is, refl),
              (down_rows s w.rows (Some u) x w.up now).2,
              with_gate u is w.up now,
            )
          ]

      pub image_spells : IsDiskImage w.disk image
          → (rows : List Row) × SpellsRows image rows × RowsOrOneMore w rows
          × OneMore (commands_in x.history) (commands_of rows s)
          × (w.up ≡ true → KeepsCommands stories budget s w x rows)
      image_spells of = spelled_by w.uncertain refl of

  pub stop_well : (first : ℕ → List Entry) (past : ℕ → List Happening) (w : JournalHost)
      → Sound stories budget first past w → (images : List (List ℕ))
      → Sound stories budget first (λ s. past s ++ lost s w images) (stop w images)
  stop_well first past w sound [] =
      untold stories budget first past w sound
  stop_well first past w sound (image ∷ []) = one_stop first past w sound image
  stop_well first past w sound (image ∷ other ∷ more) =
      untold stories budget first past w sound

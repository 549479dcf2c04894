-- Events of one session.
use Rattle.std.proofs.Common.{Bool, List, None, Option, Some, [], ap, false, inl, inr, length-set}
use Rattle.std.proofs.Common.{refl, set, subst, sym, true, ℕ, ◌++◌, ◌∙◌, ◌∷◌, ◌≡◌, ◌≢◌}
use Rattle.std.proofs.lemmas.Bool.{cases_eq}
use Rattle.std.specs.List.{slice_get}
use Rattle.std.specs.Prelude.{IfSome}
use Rattle.gate_journal.specs.declared.row.Row.{Row}
use Rattle.story_run.specs.declared.story.Story.{Story}
use Rattle.session_core.specs.Turning.{commands_in}
use Rattle.session_core.specs.declared.entry.Entry.{Entry}
use Rattle.host_world.specs.Happenings.{Happening, history_left, replies_of, given_replies}
use Rattle.host_world.specs.Pending.{pending}
use Rattle.host_world.specs.declared.state.Given.{Given}
use Rattle.host_world.specs.declared.state.JournalHost.{JournalHost}
use Rattle.host_world.specs.declared.state.Step.{Step}
use Rattle.host_world.specs.declared.state.Step.TheVariants.{AskSize, CloseSync, CloseWrite}
use Rattle.host_world.specs.declared.state.Step.TheVariants.{FirstSync, GateSync, GateWrite, Idle}
use Rattle.host_world.specs.declared.state.Step.TheVariants.{ReadAll, RepairSync, RepairWrite}
use Rattle.host_world.specs.declared.state.Step.TheVariants.{RowSync, RowWrite}
use Rattle.host_world.specs.declared.state.Step.TheVariants.{VersionSync, VersionWrite}
use Rattle.host_world.specs.declared.turn.Phase.TheVariants.{Begun}
use Rattle.host_world.specs.declared.turn.Session.{Session}
use Rattle.host_world.specs.declared.turn.Turn.{Turn}
use Rattle.host_world.proofs.Lists.{false_true, get_else, get_here, some_same}
use Rattle.host_world.proofs.Sound.{Busy, Knows, RowsFact, Sound, StepFact, TurnFact}

pub replies-append : (s : ℕ) (l m : List Given) → given_replies s m ≡ []
    → given_replies s (l ++ m) ≡ given_replies s l
replies-append s [] m none = none
replies-append s (g ∷ l) m none = rw (replies-append s l m none) refl

-- one session is this from now on, and perhaps another holds the journal; replies were given
abbrev pub moved : JournalHost → ℕ → Session → Option ℕ → List Given → JournalHost
moved w s x holder given =
    record w { sessions = set w.sessions s x; holder = holder; given = w.given ++ given }

module _ (stories : List Story) (budget : ℕ) where
  -- what an event of session s may do
  pub record Moving (first : ℕ → List Entry) (past later : ℕ → List Happening) (w : JournalHost)
      (s : ℕ) (x y : Session) (holder : Option ℕ) (given : List Given) : Type 0 where
    pub at : slice_get w.sessions s ≡ Some x
    pub up : w.up ≡ true
    pub quiet : (t : Turn) → x.turn ≡ Some t → t.phase ≡ Begun → ⊥
    pub keeps : (n : ℕ) → n ≢ s → w.holder ≡ Some n → holder ≡ Some n
    pub others : (n : ℕ) → n ≢ s → (later n ≡ past n) × (given_replies n given ≡ [])
    pub turn : TurnFact stories budget (history_left stories budget (first s)
        (later s)) y.history y.turn
    pub replies : given_replies s (w.given ++ given) ≡ replies_of stories budget (first s) (later s)
    pub rows : commands_in y.history ++ pending stories budget y
        ≡ commands_in x.history ++ pending stories budget x
    pub none : pending stories budget x ≡ [] → pending stories budget y ≡ []

  module _ (first : ℕ → List Entry) (past later : ℕ → List Happening) (w : JournalHost) (s : ℕ)
      (x y : Session) (holder : Option ℕ) (given : List Given)
      (m : Moving first past later w s x y holder given) where
    abbrev new : JournalHost
    new = moved w s y holder given

    busy_stays : (r : Row) → Busy stories budget w r → Busy stories budget new r
    busy_stays r b = elim (cases_eq r.session s) [
      | inl same ↦ absurd (m.quiet b.turn
          (ap (λ (z : Session). z.turn) (some_same x b.asker
          (sym m.at ∙ ap (λ (n : ℕ). slice_get w.sessions n) (sym same) ∙ b.at))
          ∙ b.stands) b.started)
      | inr other ↦ record {
        up = b.up;
        next = b.next;
        held = m.keeps r.session other b.held;
        asker = b.asker;
        turn = b.turn;
        at = get_else w.sessions s r.session y other ∙ b.at;
        stands = b.stands;
        started = b.started;
        accepted = b.accepted;
      }
    ]

    step_stays : (step : Step) → StepFact stories budget w step → StepFact stories budget new step
    step_stays Idle fact = tt
    step_stays (RepairWrite r n) fact = (busy_stays r fact.0, fact.1)
    step_stays (RepairSync r n) fact = (busy_stays r fact.0, fact.1)
    step_stays (RowWrite r n) fact = (busy_stays r fact.0, fact.1)
    step_stays (RowSync r n) fact = (busy_stays r fact.0, fact.1, fact.2)
    step_stays (GateWrite r n) fact = (busy_stays r fact.0, fact.1)
    step_stays (GateSync r n) fact = (busy_stays r fact.0, fact.1, fact.2)
    step_stays FirstSync fact = fact
    step_stays AskSize fact = fact
    step_stays ReadAll fact = fact
    step_stays (CloseWrite rows) fact = fact
    step_stays (CloseSync rows) fact = fact
    step_stays (VersionWrite rows) fact = fact
    step_stays (VersionSync rows) fact = fact

    rows_here : (up : Bool) → up ≡ true → RowsFact stories budget s w.rows w.uncertain x up
        → RowsFact stories budget s w.rows w.uncertain y up
    rows_here true is fact = (fact.0 ∙ sym m.rows, none_here w.uncertain fact.1)
      where
        none_here : (u : Option Row) → IfSome u (λ r. r.session ≡ s → pending stories budget x ≡ [])
            → IfSome u (λ r. r.session ≡ s → pending stories budget y ≡ [])
        none_here None fact = fact
        none_here (Some r) fact = λ is. m.none (fact is)
    rows_here false is fact = absurd (false_true is)

    pub moves : Sound stories budget first past w → Sound stories budget first later new
    moves sound = record {
      stays = sound.stays;
      images = sound.images;
      journal = sound.journal;
      next = sound.next;
      sessions = length-set w.sessions s y ∙ sound.sessions;
      step = step_stays w.step sound.step;
      each = each;
    }
      where
        here : Knows stories budget (first s) (later s) new s y
        here = record {
          turn = m.turn;
          replies = m.replies;
          rows =
              rows_here w.up m.up (sound.each s x m.at).rows;
        }

        elsewhere : (n : ℕ) (z : Session) → n ≢ s → slice_get w.sessions n ≡ Some z
            → Knows stories budget (first n) (later n) new n z
        elsewhere n z other at =
            let known = sound.each n z at in
            subst (λ (p : List Happening). Knows stories budget (first n) p new n z)
            (sym (m.others n other).0)
            (record {
              turn = known.turn;
              replies =
                  replies-append n w.given given (m.others n other).1 ∙ known.replies;
              rows =
                  known.rows;
            })

        each : (n : ℕ) (z : Session) → slice_get new.sessions n ≡ Some z
            → Knows stories budget (first n) (later n) new n z
        each n z at = elim (cases_eq n s) [
          | inl same ↦ subst (λ (q : Session). Knows stories budget (first n) (later n) new n q)
              (some_same y z (sym (get_here w.sessions s x y m.at)
              ∙ ap (λ (k : ℕ). slice_get (set w.sessions s y) k) (sym same) ∙ at))
              (subst (λ (k : ℕ). Knows stories budget (first k) (later k) new k y) (sym same) here)
          | inr other ↦ elsewhere n z other (sym (get_else w.sessions s n y other) ∙ at)
        ]

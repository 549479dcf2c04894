-- How a session goes on, and what a phase is known by.
use Rattle.std.proofs.Common.{Bool, List, None, Option, Some, [], ap, false, refl, subst, sym}
use Rattle.std.proofs.Common.{true, ℕ, ◌++◌, ◌∙◌, ◌≡◌, ◌≢◌}
use Rattle.std.proofs.lemmas.List.{append-nil}
use Rattle.std.specs.List.{slice_get}
use Rattle.std.specs.Prelude.{if◌then◌else◌}
use Rattle.gate_journal.specs.declared.row.Row.{Row}
use Rattle.story_run.specs.declared.story.Story.{Story}
use Rattle.session_core.specs.declared.entry.Entry.{Entry}
use Rattle.host_world.specs.Events.{goes_to, held_by, with_session}
use Rattle.host_world.specs.Happenings.{Happening}
use Rattle.host_world.specs.Sessions.{in_phase, phase_in, phase_of}
use Rattle.host_world.specs.declared.state.JournalHost.{JournalHost}
use Rattle.host_world.specs.declared.turn.Phase.{Phase}
use Rattle.host_world.specs.declared.turn.Phase.TheVariants.{Begun}
use Rattle.host_world.specs.declared.turn.Session.{Session}
use Rattle.host_world.specs.declared.turn.Turn.{Turn}
use Rattle.host_world.proofs.Folds.{eq_other}
use Rattle.host_world.proofs.Lists.{set_same, some_none}
use Rattle.host_world.proofs.Moves.{moved}
use Rattle.host_world.proofs.Sound.{Knows, RowsFact, Sound}

module _ (stories : List Story) (budget : ℕ) where
  -- what holds of a function of a session's phase
  pub phase_kept :
      (P : JournalHost → Type 0) (w : JournalHost) (s : ℕ) (f : Option Phase → JournalHost) → P (f None)
      → ((x : Session) → slice_get w.sessions s ≡ Some x → (t : Turn) → x.turn ≡ Some t
      → P (f (Some t.phase)))
      → P (f (phase_of (slice_get w.sessions s)))
  phase_kept P w s f none some = of_session (slice_get w.sessions s) refl
    where
      of_turn :
          (x : Session) → slice_get w.sessions s ≡ Some x → (o : Option Turn) → x.turn ≡ o
          → P (f (phase_in o))
      of_turn x at None is = none
      of_turn x at (Some t) is = some x at t is

      of_session : (o : Option Session) → slice_get w.sessions s ≡ o → P (f (phase_of o))
      of_session None is = none
      of_session (Some x) is = of_turn x is x.turn refl

  -- a session whose phase goes on, as a session that is set
  pub goes_is :
      (w : JournalHost) (s : ℕ) (x : Session) (t : Turn) (phase : Phase) (holder : Option ℕ)
      → slice_get w.sessions s ≡ Some x → x.turn ≡ Some t
      → moved w s (in_phase x t phase) holder [] ≡ goes_to w s phase holder
  goes_is w s x t phase holder at turn = rw (at, turn, append-nil w.given) refl

  -- and one that is set while nobody else takes the journal
  pub with_is : (w : JournalHost) (s : ℕ) (x : Session) → moved w s x w.holder [] ≡ with_session w s x
  with_is w s x = rw (append-nil w.given) refl

  pub held_as : (w : JournalHost) (s : ℕ) (x : Session) → slice_get w.sessions s ≡ Some x
      → moved w s x (Some s) [] ≡ record w { holder = Some s }
  held_as w s x at = rw (set_same w.sessions s x at, append-nil w.given) refl

  pub if_kept : (P : JournalHost → Type 0) (a b : JournalHost) (test : Bool) → P b → (test ≡ true → P a)
      → P (if test then a else b)
  if_kept P a b true same then_ = then_ refl
  if_kept P a b false same then_ = same

  pub same_past : (first : ℕ → List Entry) (past past_with : ℕ → List Happening) (w : JournalHost)
      → ((n : ℕ) → past n ≡ past_with n) → Sound stories budget first past w
      → Sound stories budget first past_with w
  same_past first past past_with w same sound = record {
    stays = sound.stays;
    images = sound.images;
    journal = sound.journal;
    next = sound.next;
    sessions = sound.sessions;
    step = sound.step;
    each = λ s x at. subst (λ (p : List Happening). Knows stories budget (first s) p w s x) (same s)
        (sound.each s x at);
  }

  -- nothing happened
  pub untold : (first : ℕ → List Entry) (past : ℕ → List Happening) (w : JournalHost)
      → Sound stories budget first past w → Sound stories budget first (λ s. past s ++ []) w
  untold first past w sound =
      same_past first past (λ s. past s ++ []) w (λ s. sym (append-nil (past s))) sound

  pub turn_up : (s : ℕ) (rows : List Row) (u : Option Row) (x : Session) (t : Turn) (up : Bool)
      → RowsFact stories budget s rows u x up → x.turn ≡ Some t → up ≡ true
  turn_up s rows u x t true fact is = refl
  turn_up s rows u x t false fact is = absurd (some_none t (sym is ∙ fact.0))

  -- no append of it is under way
  abbrev pub Quiet : Phase → Type 0
  Quiet Begun = ⊥
  Quiet phase = Unit {0}

  pub not_begun : (phase : Phase) → Quiet phase → phase ≡ Begun → ⊥
  not_begun phase quiet is = subst (λ (p : Phase). Quiet p) is quiet

  pub held_is : (o : Option ℕ) (s n : ℕ) → n ≢ s → o ≡ Some n → held_by o s ≡ false
  held_is o s n other is = ap (λ (p : Option ℕ). held_by p s) is
      ∙ eq_other n s (λ same. other (sym same))

-- What an opening finds, and what a call does.
use Rattle.std.proofs.Common.{Bool, List, None, Option, Some, [], ap, arith, false, inl}
use Rattle.std.proofs.Common.{inr, refl, subst, sym, true, ℕ, ◌++◌, ◌<◌, ◌∙◌, ◌∷◌, ◌≡◌, ◌⊎◌}
use Rattle.std.proofs.lemmas.List.{append-nil}
use Rattle.std.proofs.lemmas.List.FromFn.{get_or-map-range_with_len, length-map-range_with_len}
use Rattle.std.proofs.lemmas.Option.{get_or_from_slice_get, slice_get_within}
use Rattle.std.specs.List.{slice_get}
use Rattle.std.specs.Prelude.{IfSome, if◌then◌else◌, not, ◌&&◌}
use Rattle.gate_journal.specs.Rows.{commands_of}
use Rattle.gate_journal.specs.declared.row.Row.{Row}
use Rattle.story_run.specs.declared.story.Story.{Story}
use Rattle.session_core.specs.Turning.{commands_in}
use Rattle.session_core.specs.declared.entry.Entry.{Entry}
use Rattle.host_world.specs.Happenings.{Happening, Opened, further, news}
use Rattle.host_world.specs.Pending.{OneMore}
use Rattle.host_world.specs.Sessions.{found_session, found_sessions}
use Rattle.host_world.specs.declared.state.JournalHost.{JournalHost}
use Rattle.host_world.specs.declared.turn.Session.{Session}
use Rattle.host_world.proofs.Lists.{false_true}
use Rattle.host_world.proofs.Phases.{same_past}
use Rattle.host_world.proofs.Sound.{RowsFact, Sound}

abbrev pub nobody : Session
nobody = record { history = []; turn = None }

pub found_at : (rows : List Row) (s : ℕ) (x : Session) → slice_get (found_sessions rows) s ≡ Some x
    → (s < 64) × (found_session rows s ≡ x)
found_at rows s x at =
    let within : s < 64 =
    omega (
      arith,
      slice_get_within (found_sessions rows) s x at,
      length-map-range_with_len
          (found_session rows) 0 64,
    ) in (
      within,
      sym (get_or-map-range_with_len (found_session rows) 0 64 s s nobody within
          (omega arith)) ∙ get_or_from_slice_get (found_sessions rows) s x nobody at,
    )

module _ (stories : List Story) (budget : ℕ) where
  -- the rows that an opening finds
  pub record Reopens (w new : JournalHost) : Type 0 where
    pub rows : (new.rows ≡ w.rows) ⊎ ((u : Row) × (w.uncertain ≡ Some u)
        × (new.rows ≡ w.rows ++ u ∷ []))
    pub sessions : new.sessions ≡ found_sessions new.rows

  -- what a call does
  pub record CallsWell (first : ℕ → List Entry) (past : ℕ → List Happening)
      (w new : JournalHost) : Type 0 where
    pub sound : Sound stories budget first (λ s. past s ++ news s w new) new
    pub reopens : w.up ≡ false → new.up ≡ true → Reopens w new

  pub of_down : (s : ℕ) (rows : List Row) (u : Option Row) (x : Session) (up : Bool) → up ≡ false
      → RowsFact stories budget s rows u x up → RowsFact stories budget s rows u x false
  of_down s rows u x true is fact = absurd (false_true (sym is))
  of_down s rows u x false is fact = fact

  -- the rows that an opening finds, for one session
  pub one_more_of : (w : JournalHost) (rows : List Row) (s : ℕ) (x : Session)
      → RowsFact stories budget s w.rows w.uncertain x false
      → (rows ≡ w.rows) ⊎ ((u : Row) × (w.uncertain ≡ Some u) × (rows ≡ w.rows ++ u ∷ []))
      → OneMore (commands_in x.history) (commands_of rows s)
  one_more_of w rows s x fact (inl same) =
      subst (λ (l : List Row). OneMore (commands_in x.history) (commands_of l s)) (sym same) fact.1
  one_more_of w rows s x fact (inr more) =
      subst (λ (l : List Row). OneMore (commands_in x.history) (commands_of l s)) (sym more.2)
      (subst (λ (o : Option Row). IfSome o
      (λ r. OneMore (commands_in x.history) (commands_of (w.rows ++ r ∷ []) s))) more.1 fact.2)

  pub no_news : (b : Bool) (l : List Happening) (m : List Happening) → m ≡ []
      → (if not b && b then l else m) ≡ []
  no_news true l m is = is
  no_news false l m is = is

  pub same_up : (first : ℕ → List Entry) (past : ℕ → List Happening) (w new : JournalHost)
      → new.up ≡ w.up → Sound stories budget first past new → CallsWell first past w new
  same_up first past w new up sound = record {
    sound = same_past stories budget first past (λ s. past s ++ news s w new) new
        (λ s. sym (ap (λ (l : List Happening). past s ++ l) (quiet s) ∙ append-nil (past s))) sound;
    reopens = λ down risen. absurd (false_true (sym down ∙ sym up ∙ risen));
  }
    where
      quiet : (s : ℕ) → news s w new ≡ []
      quiet s =
          ap (λ (b : Bool). if not w.up && b then Opened
          (further (slice_get w.sessions s) (commands_of new.rows s)) ∷ [] else []) up
          ∙ no_news w.up (Opened (further (slice_get w.sessions s)
          (commands_of new.rows s)) ∷ []) [] refl

-- A list of events, one by one, and what holds over it.
use Rattle.std.proofs.Common.{List, [], ap, drop, get_or, length, refl, subst}
use Rattle.std.proofs.Common.{sym, ℕ, ◌++◌, ◌+◌, ◌<◌, ◌∙◌, ◌∷◌, ◌≡◌, ◌≤◌}
use Rattle.std.proofs.lemmas.List.{at_drop_all, drop_more}
use Rattle.std.specs.List.{slice_get}
use Rattle.story_run.specs.declared.story.Story.{Story}
use Rattle.host_world.specs.Events.{after, run}
use Rattle.host_world.specs.Happenings.{all_told}
use Rattle.host_world.specs.Headline.{EachLives, EventsAreIsolated, NothingIsLost, OpeningsFindRows}
use Rattle.host_world.specs.declared.event.JournalEvent.{JournalEvent}
use Rattle.host_world.specs.declared.state.JournalHost.{JournalHost}
use Rattle.host_world.proofs.Apart.{isolated_holds, nothing_lost}
use Rattle.host_world.proofs.Openings.{call_well}
use Rattle.host_world.proofs.Runs.{first_of, lives_holds, run_well, start_well}

module _ (stories : List Story) (budget : ℕ) where
  pub run_next : (events : List JournalEvent) (i : ℕ) (event : JournalEvent) (w v : JournalHost) → i < length events
      → event ≡ get_or events i event → v ≡ after stories budget w event
      → run stories budget v (drop (i + 1) events) ≡ run stories budget w (drop i events)
  run_next events i event w v lt here is = rw (is, drop_more events i event lt, sym here) refl

  pub run_end : (events : List JournalEvent) (i : ℕ) (w : JournalHost) → length events ≤ i
      → run stories budget w (drop i events) ≡ w
  run_end events i w le = at_drop_all (λ (l : List JournalEvent). run stories budget w l) events i le

  pub run-append : (earlier later : List JournalEvent) (w : JournalHost)
      → run stories budget w (earlier ++ later)
      ≡ run stories budget (run stories budget w earlier) later
  run-append [] later w = refl
  run-append (e ∷ earlier) later w = run-append earlier later (after stories budget w e)

  module _ (w : JournalHost) (events : List JournalEvent) (v : JournalHost)
      (is : v ≡ run stories budget w events) where
    pub each_lives : EachLives stories budget w events v
    each_lives = subst (λ (u : JournalHost). EachLives stories budget w events u) (sym is)
        (λ premise start s x y. lives_holds stories budget premise w events start s x y)

    pub none_lost : NothingIsLost stories budget w events v
    none_lost premise start earlier later split s x y at free_ at_later =
        nothing_lost stories budget premise w earlier later start s x y at free_
        (ap (λ (u : JournalHost). slice_get u.sessions s) (sym (is
        ∙ ap (λ (l : List JournalEvent). run stories budget w l) split
        ∙ run-append earlier later w)) ∙ at_later)

    pub openings_find : OpeningsFindRows stories budget w events v
    openings_find premise start earlier later disk good reads split down up =
        ((call_well stories budget premise (first_of stories budget premise w)
        (λ s. all_told stories budget s w earlier) (run stories budget w earlier) disk good reads
        (run_well stories budget premise earlier (first_of stories budget premise w) (λ s. []) w
        (start_well stories budget premise w start))).reopens down up).rows

    pub isolated : EventsAreIsolated stories budget w events v
    isolated = subst (λ (u : JournalHost). EventsAreIsolated stories budget w events u) (sym is)
        (λ premise start other others. λ second s x y at_x at_y same agree.
        isolated_holds stories budget premise w other events others start second s x y at_x at_y
        same agree)

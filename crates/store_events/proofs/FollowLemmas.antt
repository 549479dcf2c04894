-- A list of events, one by one.
use Rattle.std.proofs.Common.{List, [], drop, get_or, length, refl, sym, ℕ, ◌+◌, ◌<◌, ◌∷◌, ◌≡◌, ◌≤◌}
use Rattle.std.proofs.lemmas.List.{at_drop_all, drop_more}
use Rattle.store_events.specs.Events.{file_after, run_store}
use Rattle.store_events.specs.Steady.{IsSteady}
use Rattle.store_events.specs.declared.event.FileEvent.{FileEvent}
use Rattle.store_events.specs.declared.state.StoreState.{StoreState}
use Rattle.store_events.proofs.SteadyLemmas.{after_steady}

pub run_next : (events : List FileEvent) (i : ℕ) (event : FileEvent) (w v : StoreState) → i < length events
    → event ≡ get_or events i event → v ≡ file_after w event
    → run_store v (drop (i + 1) events) ≡ run_store w (drop i events)
run_next events i event w v lt here is = rw (is, drop_more events i event lt, sym here) refl

pub run_end : (events : List FileEvent) (i : ℕ) (w : StoreState) → length events ≤ i
    → run_store w (drop i events) ≡ w
run_end events i w le = at_drop_all (λ (l : List FileEvent). run_store w l) events i le

pub run_steady : (events : List FileEvent) (w : StoreState) → IsSteady w → IsSteady (run_store w events)
run_steady [] w steady = steady
run_steady (event ∷ events) w steady =
    run_steady events (file_after w event) (after_steady w event steady)

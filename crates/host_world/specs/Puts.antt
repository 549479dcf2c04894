-- The puts of a list of events are of the sessions' own snapshots (own).
use Rattle.std.specs.Prelude.{◌≡◌, ℕ, List, [], ◌∷◌, Some}
use Rattle.std.specs.List.{slice_get}
use Rattle.story_run.specs.declared.story.Story.{Story}
use Rattle.store_events.specs.declared.state.StoreState.{StoreState}
use Rattle.host_world.specs.Keeping.{IsOwnSnapshot}
use Rattle.host_world.specs.Whole.{put_of, whole_after}
use Rattle.host_world.specs.declared.keeping.Snapshot.{Snapshot}
use Rattle.host_world.specs.declared.whole.Event.{Event}
use Rattle.host_world.specs.declared.whole.Event.TheVariants.{Keep}
use Rattle.host_world.specs.declared.whole.HostState.{HostState}

module _ (stories : List Story) where
  -- A put that begins is of the session's own snapshot: of its last OPEN row, after no more inputs
  -- than its synced rows have, with the bytes of the world after so many.
  abbrev pub IsOwnPut : HostState → Event → Type 0
  IsOwnPut w (Keep s) =
      (x : StoreState) (snapshot : Snapshot) → slice_get w.stores s ≡ Some x
      → put_of stories w s ≡ Some snapshot → IsOwnSnapshot stories w.host.rows s x snapshot
  IsOwnPut w event = Unit {0}

module _ (stories : List Story) (budget : ℕ) where
  abbrev pub AreOwnPuts : HostState → List Event → Type 0
  AreOwnPuts w [] = Unit {0}
  AreOwnPuts w (event ∷ events) =
      IsOwnPut stories w event × AreOwnPuts (whole_after stories budget w event) events

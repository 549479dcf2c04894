-- What becomes of the files of a host's sessions in one event, and of a file by a row more.
use Rattle.std.proofs.Common.{◌≡◌, ◌⊎◌, inl, inr, ◌∙◌, ℕ, zero, suc, ◌-◌, ◌==◌, Bool, true, false}
use Rattle.std.proofs.lemmas.Bool.{cases_eq}
use Rattle.std.proofs.Common.{List, [], ◌∷◌, ◌++◌, Option, Some, None, refl, sym, ap, subst}
use Rattle.std.specs.Prelude.{◌&&◌, map, set, if◌then◌else◌}
use Rattle.std.specs.List.{slice_get}
use Rattle.disk_model.specs.Plain.{is_image}
use Rattle.gate_journal.specs.Rows.{IsJournal, IsNext}
use Rattle.gate_journal.specs.declared.row.Row.{Row}
use Rattle.story_run.specs.declared.story.Story.{Story}
use Rattle.session_saves.specs.Agreement.{Agrees}
use Rattle.store_events.specs.declared.event.FileEvent.{FileEvent}
use Rattle.store_events.specs.declared.event.FileEvent.TheVariants as files
use Rattle.store_events.specs.declared.state.StoreState.{StoreState}
use Rattle.store_events.specs.Events.{begins_opening, file_after}
use Rattle.store_events.specs.Rows.{session_in_rows, told_of}
use Rattle.store_events.specs.Session.{Does, EachMissesNone, IsInAgreement, IsUpToDate}
use Rattle.store_events.specs.Session.{MayCome, SessionState}
use Rattle.store_events.proofs.AreaLemmas.{opens_areas}
use Rattle.store_events.proofs.RowLemmas.{rows_are_told}
use Rattle.store_events.proofs.SessionLemmas.{stays_in_agreement, warms_in_sixteen}
use Rattle.store_events.proofs.SteadyLemmas.{opens_steady}
use Rattle.host_world.specs.Keeping.{file_set, put_begun, with_event}
use Rattle.host_world.specs.Puts.{IsOwnPut}
use Rattle.host_world.specs.Whole.{are_images, is_up, put_of, stopped_files, to_files}
use Rattle.host_world.specs.declared.keeping.Snapshot.{Snapshot}
use Rattle.host_world.specs.declared.whole.Event.{Event}
use Rattle.host_world.specs.declared.whole.Event.TheVariants.{Take, Want, Hold, Call, Free, Run}
use Rattle.host_world.specs.declared.whole.Event.TheVariants.{Keep, Accept, Give, Stop, Recover}
use Rattle.host_world.specs.declared.whole.HostState.{HostState}
use Rattle.host_world.proofs.Lists.{get_else, get_here, map_at, some_same}
use Rattle.host_world.proofs.WholeRows.{Grows}

module _ (stories : List Story) where
  -- ---- a row more

  pub grown : (s : ℕ) (store : StoreState) (rows new : List Row) → IsJournal rows → Grows rows new
      → IsInAgreement stories (session_in_rows rows s store)
      → IsInAgreement stories (session_in_rows new s store)
  grown s store rows new all (inl same) agrees = rw same agrees
  grown s store rows new all (inr (r, next, is)) agrees =
      let told = rows_are_told stories rows r s store all next in
      rw is (subst (λ (y : SessionState). IsInAgreement stories y) (sym told.0)
      ((stays_in_agreement stories).goes_on (session_in_rows rows s store)
      (told_of r s) agrees told.1))

  pub dated : (s : ℕ) (store : StoreState) (rows : List Row) (r : Row) → IsJournal rows
      → IsNext rows r → IsInAgreement stories (session_in_rows rows s store)
      → EachMissesNone (session_in_rows rows s store) (told_of r s)
      → IsUpToDate (session_in_rows rows s store)
      → IsUpToDate (session_in_rows (rows ++ r ∷ []) s store)
  dated s store rows r all next agrees misses date =
      let told = rows_are_told stories rows r s store all next in
      subst (λ (y : SessionState). IsUpToDate y) (sym told.0)
      ((warms_in_sixteen stories).goes_on (session_in_rows rows s store) (told_of r s) agrees told.1
      date misses)

  -- ---- an event, to a file

  -- it is one of the file's own events, or nothing, or an opening begins
  abbrev pub FileStep : SessionState → StoreState → Type 0
  FileStep x y =
      (y ≡ x.store)
      ⊎ ((event : FileEvent) × MayCome stories x (Does event) × (y ≡ file_after x.store event))
      ⊎ (y ≡ begins_opening x.store)

  pub step_agrees : (x : SessionState) (y : StoreState) → FileStep x y → IsInAgreement stories x
      → IsInAgreement stories (record x { store = y })
  step_agrees x y (inl same) agrees = rw same agrees
  step_agrees x y (inr (inl (event, may, is))) agrees =
      rw is ((stays_in_agreement stories).goes_on x (Does event ∷ []) agrees (may, tt))
  step_agrees x y (inr (inr is)) agrees = rw is (record {
    steady = opens_steady x.store agrees.steady;
    areas = opens_areas (Agrees stories x.rows x.game) x.store agrees.areas;
    last = agrees.last;
  })

  pub step_dates : (x : SessionState) (y : StoreState) → FileStep x y → IsInAgreement stories x
      → IsUpToDate x → IsUpToDate (record x { store = y })
  step_dates x y (inl same) agrees date = rw same date
  step_dates x y (inr (inl (event, may, is))) agrees date =
      rw is ((warms_in_sixteen stories).goes_on x (Does event ∷ []) agrees (may, tt) date (tt, tt))
  step_dates x y (inr (inr is)) agrees date = rw is date

  -- ---- an event, to all files

  module _ (w : HostState) where
    abbrev pub x_of : ℕ → StoreState → SessionState
    x_of s x = session_in_rows w.host.rows s x

    -- it is what became of the session's file
    abbrev pub FileOf : ℕ → StoreState → Type 0
    FileOf s y = (x : StoreState) × (slice_get w.stores s ≡ Some x) × FileStep (x_of s x) y

    as_it_is : (s : ℕ) (y : StoreState) → slice_get w.stores s ≡ Some y → FileOf s y
    as_it_is s y at = (y, at, inl refl)

    if_of : (b : Bool) (stores : List StoreState) (s : ℕ) (y : StoreState)
        → (slice_get stores s ≡ Some y → FileOf s y)
        → slice_get (if b then stores else w.stores) s ≡ Some y → FileOf s y
    if_of true stores s y step at = step at
    if_of false stores s y step at = as_it_is s y at

    event_of : (t : ℕ) (event : FileEvent)
        → ((x : StoreState) → slice_get w.stores t ≡ Some x
        → MayCome stories (x_of t x) (Does event))
        → (o : Option StoreState) → slice_get w.stores t ≡ o → (s : ℕ) (y : StoreState)
        → slice_get (file_set w.stores t event o) s ≡ Some y → FileOf s y
    event_of t event may None none s y at = as_it_is s y at
    event_of t event may (Some x) there s y at = elim (cases_eq s t) [
      | inl same ↦
          let is : file_after x event ≡ y =
          some_same (file_after x event) y
          (sym (get_here w.stores t x (file_after x event) there)
          ∙ ap (λ (n : ℕ). slice_get (set w.stores t (file_after x event)) n) (sym same) ∙ at) in (
            x,
            ap (λ (n : ℕ). slice_get w.stores n) same ∙ there,
            inr (inl (
              event,
              subst (λ (n : ℕ). MayCome stories (x_of n x) (Does event)) (sym same) (may x there),
              sym is,
            )),
          )
      | inr apart ↦
          as_it_is s y (sym (get_else w.stores t s (file_after x event) apart) ∙ at)
    ]

    stopped_of : (stores : List StoreState) (images : List (List ℕ)) (s t : ℕ) (y : StoreState)
        → slice_get (stopped_files stores images) t ≡ Some y
        → (x : StoreState) × (slice_get stores t ≡ Some x) × FileStep (x_of s x) y
    stopped_of [] images s t y is = absurd cc
    stopped_of (u ∷ stores) [] s t y is = (y, is, inl refl)
    stopped_of (u ∷ stores) (image ∷ images) s zero y is = (
      u,
      refl,
      inr (inl (files.Stop image, tt, sym (some_same (file_after u (files.Stop image)) y is))),
    )
    stopped_of (u ∷ stores) (image ∷ images) s (suc t) y is = stopped_of stores images s t y is

    pub files_of : (event : Event) → IsOwnPut stories w event → (s : ℕ) (y : StoreState)
        → slice_get (to_files stories w event) s ≡ Some y → FileOf s y
    files_of (Take t pass line) own s y at = as_it_is s y at
    files_of (Want t) own s y at = as_it_is s y at
    files_of (Hold t) own s y at = as_it_is s y at
    files_of (Call disk good reads) own s y at = of (disk == 0) at
      where
        of : (b : Bool) → slice_get (if b then w.stores
            else if w.host.up then with_event w.stores (disk - 1) (files.Call good reads)
            else w.stores) s ≡ Some y → FileOf s y
        of true at = as_it_is s y at
        of false at =
            if_of w.host.up (with_event w.stores (disk - 1) (files.Call good reads)) s y
            (event_of (disk - 1) (files.Call good reads) (λ x there. tt)
            (slice_get w.stores (disk - 1)) refl s y) at
    files_of (Free t) own s y at = as_it_is s y at
    files_of (Run t found) own s y at = as_it_is s y at
    files_of (Keep t) own s y at = of (put_of stories w t) refl at
      where
        of : (o : Option Snapshot) → put_of stories w t ≡ o
            → slice_get (put_begun w.stores t o) s ≡ Some y → FileOf s y
        of None is at = as_it_is s y at
        of (Some snapshot) is at =
            event_of t (files.Keep snapshot.place snapshot.count snapshot.bytes)
            (λ x there. own x snapshot there is) (slice_get w.stores t) refl s y at
    files_of (Accept t) own s y at = as_it_is s y at
    files_of (Give t) own s y at = as_it_is s y at
    files_of (Stop []) own s y at = as_it_is s y at
    files_of (Stop (image ∷ images)) own s y at =
        if_of (is_image w.host.disk image && are_images w.stores images)
        (stopped_files w.stores images) s y (stopped_of w.stores images s s y) at
    files_of Recover own s y at = of (is_up w) at
      where
        of : (b : Bool) → slice_get (if b then w.stores else map begins_opening w.stores) s ≡ Some y
            → FileOf s y
        of true at = as_it_is s y at
        of false at =
            let found = map_at begins_opening w.stores s y at in
            (found.0, found.1, inr (inr found.2))

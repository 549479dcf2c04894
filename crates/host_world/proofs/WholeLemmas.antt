-- The files of a host's sessions stay in agreement, whatever happens.
use Rattle.std.proofs.Common.{◌≡◌, ◌⊎◌, inl, inr, ◌∙◌, ℕ, ◌+◌, ◌-◌}
use Rattle.std.proofs.Common.{◌<◌, ◌≤◌, ◌==◌, Bool, true, false, drop, get_or}
use Rattle.std.proofs.lemmas.List.{at_drop_all, drop_all, drop_more}
use Rattle.std.proofs.Common.{List, [], ◌∷◌, ◌++◌, length, Some, refl, sym, ap, subst}
use Rattle.std.specs.Prelude.{◌&&◌, if◌then◌else◌}
use Rattle.std.specs.List.{slice_get}
use Rattle.disk_model.specs.Plain.{is_image}
use Rattle.gate_journal.specs.Rows.{IsNext}
use Rattle.gate_journal.specs.declared.row.Row.{Row}
use Rattle.story_run.specs.declared.story.Story.{Story}
use Rattle.session_core.specs.declared.entry.Entry.{Entry}
use Rattle.store_events.specs.declared.state.StoreState.{StoreState}
use Rattle.store_events.specs.Rows.{session_in_rows}
use Rattle.store_events.specs.Session.{IsUpToDate}
use Rattle.store_events.proofs.RowLemmas.{begins_by_rows}
use Rattle.store_events.proofs.SessionLemmas.{stays_in_agreement, warms_in_sixteen}
use Rattle.host_world.specs.Events.{after, run}
use Rattle.host_world.specs.Happenings.{Happening, all_told}
use Rattle.host_world.specs.Headline.{AreGiven}
use Rattle.host_world.specs.Starts.{IsStart}
use Rattle.host_world.specs.Puts.{AreOwnPuts, IsOwnPut}
use Rattle.host_world.specs.Whole.{all_to_host, are_images, closes_host, fails_at, is_up, no_put}
use Rattle.host_world.specs.Whole.{to_files, to_host, whole_after, whole_run}
use Rattle.host_world.specs.WholeHeadline.{EachInAgreement, FilesAgree, LivesAsHost, NoneAreMissed}
use Rattle.host_world.specs.WholeHeadline.{NoneIsMissed, NothingIsLostInAll, SessionWarmsInSixteen}
use Rattle.host_world.specs.declared.event.JournalEvent.{JournalEvent}
use Rattle.host_world.specs.declared.event.JournalEvent.TheVariants as journal
use Rattle.host_world.specs.declared.state.JournalHost.{JournalHost}
use Rattle.host_world.specs.declared.whole.Event.{Event}
use Rattle.host_world.specs.declared.whole.Event.TheVariants.{Take, Want, Hold, Call, Free, Run}
use Rattle.host_world.specs.declared.whole.Event.TheVariants.{Keep, Accept, Give, Stop, Recover}
use Rattle.host_world.specs.declared.whole.HostState.{HostState}
use Rattle.host_world.specs.Reading.{rows_in}
use Rattle.host_world.specs.Starts.{rows_or_none}
use Rattle.host_world.specs.Whole.{file_over, whole_down}
use Rattle.host_world.specs.WholeHeadline.{MayBegin}
use Rattle.host_world.proofs.Apart.{nothing_lost}
use Rattle.host_world.proofs.FollowLemmas.{run-append}
use Rattle.host_world.proofs.GateLemmas.{down_starts, read_journal}
use Rattle.host_world.proofs.Runs.{first_of, run_well, start_well}
use Rattle.host_world.proofs.Sound.{Sound}
use Rattle.host_world.proofs.Lists.{map_at, some_same}
use Rattle.host_world.proofs.WholeFiles.{dated, files_of, grown, step_agrees, step_dates}
use Rattle.host_world.proofs.WholeRows.{Grows, after_rows, recover_rows, stop_rows}

module _ (stories : List Story) where
  -- ---- an event, to the rows

  module _ (budget : ℕ) (premise : AreGiven stories budget) (w : HostState)
      (first : ℕ → List Entry) (past : ℕ → List Happening)
      (sound : Sound stories budget first past w.host) where
    -- it leaves the rows, or adds one and leaves all files
    abbrev WholeStep : Event → List JournalEvent → Type 0
    WholeStep event events =
        ((run stories budget w.host events).rows ≡ w.host.rows)
        ⊎ ((r : Row) × IsNext w.host.rows r
        × ((run stories budget w.host events).rows ≡ w.host.rows ++ r ∷ [])
        × (to_files stories w event ≡ w.stores))

    by_one : (event : Event) (one : JournalEvent)
        → (to_files stories w event ≡ w.stores)
        → WholeStep event (one ∷ [])
    by_one event one same = of (after_rows stories budget premise first past w.host sound one)
      where
        of : Grows w.host.rows (after stories budget w.host one).rows
            → WholeStep event (one ∷ [])
        of (inl is) = inl is
        of (inr (r, next, is)) = inr (r, next, is, same)

    if_one : (event : Event) (one : JournalEvent) (b : Bool)
        → (to_files stories w event ≡ w.stores)
        → WholeStep event (if b then one ∷ [] else [])
    if_one event one true same = by_one event one same
    if_one event one false same = inl refl

    closed_rows : (b : Bool)
        → (run stories budget w.host (if b then closes_host w.host else [])).rows
        ≡ w.host.rows
    closed_rows true = stop_rows w.host (w.host.disk.seen ∷ [])
    closed_rows false = refl

    stopped_rows : (b : Bool) (image : List ℕ)
        → (run stories budget w.host (if b then journal.Stop (image ∷ []) ∷ [] else [])).rows
        ≡ w.host.rows
    stopped_rows true image = stop_rows w.host (image ∷ [])
    stopped_rows false image = refl

    reopened_rows : (b up : Bool) → (run stories budget w.host (if up then []
        else (if b then closes_host w.host else []) ++ journal.Recover ∷ [])).rows ≡ w.host.rows
    reopened_rows b true = refl
    reopened_rows true false =
        let v = after stories budget w.host (journal.Stop (w.host.disk.seen ∷ [])) in
        recover_rows v v.up ∙ stop_rows w.host (w.host.disk.seen ∷ [])
    reopened_rows false false = recover_rows w.host w.host.up

    whole_step : (event : Event) → WholeStep event (to_host w event)
    whole_step (Take s pass line) =
        if_one (Take s pass line) (journal.Take s pass line) (is_up w) refl
    whole_step (Want s) = by_one (Want s) (journal.Want s) refl
    whole_step (Hold s) = by_one (Hold s) (journal.Hold s) refl
    whole_step (Call disk good reads) = of (disk == 0) refl
      where
        of : (b : Bool) → (disk == 0) ≡ b → WholeStep (Call disk good reads)
            (if b then journal.Call 0 good reads ∷ []
            else if w.host.up && fails_at (slice_get w.stores (disk - 1)) good reads
            then closes_host w.host else [])
        of true is =
            by_one (Call disk good reads) (journal.Call 0 good reads) (rw is refl)
        of false is =
            inl (closed_rows (w.host.up && fails_at (slice_get w.stores (disk - 1)) good reads))
    whole_step (Free s) = by_one (Free s) (journal.Free s) refl
    whole_step (Run s found) = by_one (Run s found) (journal.Run s found) refl
    whole_step (Keep s) = inl refl
    whole_step (Accept s) = by_one (Accept s) (journal.Accept s) refl
    whole_step (Give s) =
        if_one (Give s) (journal.Give s) (no_put (slice_get w.stores s)) refl
    whole_step (Stop []) = inl refl
    whole_step (Stop (image ∷ images)) =
        inl (stopped_rows (is_image w.host.disk image && are_images w.stores images) image)
    whole_step Recover = inl (reopened_rows w.host.up (is_up w))

    -- ---- an event, to a session

    rows_grow : (event : Event)
        → Grows w.host.rows (run stories budget w.host (to_host w event)).rows
    rows_grow event = of (whole_step event)
      where
        of : WholeStep event (to_host w event)
            → Grows w.host.rows (run stories budget w.host (to_host w event)).rows
        of (inl same) = inl same
        of (inr (r, next, is, files_same)) = inr (r, next, is)

    pub each_agrees : (event : Event) → IsOwnPut stories w event
        → EachInAgreement stories budget w
        → EachInAgreement stories budget (whole_after stories budget w event)
    each_agrees event own all s y at =
        let found = files_of stories w event own s y at in
        grown stories s y w.host.rows (run stories budget w.host (to_host w event)).rows
        sound.journal (rows_grow event)
        (step_agrees stories (session_in_rows w.host.rows s found.0) y found.2
        (all s found.0 found.1))

    session_dates : (event : Event) → IsOwnPut stories w event → (s : ℕ)
        → EachInAgreement stories budget w
        → NoneIsMissed stories budget s w event
        → ((x : StoreState) → slice_get w.stores s ≡ Some x
        → IsUpToDate (session_in_rows w.host.rows s x))
        → (y : StoreState) → slice_get (to_files stories w event) s ≡ Some y
        → IsUpToDate (session_in_rows (run stories budget w.host (to_host w event)).rows s y)
    session_dates event own s all none date y at = of (whole_step event)
      where
        of : WholeStep event (to_host w event) → IsUpToDate (session_in_rows
            (run stories budget w.host (to_host w event)).rows s y)
        of (inl same) =
            let found = files_of stories w event own s y at in
            rw same (step_dates stories (session_in_rows w.host.rows s found.0) y found.2
            (all s found.0 found.1) (date found.0 found.1))
        of (inr (r, next, is, files_same)) =
            let there = subst (λ (l : List StoreState). slice_get l s ≡ Some y) files_same at in
            rw is (dated stories s y w.host.rows r sound.journal next (all s y there)
            (none y r there is) (date y there))

  -- ---- a list of events

  module _ (budget : ℕ) (premise : AreGiven stories budget) where
    all_agree : (events : List Event) (w : HostState) (first : ℕ → List Entry)
        (past : ℕ → List Happening) → Sound stories budget first past w.host
        → EachInAgreement stories budget w → AreOwnPuts stories budget w events
        → EachInAgreement stories budget (whole_run stories budget w events)
    all_agree [] w first past sound all own = all
    all_agree (event ∷ events) w first past sound all own =
        all_agree events (whole_after stories budget w event) first
        (λ s. past s ++ all_told stories budget s w.host (to_host w event))
        (run_well stories budget premise (to_host w event) first past w.host sound)
        (each_agrees budget premise w first past sound event own.0 all) own.1

    -- the file of a session, behind the events
    all_date : (events : List Event) (w : HostState) (first : ℕ → List Entry)
        (past : ℕ → List Happening) → Sound stories budget first past w.host
        → EachInAgreement stories budget w → AreOwnPuts stories budget w events
        → (s : ℕ) → ((x : StoreState) → slice_get w.stores s ≡ Some x
        → IsUpToDate (session_in_rows w.host.rows s x))
        → NoneAreMissed stories budget s w events
        → (y : StoreState) → slice_get (whole_run stories budget w events).stores s ≡ Some y
        → IsUpToDate (session_in_rows (whole_run stories budget w events).host.rows s y)
    all_date [] w first past sound all own s date none y at = date y at
    all_date (event ∷ events) w first past sound all own s date none y at =
        all_date events (whole_after stories budget w event) first
        (λ t. past t ++ all_told stories budget t w.host (to_host w event))
        (run_well stories budget premise (to_host w event) first past w.host sound)
        (each_agrees budget premise w first past sound event own.0 all) own.1 s
        (session_dates budget premise w first past sound event own.0 s all none.0 date)
        none.1 y at

  pub lives_as_host : (budget : ℕ) (w : HostState) (events : List Event)
      → LivesAsHost stories budget w events (whole_run stories budget w events)
  lives_as_host budget w [] = refl
  lives_as_host budget w (event ∷ events) =
      lives_as_host budget (whole_after stories budget w event) events
      ∙ sym (run-append stories budget (to_host w event)
      (all_to_host stories budget (whole_after stories budget w event) events) w.host)

  pub files_agree : (budget : ℕ) (w : HostState) (events : List Event)
      → AreOwnPuts stories budget w events
      → FilesAgree stories budget w events (whole_run stories budget w events)
  files_agree budget w events own premise start all =
      let agree =
      all_agree budget premise events w (first_of stories budget premise w.host) (λ s. [])
      (start_well stories budget premise w.host start) all own in (
        agree,
        (λ s x image at is.
            (stays_in_agreement stories).shows
            (session_in_rows (whole_run stories budget w events).host.rows s x) image
            (agree s x at) is),
      )

  -- ---- up to some point of it, and behind that

  whole-append : (budget : ℕ) (earlier later : List Event) (w : HostState)
      → whole_run stories budget w (earlier ++ later)
      ≡ whole_run stories budget (whole_run stories budget w earlier) later
  whole-append budget [] later w = refl
  whole-append budget (e ∷ earlier) later w =
      whole-append budget earlier later (whole_after stories budget w e)

  own_parts : (budget : ℕ) (earlier later : List Event) (w : HostState)
      → AreOwnPuts stories budget w (earlier ++ later)
      → AreOwnPuts stories budget w earlier
      × AreOwnPuts stories budget (whole_run stories budget w earlier) later
  own_parts budget [] later w own = (tt, own)
  own_parts budget (e ∷ earlier) later w own =
      let parts = own_parts budget earlier later (whole_after stories budget w e) own.1 in (
        (own.0, parts.0),
        parts.1,
      )

  module _ (budget : ℕ) (w : HostState) (events earlier later : List Event)
      (split : events ≡ earlier ++ later) where
    behind : whole_run stories budget w events
        ≡ whole_run stories budget (whole_run stories budget w earlier) later
    behind =
        ap (λ (l : List Event). whole_run stories budget w l) split
        ∙ whole-append budget earlier later w

    host_behind : (whole_run stories budget w events).host
        ≡ run stories budget (run stories budget w.host (all_to_host stories budget w earlier))
        (all_to_host stories budget (whole_run stories budget w earlier) later)
    host_behind =
        ap (λ (u : HostState). u.host) behind
        ∙ lives_as_host budget (whole_run stories budget w earlier) later
        ∙ ap (λ (h : JournalHost). run stories budget h
        (all_to_host stories budget (whole_run stories budget w earlier) later))
        (lives_as_host budget w earlier)

    sound_between : (premise : AreGiven stories budget) → IsStart w.host
        → Sound stories budget (first_of stories budget premise w.host)
        (λ t. all_told stories budget t w.host (all_to_host stories budget w earlier))
        (whole_run stories budget w earlier).host
    sound_between premise start =
        subst (λ (h : JournalHost). Sound stories budget (first_of stories budget premise w.host)
        (λ t. all_told stories budget t w.host (all_to_host stories budget w earlier)) h)
        (sym (lives_as_host budget w earlier))
        (run_well stories budget premise (all_to_host stories budget w earlier)
        (first_of stories budget premise w.host) (λ t. []) w.host
        (start_well stories budget premise w.host start))

  pub none_lost_in_all : (budget : ℕ) (w : HostState) (events : List Event)
      → NothingIsLostInAll stories budget w events (whole_run stories budget w events)
  none_lost_in_all budget w events premise start earlier later split s x y at free_ at_later =
      nothing_lost stories budget premise w.host (all_to_host stories budget w earlier)
      (all_to_host stories budget (whole_run stories budget w earlier) later) start s x y
      (ap (λ (h : JournalHost). slice_get h.sessions s) (sym (lives_as_host budget w earlier)) ∙ at)
      free_
      (ap (λ (h : JournalHost). slice_get h.sessions s)
      (sym (host_behind budget w events earlier later split)) ∙ at_later)

  pub session_warms : (budget : ℕ) (w : HostState) (events : List Event)
      → AreOwnPuts stories budget w events
      → SessionWarmsInSixteen stories budget w events (whole_run stories budget w events)
  session_warms budget w events own premise start all earlier later split s then_ last at date none
      there place image row is =
      let v = whole_run stories budget w events in
      let m = whole_run stories budget w earlier in
      let parts =
      own_parts budget earlier later w
      (subst (λ (l : List Event). AreOwnPuts stories budget w l) split own) in
      let to_end = behind budget w events earlier later split in
      let agree = (files_agree budget w events own premise start all).0 in
      let up =
      all_date budget premise later m (first_of stories budget premise w.host)
      (λ t. all_told stories budget t w.host (all_to_host stories budget w earlier))
      (sound_between budget w events earlier later split premise start)
      (all_agree budget premise earlier w (first_of stories budget premise w.host) (λ t. [])
      (start_well stories budget premise w.host start) all parts.0) parts.1 s
      (λ x here. subst (λ (z : StoreState). IsUpToDate (session_in_rows m.host.rows s z))
      (some_same then_ x (sym at ∙ here)) date) none last
      (ap (λ (u : HostState). slice_get u.stores s) (sym to_end) ∙ there) in
      (warms_in_sixteen stories).warms (session_in_rows v.host.rows s last) place image
      (agree s last there)
      (subst (λ (u : HostState). IsUpToDate (session_in_rows u.host.rows s last)) (sym to_end) up)
      row is

  -- ---- one by one

  pub whole_next : (budget : ℕ) (events : List Event) (i : ℕ) (event : Event)
      (w v : HostState) → i < length events
      → event ≡ get_or events i event → v ≡ whole_after stories budget w event
      → whole_run stories budget v (drop (i + 1) events)
      ≡ whole_run stories budget w (drop i events)
  whole_next budget events i event w v lt here is =
      rw (is, drop_more events i event lt, sym here) refl

  pub whole_end : (budget : ℕ) (events : List Event) (i : ℕ) (w : HostState)
      → length events ≤ i → whole_run stories budget w (drop i events) ≡ w
  whole_end budget events i w le =
      at_drop_all (λ (l : List Event). whole_run stories budget w l) events i le

  -- ---- own puts, one by one

  pub own_next : (budget : ℕ) (events : List Event) (i : ℕ) (event : Event)
      (w v : HostState) → i < length events
      → event ≡ get_or events i event → v ≡ whole_after stories budget w event
      → IsOwnPut stories w event → AreOwnPuts stories budget v (drop (i + 1) events)
      → AreOwnPuts stories budget w (drop i events)
  own_next budget events i event w v lt here is own more =
      rw (drop_more events i event lt, sym here)
      (own, subst (λ (u : HostState). AreOwnPuts stories budget u (drop (i + 1) events)) is more)

  pub own_end : (budget : ℕ) (events : List Event) (i : ℕ) (w : HostState)
      → length events ≤ i → AreOwnPuts stories budget w (drop i events)
  own_end budget events i w le = rw (drop_all i events le) tt

-- ---- where it begins

pub may_begin : (journal : List ℕ) (files : List (List ℕ))
    → MayBegin journal files (whole_down journal files)
may_begin journal files rows all may = (
  down_starts journal rows all may,
  (λ stories budget agreed s x at.
      let found = map_at file_over files s x at in
      rw found.2
      (begins_by_rows stories (rows_or_none (rows_in journal)) s found.0 (read_journal journal)
      (agreed s found.0 found.1))),
)

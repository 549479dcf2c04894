-- A session's file agrees with its rows and commands, whatever happens, and warms in 16 turns.
use Rattle.std.proofs.Common.{◌≡◌, ◌⊎◌, inl, inr, ◌∙◌, ℕ, ◌+◌, ◌*◌, ◌-◌, ◌<◌, ◌≤◌, Bool, true}
use Rattle.std.proofs.Common.{false, List, [], ◌∷◌, ◌++◌, length, drop, refl, sym, ap, subst, arith}
use Rattle.std.specs.Prelude.{Option, Some, None, IfSome, if◌then◌else◌}
use Rattle.std.specs.List.{Contains}
use Rattle.std.proofs.lemmas.Bool.{cases_Bool, cases_lt}
use Rattle.std.proofs.lemmas.Option.{same_Some}
use Rattle.std.proofs.lemmas.List.{length-append, length-drop}
use Rattle.std.proofs.lemmas.List.Elements.{Contains-push_cases, filter_map-append}
use Rattle.story_text.specs.declared.input.Input.{Input}
use Rattle.disk_model.specs.DiskState.{IsDiskImage}
use Rattle.gate_journal.specs.declared.command.Command.{Command}
use Rattle.story_run.specs.declared.story.Story.{Story}
use Rattle.story_run.specs.World.{WorldState}
use Rattle.story_run.specs.Solo.{is_wanted, world_after_input}
use Rattle.story_snap.specs.Bytes.{HasBytes}
use Rattle.session_core.specs.History.{input_of}
use Rattle.session_core.specs.Turns.{turns_by}
use Rattle.snap_store.specs.declared.slot.Slot.TheVariants.{Open}
use Rattle.snap_store.specs.File.{Stored, area_given, newest_area}
use Rattle.snap_store.proofs.StoreLemmas.{open_openable}
use Rattle.session_saves.specs.Agreement.{Agrees, IsAgreedFile, last_row}
use Rattle.session_saves.specs.Game.{inputs_of, turns_after, turns_of_inputs, world_at}
use Rattle.session_saves.specs.Saves.{IsKeptUp, due_in, none_missed}
use Rattle.session_saves.specs.Warming.{count_in}
use Rattle.session_saves.proofs.AgreementLemmas.{last-append, last_contained}
use Rattle.session_saves.proofs.AgreementLemmas.{more_commands, new_opens}
use Rattle.session_saves.proofs.KeptUpLemmas.{is_within_sixteen, stays_kept_up}
use Rattle.store_events.specs.declared.event.FileEvent.{FileEvent}
use Rattle.store_events.specs.declared.event.FileEvent.TheVariants.{Keep, Call, Stop, Recover}
use Rattle.store_events.specs.declared.state.StoreState.{StoreState}
use Rattle.store_events.specs.Areas.{Brings, EachArea, area_being_put}
use Rattle.store_events.specs.Events.{store_down_over, slots_in}
use Rattle.store_events.specs.Laws.{HasOpen, StaysInAgreement, StaysOpen, StaysSteady}
use Rattle.store_events.specs.Laws.{WarmsInSixteen}
use Rattle.store_events.specs.Session.{Begins, Does, EachMayCome, EachMissesNone}
use Rattle.store_events.specs.Session.{FileHappening, IsDue, IsInAgreement}
use Rattle.store_events.specs.Session.{IsSnapshotOfGame, IsUpToDate, MayCome, MissesNone}
use Rattle.store_events.specs.Session.{SessionState, Takes, inputs, lived, session_after}
use Rattle.store_events.proofs.AreaLemmas.{after_areas, in_image, shown_held, shown_side}
use Rattle.store_events.proofs.KnownLemmas.{after_has, has_open, shown, slot_shown}
use Rattle.store_events.proofs.NewestLemmas.{newest_since}
use Rattle.store_events.proofs.SteadyLemmas.{after_steady, down_steady}

-- ---- what each image shows

pub stays_steady : StaysSteady
stays_steady = record {
  begins = down_steady;
  goes_on = after_steady;
  shows = λ w image steady is. shown w steady image is;
}

-- ---- areas that are known to be open

pub stays_open : StaysOpen
stays_open = record {
  goes_on = λ w event place least steady rows has. after_has place least w steady rows event has;
  shows = λ w place least image steady has is. has_open place least w steady has image is;
}

-- ---- each area has less, or other

some_map : (P Q : Stored → Type 0) → ((area : Stored) → P area → Q area) → (o : Option Stored)
    → IfSome o P → IfSome o Q
some_map P Q each None has = tt
some_map P Q each (Some area) has = each area has

map_areas : (P Q : Stored → Type 0) (w : StoreState) → ((area : Stored) → P area → Q area)
    → EachArea P w → EachArea Q w
map_areas P Q w each all = record {
  held = λ side area is. each area (all.held side area is);
  put = some_map P Q each (area_being_put w.step) all.put;
}

-- ---- the session's own snapshot

own_agrees : (stories : List Story) (x : SessionState) (place count : ℕ) (bytes : List ℕ)
    → IsSnapshotOfGame stories x place count bytes
    → Agrees stories x.rows x.game (record { place = place; count = count; bytes = bytes })
own_agrees stories x place count bytes own = record {
  row = last_contained x.rows place own.row;
  fits = λ _. own.fits;
  holds = λ _ _ w at.
      subst (λ (v : WorldState). HasBytes v.image bytes v)
      (same_Some own.world w (sym own.comes ∙ at)) own.has;
}

-- ---- what happens to a session

module _ (stories : List Story) where
  brings : (x : SessionState) (event : FileEvent) → MayCome stories x (Does event)
      → Brings (Agrees stories x.rows x.game) event
  brings x (Keep place count bytes) may = own_agrees stories x place count bytes may
  brings x (Call good reads) may = tt
  brings x (Stop image) may = tt
  brings x Recover may = tt

  -- an OPEN row behind all others is the last one
  pub last_behind : (rows : List ℕ) (place : ℕ) → ((row : ℕ) → Contains rows row → row < place)
      → (last : ℕ) → last_row (rows ++ place ∷ []) ≡ Some last
      → (row : ℕ) → Contains (rows ++ place ∷ []) row → row ≤ last
  last_behind rows place above last is row there =
      let same : place ≡ last =
      same_Some place last (sym (last-append None rows place) ∙ is) in
      elim (Contains-push_cases rows place row there) [
        | inl before ↦ omega (arith, above row before, same)
        | inr here ↦ omega (arith, here, same)
      ]

  next_agrees : (x : SessionState) (one : FileHappening) → MayCome stories x one
      → IsInAgreement stories x → IsInAgreement stories (session_after x one)
  next_agrees x (Does event) may kept = record {
    steady = after_steady x.store event kept.steady;
    areas =
        after_areas (Agrees stories x.rows x.game) x.store event kept.steady (brings x event may)
        kept.areas;
    last = kept.last;
  }
  next_agrees x (Takes command) may kept = record {
    steady = kept.steady;
    areas =
        map_areas (Agrees stories x.rows x.game) (Agrees stories x.rows (x.game ++ command ∷ []))
        x.store (λ area agrees. more_commands stories x.rows x.game command area may agrees)
        kept.areas;
    last = kept.last;
  }
  next_agrees x (Begins place command) may kept = record {
    steady = kept.steady;
    areas =
        map_areas (Agrees stories x.rows x.game)
        (Agrees stories (x.rows ++ place ∷ []) (command ∷ [])) x.store
        (λ area agrees. new_opens stories x.rows x.game (command ∷ []) area place may agrees)
        kept.areas;
    last = last_behind x.rows place may;
  }

  lived_agrees : (x : SessionState) (past : List FileHappening) → IsInAgreement stories x
      → EachMayCome stories x past → IsInAgreement stories (lived x past)
  lived_agrees x [] kept may = kept
  lived_agrees x (one ∷ more) kept may =
      lived_agrees (session_after x one) more (next_agrees x one may.0 kept) may.1

  begins_agreed : (rows : List ℕ) (game : List Command) (bytes : List ℕ)
      → ((place : ℕ) → last_row rows ≡ Some place → (row : ℕ) → Contains rows row → row ≤ place)
      → IsAgreedFile stories rows game bytes
      → IsInAgreement stories (record { rows = rows; game = game; store = store_down_over bytes })
  begins_agreed rows game bytes last agreed = record {
    steady = down_steady bytes;
    areas = record {
      held = λ side area is. agreed side area (shown_held side bytes area is);
      put = tt;
    };
    last = last;
  }

  pub stays_in_agreement : StaysInAgreement stories
  stays_in_agreement = record {
    begins = begins_agreed;
    goes_on = lived_agrees;
    shows = λ x image kept is.
        in_image (Agrees stories x.rows x.game) x.store kept.steady kept.areas image is;
  }

  -- ---- snapshots that are kept up

  earlier_rows : (x : SessionState) → IsInAgreement stories x → (place : ℕ)
      → last_row x.rows ≡ Some place → EachArea (λ area. area.place ≤ place) x.store
  earlier_rows x kept place is =
      map_areas (Agrees stories x.rows x.game) (λ area. area.place ≤ place) x.store
      (λ area agrees. kept.last place is area.place agrees.row) kept.areas

  one_input : (o : Option Input) (game : List Command) (command : Command)
      → input_of command ≡ o
      → (length (inputs_of (game ++ command ∷ [])) ≡ length (inputs_of game))
      ⊎ ((input : Input) × (o ≡ Some input)
      × (length (inputs_of (game ++ command ∷ [])) ≡ length (inputs_of game) + 1))
  one_input None game command is =
      inl (rw (filter_map-append input_of game (command ∷ []), is)
      (omega (arith, length-append (inputs_of game) [])))
  one_input (Some input) game command is = inr (
    input,
    refl,
    rw (filter_map-append input_of game (command ∷ []), is)
        (omega (arith, length-append (inputs_of game) (input ∷ []))),
  )

  first_input : (o : Option Input) (command : Command) → input_of command ≡ o
      → length (inputs_of (command ∷ [])) ≤ 16
  first_input None command is = rw is (omega arith)
  first_input (Some input) command is = rw is (omega arith)

  not_due : (x : SessionState) (place : ℕ) → last_row x.rows ≡ Some place → (IsDue x → ⊥)
      → due_in x.store.slots None place (inputs x) ≡ false
  not_due x place is none = elim (cases_Bool (due_in x.store.slots None place (inputs x))) [
    | inl due ↦ absurd (none (place, is, due))
    | inr not ↦ not
  ]

  next_kept : (x : SessionState) (one : FileHappening) → IsInAgreement stories x
      → MissesNone x one → IsUpToDate x → IsUpToDate (session_after x one)
  next_kept x (Does event) kept misses date place is = λ clear due some before.
      after_has place (due * 16) x.store kept.steady (earlier_rows x kept place is) event
      (date place is clear due some before)
  next_kept x (Takes command) kept misses date place is =
      elim (one_input (input_of command) x.game command refl) [
        | inl none ↦
            subst (λ (n : ℕ). IsKeptUp place n x.store.slots none_missed) (sym none) (date place is)
        | inr one ↦
            subst (λ (n : ℕ). IsKeptUp place n x.store.slots none_missed) (sym one.2)
            (stays_kept_up.goes_on x.store.slots none_missed None place (inputs x) (λ _. refl)
            (not_due x place is (misses one.0 one.1)) (date place is))
      ]
  next_kept x (Begins place command) kept misses date last is =
      stays_kept_up.begins x.store.slots none_missed last (length (inputs_of (command ∷ [])))
      (first_input (input_of command) command refl)

  lived_kept : (x : SessionState) (past : List FileHappening) → IsInAgreement stories x
      → EachMayCome stories x past → IsUpToDate x → EachMissesNone x past
      → IsUpToDate (lived x past)
  lived_kept x [] kept may date misses = date
  lived_kept x (one ∷ more) kept may date misses =
      lived_kept (session_after x one) more (next_agrees x one may.0 kept) may.1
      (next_kept x one kept misses.0 date) misses.1

  begins_date : (rows : List ℕ) (game : List Command) (bytes : List ℕ)
      → (let x : SessionState =
      record { rows = rows; game = game; store = store_down_over bytes } in
      (inputs x ≤ 16) ⊎ HasOpen x bytes → IsUpToDate x)
  begins_date rows game bytes (inl few) place is =
      stays_kept_up.begins (slots_in bytes) none_missed place (length (inputs_of game)) few
  begins_date rows game bytes (inr (side, area, due, there, row, since, few)) place is =
      stays_kept_up.resumes (slots_in bytes) none_missed place due (length (inputs_of game))
      (record {
        side = side;
        count = area.count;
        open_there = shown_side side bytes ∙ slot_shown side bytes area there
            ∙ ap (λ (p : ℕ). Open p area.count) (same_Some area.place place (sym row ∙ is));
        since = since;
      }) few

  -- ---- the turns of a warming

  wanted_turns : (b : Bool) → (if b then 1 else 0) ≤ 1
  wanted_turns true = omega arith
  wanted_turns false = omega arith

  turns_most : (world : WorldState) (xs : List Input) → turns_by world xs ≤ length xs
  turns_most world [] = omega arith
  turns_most world (x ∷ xs) =
      omega (arith, turns_most (world_after_input world x) xs, wanted_turns (is_wanted world x))

  turns_few : (world : Option WorldState) (xs : List Input) → turns_of_inputs world xs ≤ length xs
  turns_few None xs = omega arith
  turns_few (Some world) xs = turns_most world xs

  behind : (game : List Command) (n : ℕ)
      → turns_after stories game n ≤ length (inputs_of game) - n
  behind game n =
      omega (
        arith,
        turns_few (world_at stories game n) (drop n (inputs_of game)),
        length-drop n (inputs_of game),
      )

  found_count : (newest : Option Stored) (x : Stored) → newest ≡ Some x
      → count_in (area_given newest) ≡ x.count
  found_count newest x is = ap (λ (o : Option Stored). count_in (area_given o)) is

  warms_at : (x : SessionState) (place : ℕ) (image : List ℕ) → IsInAgreement stories x
      → IsUpToDate x → last_row x.rows ≡ Some place → IsDiskImage x.store.disk image
      → turns_after stories x.game (count_in (area_given (newest_area place (inputs x) image))) ≤ 16
  warms_at x place image kept date is at = elim (cases_lt 16 (inputs x)) [
    | inr few ↦ omega (
      arith,
      few,
      behind x.game (count_in (area_given (newest_area place (inputs x) image))),
    )
    | inl many ↦
        let least = inputs x - 16 in
        let up : IsKeptUp place (least + 16) x.store.slots none_missed =
        subst (λ (n : ℕ). IsKeptUp place n x.store.slots none_missed) (omega (arith, many))
        (date place is) in
        let has = is_within_sixteen x.store.slots place least up (omega (arith, many)) in
        let there = has_open place least x.store kept.steady has image at in
        let agrees = in_image (Agrees stories x.rows x.game) x.store kept.steady kept.areas image at
        there.0 there.1 (open_openable there.0 image there.1 there.2) in
        let fits = agrees.fits (is ∙ ap (λ (p : ℕ). Some p) (sym there.3)) in
        let newest = newest_since place (inputs x) image there.0 there.1 there.2 there.3 fits in
        let count = found_count (newest_area place (inputs x) image) newest.0 newest.1 in
        omega (
          arith,
          many,
          count,
          newest.2,
          there.4,
          behind x.game (count_in (area_given (newest_area place (inputs x) image))),
        )
  ]

  pub warms_in_sixteen : WarmsInSixteen stories
  warms_in_sixteen = record { begins = begins_date; goes_on = lived_kept; warms = warms_at }

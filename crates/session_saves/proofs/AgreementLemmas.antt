-- Areas stay in agreement with a session's commands.
use Rattle.std.proofs.Common.{◌≡◌, ◌⊎◌, ◌∙◌, ℕ, List, [], ◌∷◌, ◌++◌, length, Option, Some, None}
use Rattle.std.proofs.Common.{inl, inr, refl, sym, subst, arith}
use Rattle.std.proofs.lemmas.List.Elements.{Contains-append_left, Contains-append_right}
use Rattle.std.specs.List.{Contains, last_or}
use Rattle.gate_journal.specs.declared.command.Command.{Command}
use Rattle.story_run.specs.declared.story.Story.{Story}
use Rattle.story_run.specs.World.{WorldState}
use Rattle.story_snap.specs.Bytes.{HasBytes}
use Rattle.session_core.specs.History.{world_of}
use Rattle.snap_store.specs.File.{Stored, openable_area}
use Rattle.snap_store.specs.Slots.{opposite_side, taken_side}
use Rattle.snap_store.specs.Store.{Snapshots, store_area}
use Rattle.snap_store.specs.declared.side.Side.{Side}
use Rattle.snap_store.specs.declared.side.Side.TheVariants.{A, B}
use Rattle.session_saves.specs.Agreement.{Agrees, IsAgreed, last_row}
use Rattle.session_saves.specs.Game.{inputs_of}
use Rattle.session_saves.specs.Keeping.{AddsOnly, IsOldOrNew, MayStandMeanwhile}
use Rattle.snap_store.specs.File.{area_with}
use Rattle.session_saves.specs.Laws.{ImagesStayAgreed, MoreCommandsStayAgreed, NewOpensStayAgreed}
use Rattle.session_saves.proofs.GameLemmas.{inputs_of-more, is_other_story-more, world_at-all}
use Rattle.session_saves.proofs.GameLemmas.{world_at-more}

-- ---- the last row

pub last-append : (o : Option ℕ) (rows : List ℕ) (place : ℕ)
    → last_or o (rows ++ place ∷ []) ≡ Some place
last-append o [] place = refl
last-append o (row ∷ rows) place = last-append (Some row) rows place

some_same : (x y : ℕ) → Some x ≡ Some y → x ≡ y
some_same x y e = cc

first_there : (x : ℕ) (xs : List ℕ) (place : ℕ) → Some x ≡ Some place → Contains (x ∷ xs) place
first_there x xs place e = (0, omega arith, some_same x place e)

last_there : (o : Option ℕ) (rows : List ℕ) (place : ℕ) → last_or o rows ≡ Some place
    → (o ≡ Some place) ⊎ Contains rows place
last_there o [] place e = inl e
last_there o (row ∷ rows) place e =
    elim (last_there (Some row) rows place e) [
      | inl first ↦ inr (first_there row rows place first)
      | inr later ↦ inr (Contains-append_right (row ∷ []) rows place later)
    ]

not_some : (place : ℕ) → None ≡ Some place → ⊥
not_some place e = cc

pub last_contained : (rows : List ℕ) (place : ℕ) → last_row rows ≡ Some place → Contains rows place
last_contained rows place e =
    elim (last_there None rows place e) [
      | inl none ↦ absurd (not_some place none)
      | inr there ↦ there
    ]

-- ---- a new OPEN, and a command more

pub new_opens : NewOpensStayAgreed
new_opens stories rows game new_game area place above agrees =
    let lower = above area.place agrees.row in
    let passed : (last_row (rows ++ place ∷ []) ≡ Some area.place) → ⊥ =
    λ e. let same = some_same place area.place (sym (last-append None rows place) ∙ e) in
    omega (arith, lower, same) in
    record {
      row = Contains-append_left rows (place ∷ []) area.place agrees.row;
      fits = λ e. absurd (passed e);
      holds = λ e same world at. absurd (passed e);
    }

pub more_commands : MoreCommandsStayAgreed
more_commands stories rows game c area shut agrees =
    record {
      row = agrees.row;
      fits = λ e. omega (arith, agrees.fits e, inputs_of-more game c);
      holds = λ e same world at.
          agrees.holds e (sym (is_other_story-more stories game c shut) ∙ same) world
          (sym (world_at-more stories game c area.count shut (agrees.fits e)) ∙ at);
    }

-- ---- the snapshot of the game's own world

one_world : (v w : WorldState) → Some v ≡ Some w → v ≡ w
one_world v w e = cc

own_agrees : (stories : List Story) (rows : List ℕ) (game : List Command) (world : WorldState)
    (place : ℕ) (bytes : List ℕ)
    → last_row rows ≡ Some place → world_of stories game ≡ Some world
    → HasBytes world.image bytes world
    → Agrees stories rows game (area_with place (length (inputs_of game)) bytes)
own_agrees stories rows game world place bytes last is has =
    record {
      row = last_contained rows place last;
      fits = λ _. omega arith;
      holds = λ _ _ w at.
          subst (λ (v : WorldState). HasBytes v.image bytes v)
          (one_world world w (sym is ∙ sym (world_at-all stories game) ∙ at)) has;
    }

old_or_new : (stories : List Story) (rows : List ℕ) (game : List Command) (world : WorldState)
    (place : ℕ) (old : Option Stored) (area : Stored)
    → last_row rows ≡ Some place → world_of stories game ≡ Some world
    → ((area : Stored) → old ≡ Some area → Agrees stories rows game area)
    → IsOldOrNew world place (length (inputs_of game)) old area → Agrees stories rows game area
old_or_new stories rows game world place old area last is agreed (inl kept) = agreed area kept
old_or_new stories rows game world place old area last is agreed (inr (bytes, has, same)) =
    subst (λ (a : Stored). Agrees stories rows game a) (sym same)
    (own_agrees stories rows game world place bytes last is has)

pub after_keep : {D : Type 0} (seen : D
    → List ℕ) (stories : List Story) (rows : List ℕ) (game : List Command) (world : WorldState)
    (place : ℕ)
    (old new : Snapshots D) → last_row rows ≡ Some place → world_of stories game ≡ Some world
    → AddsOnly seen world place (length (inputs_of game)) old new
    → IsAgreed seen stories rows game old → IsAgreed seen stories rows game new
after_keep seen stories rows game world place old new last is adds agreed side area e =
    old_or_new stories rows game world place (store_area seen old side) area last is (agreed side)
    (adds side area e)

-- ---- what a stop may leave

pub side_cases : (taken side : Side) → (side ≡ taken) ⊎ (side ≡ opposite_side taken)
side_cases A A = inl refl
side_cases A B = inr refl
side_cases B A = inr refl
side_cases B B = inl refl

put_or_kept : (world : WorldState) (place count : ℕ) (bytes : List ℕ) (old : Option Stored)
    (area : Stored) → HasBytes world.image bytes world
    → (old ≡ Some area) ⊎ (area ≡ area_with place count bytes)
    → IsOldOrNew world place count old area
put_or_kept world place count bytes old area has (inl kept) = inl kept
put_or_kept world place count bytes old area has (inr put) = inr (bytes, has, put)

pub in_image : {D : Type 0} (seen : D
    → List ℕ) (world : WorldState) (place count : ℕ) (store : Snapshots D) (image : List ℕ)
    → MayStandMeanwhile seen world place count store image → (side : Side) (area : Stored)
    → openable_area side image ≡ Some area
    → IsOldOrNew world place count (store_area seen store side) area
in_image seen world place count store image (inl is) side area e = inl (is.openable side area e)
in_image seen world place count store image (inr (bytes, has, put)) side area e =
    elim (side_cases (taken_side store.slots) side) [
      | inl taken ↦
          subst (λ (s : Side). IsOldOrNew world place count (store_area seen store s) area)
          (sym taken)
          (put_or_kept world place count bytes (store_area seen store (taken_side store.slots)) area
          has
          (put.taken area (subst (λ (s : Side). openable_area s image ≡ Some area) taken e)))
      | inr beside ↦
          subst (λ (s : Side). IsOldOrNew world place count (store_area seen store s) area)
          (sym beside)
          (inl (put.beside area (subst (λ (s : Side). openable_area s image ≡ Some area) beside e)))
    ]

pub images : {D : Type 0} (seen : D → List ℕ) → ImagesStayAgreed seen
images seen stories rows game world place store image last is agreed stands side area e =
    old_or_new stories rows game world place (store_area seen store side) area last is (agreed side)
    (in_image seen world place (length (inputs_of game)) store image stands side area e)

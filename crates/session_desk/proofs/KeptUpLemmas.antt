-- A desk's snapshots, behind a command more.
use Rattle.std.proofs.Common.{◌≡◌, ◌⊎◌, inl, inr, ⊎_elim, ℕ, ◌+◌, ◌<◌, ◌≤◌, Bool, true, false, cond}
use Rattle.std.proofs.Common.{List, [], ◌∷◌, ◌++◌, length, Option, Some, None, is_none, refl, sym}
use Rattle.std.proofs.Common.{ap, subst, ◌∙◌, arith}
use Rattle.std.specs.List.{Contains}
use Rattle.std.proofs.lemmas.List.{length-append}
use Rattle.std.proofs.lemmas.List.Elements.{filter_map-append}
use Rattle.story_text.specs.declared.input.Input.{Input}
use Rattle.gate_journal.specs.Rows.{is_open}
use Rattle.gate_journal.specs.declared.command.Command.{Command}
use Rattle.gate_journal.specs.declared.command.Command.TheVariants as commands
use Rattle.story_run.specs.declared.story.Story.{Story}
use Rattle.story_run.specs.World.{WorldState}
use Rattle.session_core.specs.History.{game_of, input_of}
use Rattle.session_core.proofs.RepeatLemmas.{joined, game_of-append, game_of-append-open}
use Rattle.snap_store.specs.File.{Stored}
use Rattle.snap_store.specs.Store.{Snapshots}
use Rattle.session_saves.specs.Agreement.{Agrees, IsAgreed, last_row}
use Rattle.session_saves.specs.Game.{inputs_of}
use Rattle.session_saves.specs.Saves.{IsMissCounted, IsKeptUp, SavesState, is_due}
use Rattle.session_saves.proofs.AgreementLemmas.{more_commands, new_opens}
use Rattle.session_saves.proofs.KeptUpLemmas.{stays_kept_up}
use Rattle.session_desk.specs.Desk.{DeskState, game, world_now}
use Rattle.session_desk.specs.Keeping as keeping
use Rattle.session_desk.proofs.AlikeLemmas.{IsReadyFor}

-- ---- the areas behind a command

agrees-joined : (stories : List Story) (places : List ℕ) (g : List Command) (c : Command)
    (area : Stored)
    → is_open c ≡ false
    → Agrees stories places g area
    → Agrees stories places (joined g c) area
agrees-joined stories places [] c area shut agrees = agrees
agrees-joined stories places (d ∷ ds) c area shut agrees =
    more_commands stories places (d ∷ ds) c area shut agrees

pub agrees-behind : (stories : List Story) (places : List ℕ) (history : List Command)
    (c : Command) (row : ℕ) (opens : Bool) (area : Stored)
    → is_open c ≡ opens
    → ((p : ℕ) → Contains places p → p < row)
    → Agrees stories places (game_of history) area
    → Agrees stories (cond opens (places ++ row ∷ []) places) (game_of (history ++ c ∷ [])) area
agrees-behind stories places history c row true area opens before agrees =
    new_opens stories places (game_of history) (game_of (history ++ c ∷ [])) area row before agrees
agrees-behind stories places history c row false area shut before agrees =
    rw (game_of-append history c shut)
    (agrees-joined stories places (game_of history) c area shut agrees)

pub agreed-behind : {D : Type 0} (seen_of : D → List ℕ) (stories : List Story) (places : List ℕ)
    (history : List Command) (c : Command) (row : ℕ) (opens : Bool) (store : Snapshots D)
    → is_open c ≡ opens
    → ((p : ℕ) → Contains places p → p < row)
    → IsAgreed seen_of stories places (game_of history) store
    → IsAgreed seen_of stories (cond opens (places ++ row ∷ []) places)
    (game_of (history ++ c ∷ [])) store
agreed-behind seen_of stories places history c row opens store is before agreed side area e =
    agrees-behind stories places history c row opens area is before (agreed side area e)

-- ---- what is kept up behind a command

-- the snapshots of a game whose last OPEN row is there are kept up
abbrev IsKeptAt : {D : Type 0} → SavesState D → List ℕ → List Command → Type 0
IsKeptAt saves places g =
    (place : ℕ) → last_row places ≡ Some place
    → IsKeptUp place (length (inputs_of g)) saves.store.slots saves.missed

-- a command that gives the story something comes where no snapshot is due
abbrev IsDone : {D : Type 0} → SavesState D → List ℕ → List Command → Command → Type 0
IsDone saves places g c =
    (input_of c ≡ None)
    ⊎ ((place : ℕ) → last_row places ≡ Some place
    → is_due saves place (length (inputs_of g)) ≡ false)

kept-more : {D : Type 0} (saves : SavesState D) (places : List ℕ) (g : List Command)
    (c : Command) (given : Option Input)
    → IsMissCounted saves.missed saves.last
    → input_of c ≡ given → IsDone saves places g c
    → IsKeptAt saves places g
    → IsKeptAt saves places (g ++ c ∷ [])
kept-more saves places g c None counted e done kept place last =
    let same : length (inputs_of (g ++ c ∷ [])) ≡ length (inputs_of g) + 0 =
    ap (λ (l : List Input). length l) (filter_map-append input_of g (c ∷ []))
    ∙ length-append (inputs_of g) (inputs_of (c ∷ [])) ∙ rw e refl in
    let count : length (inputs_of g) ≡ length (inputs_of (g ++ c ∷ [])) = omega (arith, same) in
    subst (λ (n : ℕ). IsKeptUp place n saves.store.slots saves.missed) count (kept place last)
kept-more saves places g c (Some x) counted e done kept place last =
    let more : length (inputs_of (g ++ c ∷ [])) ≡ length (inputs_of g) + 1 =
    ap (λ (l : List Input). length l) (filter_map-append input_of g (c ∷ []))
    ∙ length-append (inputs_of g) (inputs_of (c ∷ [])) ∙ rw e refl in
    let due =
    ⊎_elim (λ none. absurd (let both = sym none ∙ e in cc)) (λ idle. idle place last) done in
    subst (λ (n : ℕ). IsKeptUp place n saves.store.slots saves.missed) (sym more)
    (stays_kept_up.goes_on saves.store.slots saves.missed saves.last place
    (length (inputs_of g)) counted due (kept place last))

kept-joined : {D : Type 0} (saves : SavesState D) (places : List ℕ) (g : List Command) (c : Command)
    → IsMissCounted saves.missed saves.last
    → IsDone saves places g c → IsKeptAt saves places g → IsKeptAt saves places (joined g c)
kept-joined saves places [] c counted done kept = kept
kept-joined saves places (d ∷ ds) c counted done kept =
    kept-more saves places (d ∷ ds) c (input_of c) counted refl done kept

none_since : (c : Command) → is_open c ≡ true → length (inputs_of (c ∷ [])) ≤ 16
none_since (commands.Open key story digest seed cols rows budget) opens = omega arith
none_since (commands.Line win term text) opens = absurd cc
none_since (commands.Char win code) opens = absurd cc
none_since (commands.File name) opens = absurd cc
none_since (commands.Size cols rows) opens = absurd cc
none_since commands.Close opens = absurd cc

pub kept-behind : {D : Type 0} (saves : SavesState D) (places : List ℕ) (history : List Command)
    (c : Command) (row : ℕ) (opens : Bool)
    → IsMissCounted saves.missed saves.last
    → is_open c ≡ opens
    → IsDone saves places (game_of history) c
    → IsKeptAt saves places (game_of history)
    → IsKeptAt saves (cond opens (places ++ row ∷ []) places) (game_of (history ++ c ∷ []))
kept-behind saves places history c row true counted e done before = λ place last.
    rw (game_of-append-open history c e)
    (stays_kept_up.begins saves.store.slots saves.missed place (length (inputs_of (c ∷ [])))
    (none_since c e))
kept-behind saves places history c row false counted e done before =
    rw (game_of-append history c e)
    (kept-joined saves places (game_of history) c counted done before)

-- ---- a command that gives the story something finds the world held

input_held : (desk : DeskState) (c : Command) → IsReadyFor desk c
    → (input_of c ≡ None) ⊎ (is_none (world_now desk.held) ≡ false)
input_held desk (commands.Open key story digest seed cols rows budget) ready = inl refl
input_held desk commands.Close ready = inl refl
input_held desk (commands.Line win term text) ready = inr ready.1
input_held desk (commands.Char win code) ready = inr ready.1
input_held desk (commands.File name) ready = inr ready.1
input_held desk (commands.Size cols rows) ready = inr ready.1

not_due : {D : Type 0} (saves : SavesState D) (now : Option WorldState) (row : Option ℕ) (count : ℕ)
    → keeping.due_with saves now row count ≡ false
    → is_none now ≡ false
    → (place : ℕ) → row ≡ Some place → is_due saves place count ≡ false
not_due saves None row count due held place e = absurd cc
not_due saves (Some w) row count due held place e = rw e at due

pub is_done : {D : Type 0} (saves : SavesState D) (places : List ℕ) (desk : DeskState) (c : Command)
    → IsReadyFor desk c
    → keeping.due_with saves (world_now desk.held) (last_row places)
    (length (inputs_of (game desk)))
    ≡ false
    → IsDone saves places (game desk) c
is_done saves places desk c ready due =
    ⊎_elim (λ none. inl none)
    (λ held. inr (not_due saves (world_now desk.held) (last_row places)
    (length (inputs_of (game desk))) due held))
    (input_held desk c ready)

-- The snapshot of a session that is due is its own.
use Rattle.std.proofs.Common.{◌≡◌, ◌∙◌, ℕ, Bool, true, false, List, [], ◌∷◌, ◌++◌, length, Option}
use Rattle.std.proofs.Common.{Some, None, Result, Ok, Err, refl, sym, ap, subst, arith, drop, ◌≤◌}
use Rattle.std.proofs.lemmas.List.{append-nil, drop_all}
use Rattle.std.specs.Prelude.{◌&&◌, ◌==◌, IfOk, IfSome, if◌then◌else◌, option_map}
use Rattle.std.specs.List.{last_or}
use Rattle.gate_journal.specs.Rows.{is_open, commands_of}
use Rattle.gate_journal.specs.declared.command.Command.{Command}
use Rattle.gate_journal.specs.declared.row.Row.{Row}
use Rattle.story_run.specs.declared.story.Story.{Story}
use Rattle.story_run.specs.World.{WorldState}
use Rattle.story_snap.specs.Fields.{fields_of}
use Rattle.snap_fields.specs.Printing.{print_fields}
use Rattle.session_core.specs.History.{game_of, world_of}
use Rattle.session_saves.specs.Agreement.{last_row, opens_of}
use Rattle.session_saves.specs.Game.{inputs_of, world_at}
use Rattle.session_saves.proofs.GameLemmas.{world_at-all}
use Rattle.store_events.specs.declared.state.StoreState.{StoreState}
use Rattle.host_world.specs.Keeping.{HasWorldOf, IsOwnSnapshot, snapshot_of}
use Rattle.host_world.specs.declared.keeping.Snapshot.{Snapshot}
use Rattle.host_world.proofs.Lists.{some_none, some_same}

-- ---- rows behind others

if_append : {A : Type 0} (b : Bool) (x : A) (xs ys : List A)
    → (if b then x ∷ (xs ++ ys) else (xs ++ ys)) ≡ (if b then x ∷ xs else xs) ++ ys
if_append true x xs ys = refl
if_append false x xs ys = refl

pub commands_behind : (xs ys : List Row) (s : ℕ)
    → commands_of (xs ++ ys) s ≡ commands_of xs s ++ commands_of ys s
commands_behind [] ys s = refl
commands_behind (r ∷ xs) ys s =
    ap (λ (l : List Command). if r.session == s then r.command ∷ l else l)
    (commands_behind xs ys s)
    ∙ if_append (r.session == s) r.command (commands_of xs s) (commands_of ys s)

opens_behind : (xs ys : List Row) (s : ℕ) → opens_of (xs ++ ys) s ≡ opens_of xs s ++ opens_of ys s
opens_behind [] ys s = refl
opens_behind (r ∷ xs) ys s =
    ap (λ (l : List ℕ). if r.session == s && is_open r.command then r.place ∷ l else l)
    (opens_behind xs ys s)
    ∙ if_append (r.session == s && is_open r.command) r.place (opens_of xs s) (opens_of ys s)

last_behind : (o : Option ℕ) (xs ys : List ℕ) → last_or o (xs ++ ys) ≡ last_or (last_or o xs) ys
last_behind o [] ys = refl
last_behind o (x ∷ xs) ys = last_behind (Some x) xs ys

pub open_behind : (xs ys : List Row) (s : ℕ)
    → last_or (last_row (opens_of xs s)) (opens_of ys s) ≡ last_row (opens_of (xs ++ ys) s)
open_behind xs ys s =
    sym (ap (λ (l : List ℕ). last_row l) (opens_behind xs ys s)
    ∙ last_behind None (opens_of xs s) (opens_of ys s))

-- the rows found are walked through, and no row added is
pub commands_joined : (found added rows : List Row) (s i : ℕ) (cs : List Command)
    → length found ≤ i → cs ++ commands_of (drop i found) s ≡ commands_of found s
    → rows ≡ found ++ added → cs ++ commands_of added s ≡ commands_of rows s
commands_joined found added rows s i cs end walked is =
    ap (λ (l : List Command). l ++ commands_of added s)
    (sym (append-nil cs)
    ∙ ap (λ (l : List Row). cs ++ commands_of l s) (sym (drop_all i found end)) ∙ walked)
    ∙ sym (commands_behind found added s)
    ∙ ap (λ (l : List Row). commands_of l s) (sym is)

pub open_joined : (found added rows : List Row) (s i : ℕ) (place : Option ℕ)
    → length found ≤ i
    → last_or place (opens_of (drop i found) s) ≡ last_row (opens_of found s)
    → rows ≡ found ++ added → last_or place (opens_of added s) ≡ last_row (opens_of rows s)
open_joined found added rows s i place end walked is =
    ap (λ (o : Option ℕ). last_or o (opens_of added s))
    (ap (λ (l : List Row). last_or place (opens_of l s)) (sym (drop_all i found end)) ∙ walked)
    ∙ open_behind found added s
    ∙ ap (λ (l : List Row). last_row (opens_of l s)) (sym is)

-- ---- its own

pub if_both : {T E : Type 0} {P Q R : T → Type 0} (r : Result T E)
    → ((x : T) → P x → Q x → R x) → IfOk r P → IfOk r Q → IfOk r R
if_both (Ok x) f p q = f x p q
if_both (Err e) f p q = tt

module _ (stories : List Story) where
  numbers_of : (game : List Command) (place : ℕ) (snapshot : Snapshot)
      → Some snapshot ≡ snapshot_of stories game place
      → (snapshot.place ≡ place) × (snapshot.count ≡ length (inputs_of game))
  numbers_of game place snapshot is = of (world_of stories game) is
    where
      of : (o : Option WorldState)
          → Some snapshot ≡ option_map (λ (world : WorldState). record {
            place = place;
            count = length (inputs_of game);
            bytes = print_fields (fields_of world);
          }) o
          → (snapshot.place ≡ place) × (snapshot.count ≡ length (inputs_of game))
      of None is = absurd (some_none snapshot is)
      of (Some world) is =
          let same = some_same snapshot (record {
            place = place;
            count = length (inputs_of game);
            bytes = print_fields (fields_of world);
          }) is in
          (ap (λ (x : Snapshot). x.place) same, ap (λ (x : Snapshot). x.count) same)

  own_game : (rows : List Row) (s : ℕ) (x : StoreState) (place : ℕ) (made : Option Snapshot)
      → last_row (opens_of rows s) ≡ Some place
      → made ≡ snapshot_of stories (game_of (commands_of rows s)) place
      → IfSome made (HasWorldOf stories (game_of (commands_of rows s)))
      → IfSome made (IsOwnSnapshot stories rows s x)
  own_game rows s x place None last is has = tt
  own_game rows s x place (Some snapshot) last is has =
      let game = game_of (commands_of rows s) in
      let numbers = numbers_of game place snapshot is in
      record {
        row = last ∙ ap (λ (n : ℕ). Some n) (sym numbers.0);
        fits = omega (arith, numbers.1);
        world = has.world;
        comes =
            ap (λ (n : ℕ). world_at stories game n) numbers.1
            ∙ world_at-all stories game ∙ has.comes;
        has = has.has;
      }

  pub is_own : (rows : List Row) (s : ℕ) (x : StoreState) (place : ℕ) (game : List Command)
      (made : Option Snapshot) → last_row (opens_of rows s) ≡ Some place
      → game ≡ game_of (commands_of rows s) → made ≡ snapshot_of stories game place
      → IfSome made (HasWorldOf stories game) → IfSome made (IsOwnSnapshot stories rows s x)
  is_own rows s x place game made last game_is is has =
      own_game rows s x place made last
      (is ∙ ap (λ (g : List Command). snapshot_of stories g place) game_is)
      (subst (λ (g : List Command). IfSome made (HasWorldOf stories g)) game_is has)

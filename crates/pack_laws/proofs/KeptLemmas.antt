-- Of a session in use the live commands are its game.
use Rattle.std.proofs.Common.{◌≡◌, Bool, true, false, List, [], ◌∷◌, refl, sym, ◌∙◌, ap, arith}
use Rattle.std.specs.Prelude.{if◌then◌else◌, ◌&&◌, ◌||◌, not}
use Rattle.std.proofs.lemmas.Bool.{or_parts}
use Rattle.gate_journal.specs.declared.command.Command.{Command}
use Rattle.gate_journal.specs.Rows.{commands_of, is_open, is_free}
use Rattle.journal_pack.specs.Live.{has_open, live_rows}
use Rattle.journal_pack.proofs.CommandLemmas.{IsLegal, kept, kept_free}
use Rattle.journal_pack.proofs.LiveLemmas.{good, live_commands, placed_commands}
use Rattle.session_core.specs.History.{game_of, later}
use Rattle.pack_laws.specs.Laws.{KeepsGames}

game_step : (o h : Bool) (x g : List Command)
    → (o || h) ≡ false → g ≡ [] → later (if o then x else []) g ≡ []
game_step false h x g isnt none = ap (λ (l : List Command). later [] l) none
game_step true h x g isnt none = cc

-- where none opens the session, there is no game
game_none : (cs : List Command) → has_open cs ≡ false → game_of cs ≡ []
game_none [] isnt = refl
game_none (c ∷ cs) isnt =
    game_step (is_open c) (has_open cs) (c ∷ cs) (game_of cs) isnt
    (game_none cs (or_parts (is_open c) (has_open cs) isnt).1)

-- where one does, there is a game
abbrev IsSome : List Command → Type 0
IsSome [] = ⊥
IsSome (c ∷ cs) = Unit {0}

some_step : (o : Bool) (c : Command) (cs g : List Command)
    → (o ≡ false → IsSome g) → IsSome (later (if o then c ∷ cs else []) g)
some_step true c cs [] some = tt
some_step true c cs (d ∷ g) some = tt
some_step false c cs [] some = some refl
some_step false c cs (d ∷ g) some = tt

or_true : (o h : Bool) → (o || h) ≡ true → o ≡ false → h ≡ true
or_true true h is isnt = cc
or_true false h is isnt = is

game_some : (cs : List Command) → has_open cs ≡ true → IsSome (game_of cs)
game_some [] is = cc
game_some (c ∷ cs) is =
    some_step (is_open c) c cs (game_of cs)
    (λ isnt. game_some cs (or_true (is_open c) (has_open cs) is isnt))

later_some : (x g : List Command) → IsSome g → later x g ≡ g
later_some x [] some = absurd some
later_some x (c ∷ g) some = refl

-- what a session in use keeps: its game, or all where nothing opens it
abbrev pub since_open : List Command → List Command
since_open cs = if has_open cs then game_of cs else cs

kept_step :
    (c : Command) (cs : List Command) (o h f : Bool)
    → is_open c ≡ o → has_open cs ≡ h → is_free (c ∷ cs) ≡ f → f ≡ false
    → kept cs ≡ (if h then game_of cs else cs)
    → (if not h && not f then c ∷ kept cs else kept cs)
    ≡ (if o || h then later (if o then c ∷ cs else []) (game_of cs) else c ∷ cs)
kept_step c cs true true false op ho fr isnt is =
    is ∙ sym (later_some (c ∷ cs) (game_of cs) (game_some cs ho))
kept_step c cs false true false op ho fr isnt is =
    is ∙ sym (later_some [] (game_of cs) (game_some cs ho))
kept_step c cs true false false op ho fr isnt is =
    ap (λ (l : List Command). c ∷ l) is
    ∙ ap (λ (g : List Command). later (c ∷ cs) g) (sym (game_none cs ho))
kept_step c cs false false false op ho fr isnt is = ap (λ (l : List Command). c ∷ l) is
kept_step c cs o h true op ho fr isnt is = cc

last_or_more :
    (c : Command) (cs : List Command) → is_free (c ∷ cs) ≡ false
    → (is_free cs ≡ false → kept cs ≡ since_open cs) → kept cs ≡ since_open cs
last_or_more c [] isnt more = refl
last_or_more c (d ∷ cs) isnt more = more isnt

-- of a session in use
pub kept_game : (cs : List Command) → is_free cs ≡ false → kept cs ≡ since_open cs
kept_game [] isnt = cc
kept_game (c ∷ cs) isnt =
    kept_step c cs (is_open c) (has_open cs) (is_free (c ∷ cs)) refl refl refl isnt
    (last_or_more c cs isnt (kept_game cs))

opened : (o h : Bool) → o ≡ true → (o || h) ≡ true
opened true h is = refl
opened false h is = cc

-- the first of them opens the session
pub has_first : (cs : List Command) → IsLegal true cs → is_free cs ≡ false → has_open cs ≡ true
has_first [] is isnt = cc
has_first (c ∷ cs) is isnt = opened (is_open c) (has_open cs) is.0

chosen : (f h : Bool) (k g cs : List Command)
    → (f ≡ true → k ≡ []) → (f ≡ false → k ≡ (if h then g else cs)) → (f ≡ false → h ≡ true)
    → k ≡ (if f then [] else g)
chosen true h k g cs free game first = free refl
chosen false true k g cs free game first = game refl
chosen false false k g cs free game first = absurd (isnt (first refl))
  where
    isnt : false ≡ true → ⊥
    isnt is = cc

-- a session in use keeps its game, a free one nothing
pub kept_is : (cs : List Command) → IsLegal true cs
    → kept cs ≡ (if is_free cs then [] else game_of cs)
kept_is cs is =
    chosen (is_free cs) (has_open cs) (kept cs) (game_of cs) cs (kept_free cs) (kept_game cs)
    (has_first cs is)

pub live_games : KeepsGames
live_games rows s all =
    placed_commands [] (live_rows rows) s ∙ live_commands rows s
    ∙ kept_is (commands_of rows s) (good rows [] s all (omega arith)).0

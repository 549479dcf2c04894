-- The game of a session at some row is how a game of the whole journal begins.
use Rattle.std.proofs.Common.{◌≡◌, ℕ, suc, ◌+◌, ◌<◌, ◌==◌, Bool, true, false, List, [], ◌∷◌, ◌++◌}
use Rattle.std.proofs.Common.{length, take, slice_get, Some, refl, sym, ap, ◌∙◌, arith}
use Rattle.std.proofs.lemmas.Bool.Decides.{nat_tests}
use Rattle.gate_journal.specs.Rows.{commands_of, is_open}
use Rattle.gate_journal.specs.declared.command.Command.{Command}
use Rattle.gate_journal.specs.declared.row.Row.{Row}
use Rattle.line_words.specs.declared.reply.Reply.TheVariants.{Show}
use Rattle.session_core.specs.Answer.{game_show}
use Rattle.session_core.specs.History.{command_count, game_of, later}
use Rattle.story_replay.proofs.ShownLemmas.{answered}
use Rattle.story_replay.specs.Games.{commands_from, game_from, games_in}
use Rattle.story_replay.specs.Laws.{HoldsEachShow}
use Rattle.story_replay.specs.declared.game.Game.{Game}

-- the session's commands up to a row
abbrev up_to : ℕ → List Row → Row → List Command
up_to s before r = commands_of before s ++ r.command ∷ []

later_none : (g : List Command) → later [] g ≡ g
later_none [] = refl
later_none (c ∷ cs) = refl

later_some : {A : Type 0} (c : Command) (cs g : List Command) → later (c ∷ cs) g ≡ [] → A
later_some c cs [] e = absurd cc
later_some c cs (d ∷ ds) e = absurd cc

-- where no command up to the row opens the session, its commands go on to the row and past it
module _ (s : ℕ) (r : Row) (after : List Row) (own : (r.session == s) ≡ true) where
  last_runs_on : (opens : Bool) → is_open r.command ≡ opens → game_of (r.command ∷ []) ≡ []
      → take 1 (commands_from s (r ∷ after)) ≡ r.command ∷ []
  last_runs_on true opens none = absurd (later_some r.command [] [] (rw opens at none))
  last_runs_on false shut none = rw (own, shut) refl

  runs_by : (b : Row) (before : List Row) (mine opens : Bool) → (b.session == s) ≡ mine
      → is_open b.command ≡ opens
      → (game_of (up_to s before r) ≡ [] → take (length (up_to s before r))
      (commands_from s (before ++ r ∷ after)) ≡ up_to s before r)
      → game_of (up_to s (b ∷ before) r) ≡ []
      → take (length (up_to s (b ∷ before) r)) (commands_from s (b ∷ before ++ r ∷ after))
      ≡ up_to s (b ∷ before) r
  runs_by b before false opens mine opened more none = rw mine (more (rw mine at none))
  runs_by b before true true mine opened more none =
      later_some b.command (up_to s before r) (game_of (up_to s before r))
      (rw (mine, opened) at none)
  runs_by b before true false mine opened more none =
      rw (mine, opened) (ap (λ (l : List Command). b.command ∷ l)
      (more (sym (later_none (game_of (up_to s before r))) ∙ (rw (mine, opened) at none))))

  runs_on : (before : List Row) → game_of (up_to s before r) ≡ []
      → take (length (up_to s before r)) (commands_from s (before ++ r ∷ after))
      ≡ up_to s before r
  runs_on [] none = last_runs_on (is_open r.command) refl none
  runs_on (b ∷ before) none =
      runs_by b before (b.session == s) (is_open b.command) refl refl (runs_on before) none

  -- ---- a game of the whole begins so

  record Begins (rows : List Row) (g : List Command) : Type 0 where
    pub at : ℕ
    pub game : Game
    pub owner : game.session ≡ s
    pub stands : slice_get (games_in s rows) at ≡ Some game
    pub begins : take (length g) game.commands ≡ g

  last_begins : (opens : Bool) → is_open r.command ≡ opens
      → 0 < length (game_of (r.command ∷ [])) → Begins (r ∷ after) (game_of (r.command ∷ []))
  last_begins true opens some = record {
    at = 0;
    game = game_from r after;
    owner = grind (arith, nat_tests, own);
    stands = rw (own, opens) refl;
    begins = rw opens refl;
  }
  last_begins false shut some =
      let none : length (game_of (r.command ∷ [])) ≡ 0 = rw shut refl in
      absurd (omega (arith, some, none))

  begins_by : (b : Row) (before : List Row) (mine opens : Bool) (g : List Command)
      → (b.session == s) ≡ mine → is_open b.command ≡ opens
      → game_of (up_to s before r) ≡ g
      → (0 < length (game_of (up_to s before r))
      → Begins (before ++ r ∷ after) (game_of (up_to s before r)))
      → 0 < length (game_of (up_to s (b ∷ before) r))
      → Begins (b ∷ before ++ r ∷ after) (game_of (up_to s (b ∷ before) r))
  begins_by b before false opens g mine opened is ih some =
      let more = ih (rw mine at some) in
      record {
        at = more.at;
        game = more.game;
        owner = more.owner;
        stands = rw mine more.stands;
        begins = rw mine more.begins;
      }
  begins_by b before true false g mine opened is ih some =
      let more = ih (rw (mine, opened, later_none (game_of (up_to s before r))) at some) in
      record {
        at = more.at;
        game = more.game;
        owner = more.owner;
        stands = rw (mine, opened) more.stands;
        begins = rw (mine, opened, later_none (game_of (up_to s before r))) more.begins;
      }
  begins_by b before true true [] mine opened is ih some = record {
    at = 0;
    game = game_from b (before ++ r ∷ after);
    owner = grind (arith, nat_tests, mine);
    stands = rw (mine, opened) refl;
    begins =
        let same : b.session ≡ s = grind (arith, nat_tests, mine) in
        rw (mine, opened, is) (ap (λ (l : List Command). b.command ∷ l)
        (ap (λ (n : ℕ). take (length (up_to s before r)) (commands_from n (before ++ r ∷ after)))
        same ∙ runs_on before is));
  }
  begins_by b before true true (c ∷ cs) mine opened is ih some =
      let more = ih (rw is (omega arith)) in
      let whole : game_of (up_to s (b ∷ before) r) ≡ game_of (up_to s before r) =
      rw (mine, opened, is) refl in
      record {
        at = suc more.at;
        game = more.game;
        owner = more.owner;
        stands = rw (mine, opened) more.stands;
        begins = rw whole more.begins;
      }

  begins : (before : List Row) → 0 < length (game_of (up_to s before r))
      → Begins (before ++ r ∷ after) (game_of (up_to s before r))
  begins [] some = last_begins (is_open r.command) refl some
  begins (b ∷ before) some =
      begins_by b before (b.session == s) (is_open b.command) (game_of (up_to s before r)) refl refl
      refl (begins before) some

number_of : (g : List Command) → 0 < length g → command_count g + 1 ≡ length g
number_of g some = omega (arith, some)

pub holds : HoldsEachShow
holds stories before after r request is accepted =
    let s = r.session in
    let said = answered stories (commands_of before s) request r.command accepted in
    let g = game_of (up_to s before r) in
    let b = begins s r after (grind (arith, nat_tests)) before said.0 in
    let whole : take (command_count g + 1) b.game.commands ≡ g =
    ap (λ (n : ℕ). take n b.game.commands) (number_of g said.0) ∙ b.begins in
    record {
      at = b.at;
      game = b.game;
      stands = b.stands;
      number = command_count g;
      begins = whole;
      shows =
          said.1
          ∙ ap (λ (n : ℕ). Show n (command_count g) (game_show stories g)) (is ∙ sym b.owner)
          ∙ ap (λ (l : List Command). Show b.game.session (command_count g) (game_show stories l))
          (sym whole);
    }

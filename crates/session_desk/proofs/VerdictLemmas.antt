-- What a session will answer, by the checks that hold.
use Rattle.std.proofs.Common.{◌≡◌, ◌==◌, Bool, true, false, ◌&&◌, ◌||◌, not, nat_le, List, ℕ}
use Rattle.std.proofs.Common.{Bor, Option, Some, None, is_none, refl}
use Rattle.std.specs.Option.{option_copied}
use Rattle.gate_journal.specs.declared.command.Command.{Command}
use Rattle.gate_journal.specs.declared.command.Command.TheVariants as commands
use Rattle.line_words.specs.declared.request.Request.{Request}
use Rattle.line_words.specs.declared.request.Request.TheVariants.{Open, Line, Char, File, Size}
use Rattle.line_words.specs.declared.request.Request.TheVariants.{Last, Close, Watch}
use Rattle.line_words.specs.declared.reply.No.{No}
use Rattle.story_run.specs.declared.story.Story.{Story}
use Rattle.story_run.specs.World.{WorldState}
use Rattle.session_core.specs.History.{command_count, game_of, is_in_use, has_key, story_at}
use Rattle.session_core.specs.Checks.{command_of, opening_command, is_absent, is_fresh, outline}
use Rattle.session_core.specs.Answer.{accepted_by, first_refusal, plain_checks, refusal_in}
use Rattle.session_core.proofs.RepeatLemmas.{all_fail}
use Rattle.session_desk.specs.declared.verdict.Verdict.TheVariants.{Refuse, Again, Fresh}
use Rattle.session_desk.specs.Verdict.{is_close_request, needs_world, verdict_in}

-- ---- what a new request asks for

opens_there : (fresh : Bool) (found : Option Story) (command : List ℕ → Command)
    → (fresh && is_none found) ≡ false → fresh ≡ true
    → (c : Command) × (opening_command found command ≡ Some c)
opens_there fresh (Some story) command e f = (command story.digest, refl)
opens_there true None command e f = absurd cc
opens_there false None command e f = absurd cc

-- a new request that no plain check refuses asks for a command
pub asks : (stories : List Story) (game : List Command) (request : Request)
    → first_refusal (plain_checks stories game request) ≡ None
    → is_fresh game request ≡ true
    → (c : Command) × (command_of stories request ≡ Some c)
asks stories game (Open s key story seed cols rows budget) none fresh =
    let fails =
    all_fail (plain_checks stories game (Open s key story seed cols rows budget)) none in
    opens_there (not (is_in_use game)) (story_at stories story)
    (λ digest. commands.Open key story digest seed cols rows budget) fails.1.1.1.0 fresh
asks stories game (Line s key n win text term) none fresh = (commands.Line win term text, refl)
asks stories game (Char s key n win code) none fresh = (commands.Char win code, refl)
asks stories game (File s key n name) none fresh = (commands.File name, refl)
asks stories game (Size s key n cols rows) none fresh = (commands.Size cols rows, refl)
asks stories game (Last s key) none fresh = absurd cc
asks stories game (Close s key n) none fresh = (commands.Close, refl)
asks stories game (Watch s word from) none fresh = absurd cc

-- ---- whom a request finds

-- but for an OPEN, a spectator's request, and a CLOSE with the number of the last command, a
-- request that is known finds its session in use
abbrev pub FindsUse : List Command → Request → Type 0
FindsUse g (Open s key story seed cols rows budget) = Unit {0}
FindsUse g (Close s key n) = (n == command_count g) ≡ false → is_in_use g ≡ true
FindsUse g (Watch s word from) = Unit {0}
FindsUse g request = is_in_use g ≡ true

pub finds_use : (stories : List Story) (g : List Command) (request : Request)
    → first_refusal (plain_checks stories g request) ≡ None
    → FindsUse g request
finds_use stories g request none = by request (all_fail (plain_checks stories g request) none).1.0
  where
    in_use : (far key used again : Bool)
        → (far || not (key && (used || again))) ≡ false
        → again ≡ false → used ≡ true
    in_use true key used again e a = absurd cc
    in_use false true true again e a = refl
    in_use false true false again e a = absurd cc
    in_use false false used again e a = absurd cc

    by : (request : Request) → is_absent g request ≡ false → FindsUse g request
    by (Open s key story seed cols rows budget) a = tt
    by (Line s key n win text term) a =
        in_use (nat_le 64 s) (has_key g key) (is_in_use g) false a refl
    by (Char s key n win code) a = in_use (nat_le 64 s) (has_key g key) (is_in_use g) false a refl
    by (File s key n name) a = in_use (nat_le 64 s) (has_key g key) (is_in_use g) false a refl
    by (Size s key n cols rows) a = in_use (nat_le 64 s) (has_key g key) (is_in_use g) false a refl
    by (Last s key) a = in_use (nat_le 64 s) (has_key g key) (is_in_use g) false a refl
    by (Close s key n) a =
        in_use (nat_le 64 s) (has_key g key) (is_in_use g) (n == command_count g) a
    by (Watch s word from) a = tt

pub asks_story : (used : Bool) → used ≡ true → (used && true) ≡ false → ⊥
asks_story true u free = cc
asks_story false u free = cc

-- what is no request to the story of a session in use gives it nothing
pub free_gives : (stories : List Story) (game : List Command) (request : Request)
    → first_refusal (plain_checks stories game request) ≡ None
    → (is_in_use game && not (is_close_request request)) ≡ false → outline request ≡ None
free_gives stories game (Open s key story seed cols rows budget) none free = refl
free_gives stories game (Line s key n win text term) none free =
    absurd (asks_story (is_in_use game)
    (finds_use stories game (Line s key n win text term) none) free)
free_gives stories game (Char s key n win code) none free =
    absurd (asks_story (is_in_use game) (finds_use stories game (Char s key n win code) none) free)
free_gives stories game (File s key n name) none free =
    absurd (asks_story (is_in_use game) (finds_use stories game (File s key n name) none) free)
free_gives stories game (Size s key n cols rows) none free =
    absurd (asks_story (is_in_use game) (finds_use stories game (Size s key n cols rows) none) free)
free_gives stories game (Last s key) none free = refl
free_gives stories game (Close s key n) none free = refl
free_gives stories game (Watch s word from) none free = refl

-- ---- the verdict, by the refusal

-- a world that is lent is there where it is held
pub none_copied : {T : Type 0} (lent : Option (Bor T)) → is_none (option_copied lent) ≡ is_none lent
none_copied None = refl
none_copied (Some x) = refl

module _ (stories : List Story) (commands : List Command) (now : Option WorldState)
    (request : Request)
    (warm : (needs_world stories (game_of commands) request && is_none now) ≡ false) where
  pub told-refused : (why : No)
      → refusal_in now stories commands (game_of commands) request ≡ Some why
      → Refuse why ≡ verdict_in stories commands now request
  told-refused why e = rw (warm, e) refl

  pub told-again : refusal_in now stories commands (game_of commands) request ≡ None
      → is_fresh (game_of commands) request ≡ false
      → Again ≡ verdict_in stories commands now request
  unfolding accepted_by
  told-again e stale = rw (warm, e, stale) refl

  pub told-fresh : refusal_in now stories commands (game_of commands) request ≡ None
      → first_refusal (plain_checks stories (game_of commands) request) ≡ None
      → is_fresh (game_of commands) request ≡ true
      → Fresh ≡ verdict_in stories commands now request
  unfolding accepted_by
  told-fresh e none fresh =
      let asked = asks stories (game_of commands) request none fresh in
      rw (warm, e, fresh, asked.1) refl

-- What a session's game is once a command has joined it, and that no check holds of that command
-- then.
use Rattle.std.proofs.Common.{◌≡◌, ℕ, suc, ◌+◌, ◌-◌, Bool, true, false, ◌&&◌, ◌||◌, ◌==◌, not}
use Rattle.std.proofs.Common.{nat_lt, nat_le, cond, List, [], ◌∷◌, ◌++◌, length, Option, Some, None}
use Rattle.std.proofs.Common.{refl, ap, sym, ◌∙◌, arith, slice_get}
use Rattle.std.proofs.lemmas.Bool.{and_parts}
use Rattle.std.proofs.lemmas.Bool.Decides.{nat_tests}
use Rattle.std.proofs.lemmas.List.{length-append}
use Rattle.std.specs.Str.{bytes_eq}
use Rattle.std.proofs.lemmas.Slice.Eq.{bytes_eq-Decides}
use Rattle.gate_journal.specs.Rows.{is_open}
use Rattle.gate_journal.specs.declared.command.Command.{Command}
use Rattle.gate_journal.specs.declared.command.Command.TheVariants as commands
use Rattle.line_words.specs.declared.request.Request.{Request}
use Rattle.line_words.specs.declared.request.Request.TheVariants.{Open, Line, Char, File, Size}
use Rattle.line_words.specs.declared.request.Request.TheVariants.{Last, Close, Watch}
use Rattle.line_words.specs.declared.reply.No.{No}
use Rattle.line_words.specs.declared.reply.No.TheVariants.{Full}
use Rattle.story_run.specs.declared.story.Story.{Story}
use Rattle.story_run.specs.World.{WorldState}
use Rattle.session_core.specs.History.{later, game_of, command_count, has_key, last_of, story_at}
use Rattle.session_core.specs.History.{world_of}
use Rattle.session_core.specs.Checks.{command_of, opening_command, is_absent, is_changed, is_fresh}
use Rattle.session_core.specs.Checks.{is_full, is_other_story}
use Rattle.session_core.specs.Answer.{accepted_by, answer, answer_in, checks, decided}
use Rattle.session_core.specs.Answer.{first_refusal, game_show, history_extended, plain_checks}
use Rattle.session_core.specs.Answer.{refusal_in, refusal_of, show_reply, show_with, shown_number}
use Rattle.session_core.specs.Answer.{story_checks}
use Rattle.session_core.specs.Repeats.{again}
use Rattle.session_core.proofs.AnswerLemmas.{first_of-append-none}

-- ---- the game after a command

-- a game with one command more; no game stays none
abbrev pub joined : List Command → Command → List Command
joined [] x = []
joined (c ∷ cs) x = c ∷ (cs ++ x ∷ [])

later_joined : (opens : Bool) (c : Command) (cs : List Command) (x : Command) (g : List Command)
    → later (cond opens (c ∷ (cs ++ x ∷ [])) []) (joined g x)
    ≡ joined (later (cond opens (c ∷ cs) []) g) x
later_joined true c cs x [] = refl
later_joined false c cs x [] = refl
later_joined opens c cs x (d ∷ ds) = refl

pub game_of-append : (history : List Command) (x : Command)
    → is_open x ≡ false
    → game_of (history ++ x ∷ []) ≡ joined (game_of history) x
game_of-append [] x e = rw e refl
game_of-append (c ∷ cs) x e =
    rw (game_of-append cs x e) (later_joined (is_open c) c cs x (game_of cs))

pub game_of-append-open : (history : List Command) (x : Command)
    → is_open x ≡ true → game_of (history ++ x ∷ []) ≡ x ∷ []
game_of-append-open [] x e = rw e refl
game_of-append-open (c ∷ cs) x e = rw (game_of-append-open cs x e) refl

at_end : (cs : List Command) (x : Command) → slice_get (cs ++ x ∷ []) (length cs) ≡ Some x
at_end [] x = refl
at_end (c ∷ cs) x = at_end cs x

pub last_of-joined : (c : Command) (cs : List Command) (x : Command)
    → last_of (c ∷ (cs ++ x ∷ [])) ≡ Some x
last_of-joined c cs x =
    let index : suc (length (cs ++ x ∷ [])) - 1 ≡ suc (length cs) =
    omega (arith, length-append cs (x ∷ [])) in
    ap (λ (i : ℕ). slice_get (c ∷ (cs ++ x ∷ [])) i) index ∙ at_end cs x

-- ---- what an accepted request passed

-- no check of the list holds
abbrev pub AllFail : List (Bool × No) → Type 0
AllFail [] = Unit {0}
AllFail ((holds, why) ∷ more) = (holds ≡ false) × AllFail more

pub all_fail : (xs : List (Bool × No)) → first_refusal xs ≡ None → AllFail xs
all_fail [] e = tt
all_fail ((true, why) ∷ more) e = absurd cc
all_fail ((false, why) ∷ more) e = (refl, all_fail more e)

pub accepted_none : (stories : List Story) (game : List Command) (show : Option Command → List ℕ)
    (request : Request) (refusal : Option No) (command : Command)
    → (decided stories game show request refusal).accepted ≡ Some command
    → (refusal ≡ None) × (accepted_by stories game request ≡ Some command)
accepted_none stories game show request (Some why) command e = absurd cc
accepted_none stories game show request None command e = (refl, e)

pub chosen : (fresh : Bool) (asked : Option Command) (command : Command)
    → cond fresh asked None ≡ Some command
    → (fresh ≡ true) × (asked ≡ Some command)
chosen true asked command e = (refl, e)
chosen false asked command e = absurd cc

pub answer_in-none : (stories : List Story) (history : List Command) (now : Option WorldState)
    (request : Request) (accepted : Option Command)
    → refusal_in now stories history (game_of history) request ≡ None
    → accepted_by stories (game_of history) request ≡ accepted
    → answer_in stories history now request
    ≡ record {
      reply = show_reply (game_of history) (show_with stories history now accepted) request;
      accepted = accepted;
    }
unfolding answer_in
answer_in-none stories history now request accepted e a = rw (e, a) refl

pub some_is : (x y : Command) → Some x ≡ Some y → x ≡ y
some_is x y e = cc

-- the session number is one, and the request is known
pub known : (far is : Bool) → (far || not is) ≡ false → (far ≡ false) × (is ≡ true)
known true is e = absurd cc
known false true e = (refl, refl)
known false false e = absurd cc

-- ---- the same request, once its command was accepted

-- no check without the world holds of the request, and it isn't new
abbrev Passes : List Story → List Command → Request → Type 0
Passes stories game request =
    (first_refusal (plain_checks stories game request) ≡ None) × (is_fresh game request ≡ false)

none_holds : (stories : List Story) (history game : List Command) (request : Request)
    → Passes stories game request
    → refusal_of stories history game request ≡ None
unfolding refusal_of refusal_in
none_holds stories history game request p =
    first_of-append-none (plain_checks stories game request)
    (story_checks (world_of stories game) stories game request
    ++ (is_full history game request, Full) ∷ []) p.0
    ∙ rw p.1 refl

same_number : (n : ℕ) → (n == n) ≡ true
same_number n = grind (arith, nat_tests)

same_list : (xs : List ℕ) → bytes_eq xs xs ≡ true
same_list xs = (bytes_eq-Decides xs xs).1 refl

-- a game opened with this key, once a command has joined it whose number was the next one
pub record Joins (stories : List Story) (g : List Command) (key : List ℕ) (n : ℕ) (x : Command)
    : Type 0 where
  pub keyed : has_key (joined g x) key ≡ true
  pub last : last_of (joined g x) ≡ Some x
  pub story : is_other_story stories (joined g x) ≡ is_other_story stories g
  pub early : nat_lt n (command_count (joined g x)) ≡ false
  pub same : (n == command_count (joined g x)) ≡ true
  pub ahead : nat_lt (command_count (joined g x) + 1) n ≡ false
  pub stale : (n == command_count (joined g x) + 1) ≡ false

joins : (stories : List Story) (g : List Command) (key : List ℕ) (n : ℕ) (x : Command)
    → has_key g key ≡ true → (n == command_count g + 1) ≡ true
    → Joins stories g key n x
joins stories (commands.Open k t d sd cl ro b ∷ cs) key n x keyed next =
    let head = commands.Open k t d sd cl ro b in
    let more : command_count (joined (head ∷ cs) x) ≡ n =
    grind (arith, nat_tests, next, length-append cs (x ∷ [])) in
    record {
      keyed = keyed;
      last = last_of-joined head cs x;
      story = refl;
      early = grind (arith, nat_tests, more);
      same = grind (arith, nat_tests, more);
      ahead = grind (arith, nat_tests, more);
      stale = grind (arith, nat_tests, more);
    }
joins stories [] key n x keyed next = absurd cc
joins stories (commands.Line w t text ∷ cs) key n x keyed next = absurd cc
joins stories (commands.Char w c ∷ cs) key n x keyed next = absurd cc
joins stories (commands.File name ∷ cs) key n x keyed next = absurd cc
joins stories (commands.Size w c ∷ cs) key n x keyed next = absurd cc
joins stories (commands.Close ∷ cs) key n x keyed next = absurd cc

-- the number is one of a session, and the command that comes next joins the game
pub known_joins : (stories : List Story) (g : List Command) (far used : Bool) (key : List ℕ) (n : ℕ)
    (x : Command)
    → (far || not (has_key g key && used)) ≡ false → (n == command_count g + 1) ≡ true
    → (far ≡ false) × Joins stories g key n x
known_joins stories g far used key n x a f =
    let k = known far (has_key g key && used) a in
    (k.0, joins stories g key n x (and_parts (has_key g key) used k.1).0 f)

open_passes : (stories : List Story) (s : ℕ) (key : List ℕ) (story seed cols rows budget : ℕ)
    (there : Option Story) (x : Command)
    → nat_le 64 s ≡ false → story_at stories story ≡ there
    → opening_command there (λ digest. commands.Open key story digest seed cols rows budget)
    ≡ Some x
    → (is_open x ≡ true) × Passes stories (x ∷ []) (Open s key story seed cols rows budget)
open_passes stories s key story seed cols rows budget None x far t e = absurd cc
open_passes stories s key story seed cols rows budget (Some file) x far t e =
    rw (sym (some_is _ x e)) (
      refl,
      (
        rw (
          far,
          t,
          same_list key,
          same_number story,
          same_number seed,
          same_number cols,
          same_number rows,
          same_list file.digest,
        ) refl,
        refl,
      ),
    )

passes_again : (stories : List Story) (history : List Command) (request : Request) (x : Command)
    → is_absent (game_of history) request ≡ false
    → is_changed stories (game_of history) request ≡ false
    → is_fresh (game_of history) request ≡ true
    → command_of stories request ≡ Some x
    → Passes stories (game_of (history ++ x ∷ [])) request
passes_again stories history (Open s key story seed cols rows budget) x a u f e =
    let o =
    open_passes stories s key story seed cols rows budget (story_at stories story) x
    (known (nat_le 64 s) true a).0 refl e in
    rw (game_of-append-open history x o.0) o.1
passes_again stories history (Line s key n win text term) x a u f e =
    let c = commands.Line win term text in
    let j = known_joins stories (game_of history) (nat_le 64 s) _ key n c a f in
    rw (sym (some_is _ x e), game_of-append history c refl) (
      rw (
        j.0,
        j.1.keyed,
        j.1.last,
        j.1.story,
        u,
        j.1.early,
        j.1.same,
        j.1.ahead,
        same_number win,
        same_number term,
        same_list text,
      ) refl,
      j.1.stale,
    )
passes_again stories history (Char s key n win code) x a u f e =
    let c = commands.Char win code in
    let j = known_joins stories (game_of history) (nat_le 64 s) _ key n c a f in
    rw (sym (some_is _ x e), game_of-append history c refl) (
      rw (
        j.0,
        j.1.keyed,
        j.1.last,
        j.1.story,
        u,
        j.1.early,
        j.1.same,
        j.1.ahead,
        same_number win,
        same_number code,
      ) refl,
      j.1.stale,
    )
passes_again stories history (File s key n name) x a u f e =
    let c = commands.File name in
    let j = known_joins stories (game_of history) (nat_le 64 s) _ key n c a f in
    rw (sym (some_is _ x e), game_of-append history c refl) (
      rw (j.0, j.1.keyed, j.1.last, j.1.story, u, j.1.early, j.1.same, j.1.ahead, same_list name)
          refl,
      j.1.stale,
    )
passes_again stories history (Size s key n cols rows) x a u f e =
    let c = commands.Size cols rows in
    let j = known_joins stories (game_of history) (nat_le 64 s) _ key n c a f in
    rw (sym (some_is _ x e), game_of-append history c refl) (
      rw (
        j.0,
        j.1.keyed,
        j.1.last,
        j.1.story,
        u,
        j.1.early,
        j.1.same,
        j.1.ahead,
        same_number cols,
        same_number rows,
      ) refl,
      j.1.stale,
    )
passes_again stories history (Last s key) x a u f e = absurd cc
passes_again stories history (Close s key n) x a u f e =
    let j = known_joins stories (game_of history) (nat_le 64 s) _ key n commands.Close a f in
    rw (sym (some_is _ x e), game_of-append history commands.Close refl) (
      rw (j.0, j.1.keyed, j.1.last, j.1.early, j.1.same, j.1.ahead) refl,
      j.1.stale,
    )
passes_again stories history (Watch s word from) x a u f e = absurd cc

-- the number that a new command shows is its own, whatever the game is
same_shown_number : (g h : List Command) (request : Request)
    → is_fresh g request ≡ true
    → shown_number g request ≡ shown_number h request
same_shown_number g h (Open s key story seed cols rows budget) f = refl
same_shown_number g h (Line s key n win text term) f = refl
same_shown_number g h (Char s key n win code) f = refl
same_shown_number g h (File s key n name) f = refl
same_shown_number g h (Size s key n cols rows) f = refl
same_shown_number g h (Last s key) f = absurd cc
same_shown_number g h (Close s key n) f = refl
same_shown_number g h (Watch s word from) f = absurd cc

pub repeats : (stories : List Story) (history : List Command) (request : Request)
    (command : Command)
    → (answer stories history request).accepted ≡ Some command
    → answer stories (history ++ command ∷ []) request ≡ again (answer stories history request)
unfolding answer refusal_of refusal_in accepted_by
repeats stories history request command e =
    let game = game_of history in
    let grown = game_of (history ++ command ∷ []) in
    let by =
    accepted_none stories game
    (λ accepted. game_show stories (game_of (history_extended history accepted))) request
    (refusal_of stories history game request) command e in
    let taken = chosen (is_fresh game request) (command_of stories request) command by.1 in
    let fails = all_fail (checks (world_of stories game) stories history game request) by.0 in
    let p = passes_again stories history request command fails.1.0 fails.1.1.1.1.0 taken.0 taken.1 in
    rw (
      by.0,
      none_holds stories (history ++ command ∷ []) grown request p,
      taken.0,
      taken.1,
      p.1,
      same_shown_number game grown request taken.0,
    ) refl

-- What a request is answered whose command is accepted: the show of the game that it makes.
use Rattle.std.proofs.Common.{◌≡◌, ℕ, ◌+◌, ◌<◌, Bool, true, false, ◌&&◌, nat_le, List, [], ◌∷◌}
use Rattle.std.proofs.Common.{◌++◌, length, Option, Some, None, refl, ap, sym, arith, ◌==◌}
use Rattle.std.proofs.Common.{◌||◌, not}
use Rattle.std.proofs.lemmas.Bool.Decides.{nat_tests}
use Rattle.gate_journal.specs.Rows.{is_open}
use Rattle.gate_journal.specs.declared.command.Command.{Command}
use Rattle.gate_journal.specs.declared.command.Command.TheVariants as commands
use Rattle.line_words.specs.declared.request.Request.{Request}
use Rattle.line_words.specs.declared.request.Request.TheVariants.{Open, Line, Char, File, Size}
use Rattle.line_words.specs.declared.request.Request.TheVariants.{Last, Close, Watch}
use Rattle.line_words.specs.declared.reply.Reply.TheVariants as replies
use Rattle.story_run.specs.declared.story.Story.{Story}
use Rattle.session_core.specs.Answer.{accepted_by, answer, checks, game_show, history_extended}
use Rattle.session_core.specs.Answer.{refusal_in, refusal_of, shown_number}
use Rattle.session_core.specs.Checks.{command_of, is_absent, is_fresh, opening_command, session_of}
use Rattle.session_core.specs.History.{command_count, game_of, has_key, story_at, world_of}
use Rattle.session_core.proofs.RepeatLemmas.{accepted_none, all_fail, chosen, game_of-append}
use Rattle.session_core.proofs.RepeatLemmas.{game_of-append-open, joined, known_joins, some_is}

-- a game with its last command, whose number this is
pub record Counts (g : List Command) (number : ℕ) : Type 0 where
  pub some : 0 < length g
  pub last : number ≡ command_count g

keyed_some : (g : List Command) (key : List ℕ) → has_key g key ≡ true → 0 < length g
keyed_some [] key keyed = absurd cc
keyed_some (c ∷ cs) key keyed = omega arith

-- a command that comes next is the last one of the game that it makes
next_counts : (stories : List Story) (history : List Command) (s : ℕ) (used : Bool)
    (key : List ℕ) (n : ℕ) (x : Command) → is_open x ≡ false
    → (nat_le 64 s || not (has_key (game_of history) key && used)) ≡ false
    → (n == command_count (game_of history) + 1) ≡ true
    → Counts (game_of (history ++ x ∷ [])) n
next_counts stories history s used key n x shut known next =
    let j = (known_joins stories (game_of history) (nat_le 64 s) used key n x known next).1 in
    rw (game_of-append history x shut) (record {
      some = keyed_some (joined (game_of history) x) key j.keyed;
      last = grind (arith, nat_tests, j.same);
    })

-- an OPEN begins its game
open_counts : (there : Option Story) (history : List Command) (x : Command)
    (key : List ℕ) (story seed cols rows budget : ℕ)
    → opening_command there (λ digest. commands.Open key story digest seed cols rows budget)
    ≡ Some x
    → Counts (game_of (history ++ x ∷ [])) 0
open_counts None history x key story seed cols rows budget e = absurd cc
open_counts (Some file) history x key story seed cols rows budget e =
    let is = some_is _ x e in
    let opens : is_open x ≡ true = ap is_open (sym is) in
    rw (game_of-append-open history x opens) (record { some = omega arith; last = refl })

counts_request : (stories : List Story) (history : List Command) (request : Request) (x : Command)
    → is_absent (game_of history) request ≡ false → is_fresh (game_of history) request ≡ true
    → command_of stories request ≡ Some x
    → Counts (game_of (history ++ x ∷ [])) (shown_number (game_of history) request)
counts_request stories history (Open s key story seed cols rows budget) x a f e =
    open_counts (story_at stories story) history x key story seed cols rows budget e
counts_request stories history (Line s key n win text term) x a f e =
    rw (sym (some_is _ x e))
    (next_counts stories history s _ key n (commands.Line win term text) refl a f)
counts_request stories history (Char s key n win code) x a f e =
    rw (sym (some_is _ x e))
    (next_counts stories history s _ key n (commands.Char win code) refl a f)
counts_request stories history (File s key n name) x a f e =
    rw (sym (some_is _ x e)) (next_counts stories history s _ key n (commands.File name) refl a f)
counts_request stories history (Size s key n cols rows) x a f e =
    rw (sym (some_is _ x e))
    (next_counts stories history s _ key n (commands.Size cols rows) refl a f)
counts_request stories history (Last s key) x a f e = absurd cc
counts_request stories history (Close s key n) x a f e =
    rw (sym (some_is _ x e)) (next_counts stories history s _ key n commands.Close refl a f)
counts_request stories history (Watch s word from) x a f e = absurd cc

-- a request that is accepted is answered by the show of the game with its command, and by that
-- command's number
pub answered : (stories : List Story) (history : List Command) (request : Request)
    (command : Command)
    → (answer stories history request).accepted ≡ Some command
    → (0 < length (game_of (history ++ command ∷ [])))
    × ((answer stories history request).reply
    ≡ replies.Show (session_of request) (command_count (game_of (history ++ command ∷ [])))
    (game_show stories (game_of (history ++ command ∷ []))))
unfolding answer refusal_of refusal_in accepted_by
answered stories history request command e =
    let game = game_of history in
    let by =
    accepted_none stories game
    (λ accepted. game_show stories (game_of (history_extended history accepted))) request
    (refusal_of stories history game request) command e in
    let taken = chosen (is_fresh game request) (command_of stories request) command by.1 in
    let fails = all_fail (checks (world_of stories game) stories history game request) by.0 in
    let counts = counts_request stories history request command fails.1.0 taken.0 taken.1 in
    (counts.some, rw (by.0, taken.0, taken.1, ← counts.last) refl)

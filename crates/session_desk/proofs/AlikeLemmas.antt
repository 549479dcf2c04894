-- What a session refuses, shows again and accepts, by what the desk says of the request.
use Rattle.std.proofs.Common.{◌≡◌, ℕ, ◌<◌, length, IfSome, Bool, true, false, ◌&&◌, ◌==◌, ◌+◌, not}
use Rattle.std.proofs.Common.{cond, nat_le, List, [], ◌∷◌, ◌++◌, Option, Some, None, is_none, refl}
use Rattle.std.proofs.Common.{sym, ap, ◌∙◌, arith}
use Rattle.std.proofs.lemmas.Bool.Decides.{nat_tests}
use Rattle.gate_journal.specs.declared.command.Command.{Command}
use Rattle.gate_journal.specs.declared.command.Command.TheVariants as commands
use Rattle.line_words.specs.declared.request.Request.{Request}
use Rattle.line_words.specs.declared.request.Request.TheVariants.{Open, Line, Char, File, Size}
use Rattle.line_words.specs.declared.request.Request.TheVariants.{Last, Close, Watch}
use Rattle.line_words.specs.declared.reply.No.{No}
use Rattle.line_words.specs.declared.reply.No.TheVariants as no
use Rattle.line_words.specs.declared.reply.Reply.TheVariants as replies
use Rattle.story_run.specs.declared.story.Story.{Story}
use Rattle.session_core.specs.declared.decision.Decision.{Decision}
use Rattle.story_run.specs.World.{WorldState}
use Rattle.session_core.specs.History.{command_count, game_of, is_in_use, story_at}
use Rattle.session_core.specs.Checks.{command_of, is_absent, is_fresh, is_full, opening_command}
use Rattle.session_core.specs.Checks.{session_of}
use Rattle.session_core.specs.Answer.{accepted_by, answer_in, first_refusal, plain_checks}
use Rattle.session_core.specs.Answer.{refusal_in, story_checks, shown_number, show_while}
use Rattle.session_core.proofs.AnswerLemmas.{accepted_has_room_in}
use Rattle.session_core.proofs.RepeatLemmas.{all_fail, answer_in-none, chosen, known, some_is}
use Rattle.session_desk.proofs.VerdictLemmas.{asks, finds_use}
use Rattle.session_desk.specs.declared.verdict.Verdict.{Verdict}
use Rattle.session_desk.specs.declared.verdict.Verdict.TheVariants.{Refuse, Again, Fresh, Cold}
use Rattle.session_desk.specs.Desk.{DeskState, game, show_at, world_now}
use Rattle.session_desk.specs.Verdict.{foretold, is_to_story, lacks_world, needs_world}
use Rattle.session_desk.specs.Verdict.{verdict_by, verdict}
use Rattle.session_desk.specs.Laws.{RefusesAlike, ShowsAgain}

-- ---- what was told

told-refuse : (refusal : Option No) (accepted : Option Command) (why : No)
    → verdict_by refusal accepted ≡ Refuse why
    → refusal ≡ Some why
told-refuse (Some x) accepted why e = cc
told-refuse None (Some command) why e = absurd cc
told-refuse None None why e = absurd cc

told-again : (refusal : Option No) (accepted : Option Command)
    → verdict_by refusal accepted ≡ Again
    → (refusal ≡ None) × (accepted ≡ None)
told-again (Some x) accepted e = absurd cc
told-again None (Some command) e = absurd cc
told-again None None e = (refl, refl)

told-fresh : (refusal : Option No) (accepted : Option Command)
    → verdict_by refusal accepted ≡ Fresh
    → (refusal ≡ None) × ((c : Command) × (accepted ≡ Some c))
told-fresh (Some x) accepted e = absurd cc
told-fresh None (Some command) e = (refl, (command, refl))
told-fresh None None e = absurd cc

pub told-cold : (refusal : Option No) (accepted : Option Command)
    → verdict_by refusal accepted ≡ Cold → true ≡ false
told-cold (Some x) accepted e = absurd cc
told-cold None (Some command) e = absurd cc
told-cold None None e = absurd cc

-- where the verdict isn't Cold the world isn't lacking, and the answer told it
abbrev is_cold : Verdict → Bool
is_cold (Refuse why) = false
is_cold Again = false
is_cold Fresh = false
is_cold Cold = true

warm : (lacks : Bool) (said other : Verdict)
    → cond lacks Cold said ≡ other → is_cold other ≡ false
    → (lacks ≡ false) × (said ≡ other)
warm true said other e w = absurd (let cold : true ≡ is_cold other = ap is_cold e in cc)
warm false said other e w = (refl, e)

holds_one : (needs lacks : Bool) → (needs && lacks) ≡ false → needs ≡ true → lacks ≡ false
holds_one true true e n = absurd cc
holds_one true false e n = refl
holds_one false lacks e n = absurd cc

-- a fresh request to the story of a session in use finds its world held
held_now : (desk : DeskState) (request : Request)
    → verdict desk request ≡ Fresh
    → first_refusal (plain_checks desk.stories (game desk) request) ≡ None
    → is_to_story (game desk) request ≡ true → is_none (world_now desk.held) ≡ false
held_now desk request e none asks =
    holds_one (needs_world desk.stories (game desk) request) (is_none (world_now desk.held))
    (warm (lacks_world desk request)
    (foretold desk.stories desk.commands (world_now desk.held) request) Fresh e refl).0
    (rw (none, asks) refl)

-- ---- a refusal

pub refuses : RefusesAlike
unfolding answer_in
refuses desk request why e =
    let now = world_now desk.held in
    let is =
    told-refuse (refusal_in now desk.stories desk.commands (game_of desk.commands) request)
    (accepted_by desk.stories (game_of desk.commands) request) why
    (warm (lacks_world desk request) (foretold desk.stories desk.commands now request)
    (Refuse why) e refl).1 in
    rw is refl

-- ---- a show

abbrev as_again : ℕ → ℕ → List ℕ → Decision
as_again s n show = record { reply = replies.Show s n show; accepted = None }

first_of-front : (xs ys : List (Bool × No))
    → first_refusal (xs ++ ys) ≡ None → first_refusal xs ≡ None
first_of-front [] ys e = refl
first_of-front ((true, why) ∷ more) ys e = e
first_of-front ((false, why) ∷ more) ys e = first_of-front more ys e

pub plain : (now : Option WorldState) (stories : List Story) (history game : List Command)
    (request : Request)
    → refusal_in now stories history game request ≡ None
    → first_refusal (plain_checks stories game request) ≡ None
unfolding refusal_in
plain now stories history game request e =
    first_of-front (plain_checks stories game request)
    (story_checks now stories game request ++ (is_full history game request, no.Full) ∷ []) e

-- before the first OPEN only an OPEN is known, which is new then
first_is_fresh : (stories : List Story) (request : Request)
    → first_refusal (plain_checks stories [] request) ≡ None
    → is_fresh [] request ≡ true
first_is_fresh stories request none =
    by request (all_fail (plain_checks stories [] request) none).1.0
  where
    by : (request : Request) → is_absent [] request ≡ false → is_fresh [] request ≡ true
    by (Open s key story seed cols rows budget) a = refl
    by (Line s key n win text term) a = absurd (let k = known (nat_le 64 s) false a in cc)
    by (Char s key n win code) a = absurd (let k = known (nat_le 64 s) false a in cc)
    by (File s key n name) a = absurd (let k = known (nat_le 64 s) false a in cc)
    by (Size s key n cols rows) a = absurd (let k = known (nat_le 64 s) false a in cc)
    by (Last s key) a = absurd (let k = known (nat_le 64 s) false a in cc)
    by (Close s key n) a = absurd (let k = known (nat_le 64 s) false a in cc)
    by (Watch s word from) a = absurd (let k = known (nat_le 64 s) false a in cc)

taken : (fresh : Bool) (asked : Option Command) (c : Command)
    → cond fresh asked None ≡ None → fresh ≡ true
    → asked ≡ Some c → true ≡ false
taken true asked c e f a = absurd cc
taken false asked c e f a = absurd cc

-- what is shown again was shown of a game
shown : (stories : List Story) (g : List Command) (now : Option WorldState) (request : Request)
    → first_refusal (plain_checks stories g request) ≡ None
    → accepted_by stories g request ≡ None → show_while (is_in_use g) now ≡ show_at g now
unfolding accepted_by
shown stories (c ∷ cs) now request none a = refl
shown stories [] now request none a =
    let fresh = first_is_fresh stories request none in
    let asked = asks stories [] request none fresh in
    absurd
    (let e = taken (is_fresh [] request) (command_of stories request) asked.0 a fresh asked.1 in cc)

-- what a request passed that is shown again
pub record Repeats (desk : DeskState) (request : Request) : Type 0 where
  pub told : refusal_in (world_now desk.held) desk.stories desk.commands (game desk) request ≡ None
  pub none : first_refusal (plain_checks desk.stories (game desk) request) ≡ None
  pub accepted : accepted_by desk.stories (game desk) request ≡ None
  pub held : lacks_world desk request ≡ false

pub repeats : (desk : DeskState) (request : Request)
    → verdict desk request ≡ Again → Repeats desk request
repeats desk request e =
    let history = desk.commands in
    let now = world_now desk.held in
    let g = game_of history in
    let said =
    warm (lacks_world desk request) (foretold desk.stories history now request) Again e refl in
    let by =
    told-again (refusal_in now desk.stories history g request) (accepted_by desk.stories g request)
    said.1 in
    record {
      told = by.0;
      none = plain now desk.stories history g request by.0;
      accepted = by.1;
      held = said.0;
    }

pub shows_again : ShowsAgain
shows_again desk request e =
    let r = repeats desk request e in
    let g = game desk in
    answer_in-none desk.stories desk.commands (world_now desk.held) request None r.told r.accepted
    ∙ ap (as_again (session_of request) (shown_number g request))
    (shown desk.stories g (world_now desk.held) request r.none r.accepted)

-- ---- what a fresh request passed

pub record Accepts (desk : DeskState) (request : Request) : Type 0 where
  pub command : Command
  pub told : refusal_in (world_now desk.held) desk.stories desk.commands (game desk) request ≡ None
  pub accepted : accepted_by desk.stories (game desk) request ≡ Some command
  pub asked : command_of desk.stories request ≡ Some command
  pub none : first_refusal (plain_checks desk.stories (game desk) request) ≡ None
  pub fresh : is_fresh (game desk) request ≡ true
  pub room : length desk.commands < 8192

has_room : (accepted : Option Command) (c : Command) (n : ℕ)
    → IfSome accepted (λ _. n < 8192) → accepted ≡ Some c
    → n < 8192
has_room (Some x) c n h e = h
has_room None c n h e = absurd cc

pub accepts : (desk : DeskState) (request : Request)
    → verdict desk request ≡ Fresh → Accepts desk request
unfolding accepted_by
accepts desk request e =
    let history = desk.commands in
    let now = world_now desk.held in
    let g = game_of history in
    let by =
    told-fresh (refusal_in now desk.stories history g request) (accepted_by desk.stories g request)
    (warm (lacks_world desk request) (foretold desk.stories history now request) Fresh e refl).1 in
    let taken = chosen (is_fresh g request) (command_of desk.stories request) by.1.0 by.1.1 in
    record {
      command = by.1.0;
      told = by.0;
      accepted = by.1.1;
      asked = taken.1;
      none = plain now desk.stories history g request by.0;
      fresh = taken.0;
      room = has_room (accepted_by desk.stories g request) by.1.0 (length history)
          (accepted_has_room_in now desk.stories history g request
          (accepted_by desk.stories g request) by.0 refl) by.1.1;
    }

-- what the command of a fresh request finds: an OPEN a free session, and its story; a CLOSE a
-- session in use; what gives the story something the session's world too
abbrev pub IsReadyFor : DeskState → Command → Type 0
IsReadyFor desk (commands.Open key story digest seed cols rows budget) =
    (not (is_in_use (game desk)) ≡ true) × (is_none (story_at desk.stories story) ≡ false)
IsReadyFor desk commands.Close = is_in_use (game desk) ≡ true
IsReadyFor desk command =
    (is_in_use (game desk) ≡ true) × (is_none (world_now desk.held) ≡ false)

pub ready : (desk : DeskState) (request : Request) (c : Command)
    → verdict desk request ≡ Fresh
    → command_of desk.stories request ≡ Some c
    → IsReadyFor desk c
ready desk (Open s key story seed cols rows budget) c v e =
    opened (story_at desk.stories story) refl e
  where
    opened : (found : Option Story) → story_at desk.stories story ≡ found
        → opening_command found (λ digest. commands.Open key story digest seed cols rows budget)
        ≡ Some c
        → IsReadyFor desk c
    opened None is e = absurd cc
    opened (Some there) is e =
        rw (sym (some_is _ c e))
        ((accepts desk (Open s key story seed cols rows budget) v).fresh, rw is refl)
ready desk (Line s key n win text term) c v e =
    let none = (accepts desk (Line s key n win text term) v).none in
    let used = finds_use desk.stories (game desk) (Line s key n win text term) none in
    rw (sym (some_is _ c e))
    (used, held_now desk (Line s key n win text term) v none (rw used refl))
ready desk (Char s key n win code) c v e =
    let none = (accepts desk (Char s key n win code) v).none in
    let used = finds_use desk.stories (game desk) (Char s key n win code) none in
    rw (sym (some_is _ c e)) (used, held_now desk (Char s key n win code) v none (rw used refl))
ready desk (File s key n name) c v e =
    let none = (accepts desk (File s key n name) v).none in
    let used = finds_use desk.stories (game desk) (File s key n name) none in
    rw (sym (some_is _ c e)) (used, held_now desk (File s key n name) v none (rw used refl))
ready desk (Size s key n cols rows) c v e =
    let none = (accepts desk (Size s key n cols rows) v).none in
    let used = finds_use desk.stories (game desk) (Size s key n cols rows) none in
    rw (sym (some_is _ c e)) (used, held_now desk (Size s key n cols rows) v none (rw used refl))
ready desk (Last s key) c v e = absurd cc
ready desk (Watch s word from) c v e = absurd cc
ready desk (Close s key n) c v e =
    let a = accepts desk (Close s key n) v in
    rw (sym (some_is _ c e)) (finds_use desk.stories (game desk) (Close s key n) a.none
    (not_last n (command_count (game desk)) a.fresh))
  where
    not_last : (n c : ℕ) → (n == c + 1) ≡ true → (n == c) ≡ false
    not_last n c e = grind (arith, nat_tests, e)

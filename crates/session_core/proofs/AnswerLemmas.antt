-- The first check that holds, and the world after one command more.
use Rattle.std.proofs.Common.{◌≡◌, ℕ, ◌<◌, Bool, true, false, ◌&&◌, nat_le, cond, length, List, []}
use Rattle.std.proofs.Common.{◌∷◌, ◌++◌, Option, Some, None, IfSome, refl, ap, sym, ◌∙◌, arith}
use Rattle.std.proofs.lemmas.Bool.Decides.{nat_tests}
use Rattle.std.specs.List.{filter_map}
use Rattle.story_text.specs.declared.input.Input.{Input}
use Rattle.line_words.specs.declared.reply.No.{No}
use Rattle.gate_journal.specs.declared.command.Command.{Command}
use Rattle.story_run.specs.World.{WorldState}
use Rattle.line_words.specs.declared.reply.No.TheVariants.{Full}
use Rattle.line_words.specs.declared.request.Request.{Request}
use Rattle.story_run.specs.declared.story.Story.{Story}
use Rattle.story_run.specs.Solo.{is_wanted, world_after_input, turned_by}
use Rattle.session_core.specs.History.{input_of, turned_on, world_of}
use Rattle.session_core.specs.Checks.{command_of, is_fresh, is_full}
use Rattle.session_core.specs.Answer.{first_refusal, plain_checks, story_checks, refusal_in}
use Rattle.session_core.specs.Answer.{refusal_of, accepted_by}

pub first_of-append-some : (xs ys : List (Bool × No)) (why : No)
    → first_refusal xs ≡ Some why
    → first_refusal (xs ++ ys) ≡ Some why
first_of-append-some [] ys why e = absurd cc
first_of-append-some ((true, why_not) ∷ xs) ys why e = e
first_of-append-some ((false, why_not) ∷ xs) ys why e = first_of-append-some xs ys why e

pub first_of-append-none : (xs ys : List (Bool × No))
    → first_refusal xs ≡ None
    → first_refusal (xs ++ ys) ≡ first_refusal ys
first_of-append-none [] ys e = refl
first_of-append-none ((true, why_not) ∷ xs) ys e = absurd cc
first_of-append-none ((false, why_not) ∷ xs) ys e = first_of-append-none xs ys e

turned_by-option : (world : WorldState) (given : Option Input) (command : Command)
    (after : List Command)
    → input_of command ≡ given
    → turned_by world (filter_map input_of (command ∷ after))
    ≡ turned_by (turned_on world given) (filter_map input_of after)
turned_by-option world (Some input) command after e = rw e refl
turned_by-option world None command after e = rw e refl

pub turned_by-command : (world : WorldState) (command : Command) (after : List Command)
    → turned_by world (filter_map input_of (command ∷ after))
    ≡ turned_by (turned_on world (input_of command)) (filter_map input_of after)
turned_by-command world command after = turned_by-option world (input_of command) command after refl

-- an input that isn't wanted leaves the world
pub turned_on-unwanted : (world : WorldState) (input : Input) (given : Option Input)
    → given ≡ Some input → is_wanted world input ≡ false
    → world ≡ turned_on world given
unfolding world_after_input
turned_on-unwanted world input given e unwanted = rw (e, unwanted) refl

pub turned_by-more : (w : WorldState) (cs : List Command) (c : Command)
    → turned_by w (filter_map input_of (cs ++ c ∷ []))
    ≡ turned_on (turned_by w (filter_map input_of cs)) (input_of c)
turned_by-more w [] c = turned_by-command w c []
turned_by-more w (d ∷ ds) c =
    turned_by-command w d (ds ++ c ∷ [])
    ∙ turned_by-more (turned_on w (input_of d)) ds c
    ∙ ap (λ (x : WorldState). turned_on x (input_of c)) (sym (turned_by-command w d ds))

-- a check without the world refuses whatever the world is
pub refusal_in-plain : (now : Option WorldState) (stories : List Story)
    (history game : List Command) (request : Request) (why : No)
    → first_refusal (plain_checks stories game request) ≡ Some why
    → Some why ≡ refusal_in now stories history game request
unfolding refusal_in
refusal_in-plain now stories history game request why e =
    sym (first_of-append-some (plain_checks stories game request)
    (story_checks now stories game request ++ (is_full history game request, Full) ∷ []) why e)

pub refusal_in-story : (now : Option WorldState) (stories : List Story)
    (history game : List Command) (request : Request) (why : No)
    → first_refusal (plain_checks stories game request) ≡ None
    → first_refusal (story_checks now stories game request) ≡ Some why
    → Some why ≡ refusal_in now stories history game request
unfolding refusal_in
refusal_in-story now stories history game request why none e =
    sym (first_of-append-none (plain_checks stories game request)
    (story_checks now stories game request ++ (is_full history game request, Full) ∷ []) none
    ∙ first_of-append-some (story_checks now stories game request)
    ((is_full history game request, Full) ∷ []) why e)

-- no check of a list holds, so none of its end does
first_of-end : (xs ys : List (Bool × No))
    → first_refusal (xs ++ ys) ≡ None → first_refusal ys ≡ None
first_of-end [] ys e = e
first_of-end ((true, why) ∷ xs) ys e = absurd cc
first_of-end ((false, why) ∷ xs) ys e = first_of-end xs ys e

last_fails : (holds : Bool) (why : No) → first_refusal ((holds, why) ∷ []) ≡ None → holds ≡ false
last_fails true why e = absurd cc
last_fails false why e = refl

if_accepted : (room : ℕ) (accepted : Option Command)
    → room < 8192 → IfSome accepted (λ _. room < 8192)
if_accepted room (Some command) lt = lt
if_accepted room None lt = tt

fresh_has_room : (fresh : Bool) (many : ℕ) (asked : Option Command)
    → (fresh && nat_le 8192 many) ≡ false
    → IfSome (cond fresh asked None) (λ _. many < 8192)
fresh_has_room true many asked e = if_accepted many asked (grind (arith, nat_tests, e))
fresh_has_room false many asked e = tt

-- a command is accepted only by a history that isn't full
pub accepted_has_room_in : (now : Option WorldState) (stories : List Story)
    (history game : List Command) (request : Request) (accepted : Option Command)
    → refusal_in now stories history game request ≡ None
    → accepted ≡ accepted_by stories game request
    → IfSome accepted (λ _. length history < 8192)
unfolding refusal_in accepted_by
accepted_has_room_in now stories history game request accepted none same =
    let past =
    first_of-end (plain_checks stories game request)
    (story_checks now stories game request ++ (is_full history game request, Full) ∷ []) none in
    let full =
    first_of-end (story_checks now stories game request)
    ((is_full history game request, Full) ∷ []) past in
    let fails = last_fails (is_full history game request) Full full in
    rw same
    (fresh_has_room (is_fresh game request) (length history) (command_of stories request) fails)

pub accepted_has_room : (stories : List Story) (history game : List Command)
    (request : Request) (accepted : Option Command)
    → refusal_of stories history game request ≡ None
    → accepted ≡ accepted_by stories game request
    → IfSome accepted (λ _. length history < 8192)
unfolding refusal_of
accepted_has_room stories history game request accepted none same =
    accepted_has_room_in (world_of stories game) stories history game request accepted none same

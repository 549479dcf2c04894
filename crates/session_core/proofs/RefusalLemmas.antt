-- Why a request is refused, by the world that is held or by none.
use Rattle.std.proofs.Common.{◌≡◌, ℕ, ◌<◌, ◌≤◌, Bool, true, false, ◌&&◌, not, nat_le, List, []}
use Rattle.std.proofs.Common.{◌∷◌, ◌++◌, length, Option, Some, None, is_none, refl, sym, ◌∙◌, arith}
use Rattle.std.proofs.lemmas.Bool.Decides.{nat_tests}
use Rattle.story_text.specs.declared.input.Input.TheVariants as inputs
use Rattle.gate_journal.specs.declared.command.Command.{Command}
use Rattle.gate_journal.specs.declared.command.Command.TheVariants as commands
use Rattle.line_words.specs.declared.request.Request.{Request}
use Rattle.line_words.specs.declared.request.Request.TheVariants.{Open, Line, Char, File, Size}
use Rattle.line_words.specs.declared.request.Request.TheVariants.{Last, Close, Watch}
use Rattle.line_words.specs.declared.reply.No.{No}
use Rattle.line_words.specs.declared.reply.No.TheVariants as no
use Rattle.story_run.specs.declared.story.Story.{Story}
use Rattle.story_run.specs.declared.stage.Stage.{Stage}
use Rattle.story_run.specs.declared.stage.Stage.TheVariants.{AtSelect, AtPrompt, Quit, Fault}
use Rattle.story_run.specs.World.{WorldState}
use Rattle.story_run.specs.Solo.{is_wanted, stage_wants}
use Rattle.session_core.specs.History.{story_at, world_of}
use Rattle.session_core.specs.Checks.{command_of, opening_command, input_given, is_fresh, is_full}
use Rattle.session_core.specs.Checks.{outline}
use Rattle.session_core.specs.Answer.{declines, first_refusal, plain_checks, story_checks}
use Rattle.session_core.specs.Answer.{refusal_in, refusal_of}
use Rattle.session_core.proofs.AnswerLemmas.{first_of-append-none, refusal_in-plain}
use Rattle.session_core.proofs.AnswerLemmas.{refusal_in-story}

-- ---- a story asks nothing of a text before it takes it

wants-line : (w : WorldState) (win : ℕ) (text : List ℕ) (term : ℕ)
    → is_wanted w (inputs.Line win text term) ≡ is_wanted w (inputs.Line win [] term)
unfolding is_wanted
wants-line w win text term = same w.stage
  where
    same : (stage : Stage)
        → stage_wants stage w.glk.requests (inputs.Line win text term)
        ≡ stage_wants stage w.glk.requests (inputs.Line win [] term)
    same (AtSelect m) = refl
    same (AtPrompt m) = refl
    same Quit = refl
    same (Fault n) = refl

wants-file : (w : WorldState) (name : List ℕ)
    → is_wanted w (inputs.File name) ≡ is_wanted w (inputs.File [])
unfolding is_wanted
wants-file w name = same w.stage
  where
    same : (stage : Stage)
        → stage_wants stage w.glk.requests (inputs.File name)
        ≡ stage_wants stage w.glk.requests (inputs.File [])
    same (AtSelect m) = refl
    same (AtPrompt m) = refl
    same Quit = refl
    same (Fault n) = refl

opened-gives : (found : Option Story) (key : List ℕ) (story seed cols rows budget : ℕ)
    → input_given
    (opening_command found (λ digest. commands.Open key story digest seed cols rows budget))
    ≡ None
opened-gives None key story seed cols rows budget = refl
opened-gives (Some there) key story seed cols rows budget = refl

by_outline : (now : Option WorldState) (stories : List Story) (request : Request)
    → declines now (input_given (command_of stories request)) ≡ declines now (outline request)
by_outline None stories request = refl
by_outline (Some w) stories (Open s key story seed cols rows budget) =
    rw (opened-gives (story_at stories story) key story seed cols rows budget) refl
by_outline (Some w) stories (Line s key n win text term) = rw (wants-line w win text term) refl
by_outline (Some w) stories (Char s key n win code) = refl
by_outline (Some w) stories (File s key n name) = rw (wants-file w name) refl
by_outline (Some w) stories (Size s key n cols rows) = refl
by_outline (Some w) stories (Last s key) = refl
by_outline (Some w) stories (Close s key n) = refl
by_outline (Some w) stories (Watch s word from) = refl

-- the checks of a new request by the world
checks_in : (now : Option WorldState) (stories : List Story) (game : List Command)
    (request : Request)
    → is_fresh game request ≡ true
    → first_refusal (story_checks now stories game request) ≡ declines now (outline request)
checks_in now stories game request fresh = rw fresh (by_outline now stories request)

-- ---- the checks behind the plain ones

pub past_plain : (now : Option WorldState) (stories : List Story) (history game : List Command)
    (request : Request)
    → first_refusal (plain_checks stories game request) ≡ None
    → refusal_in now stories history game request
    ≡ first_refusal
    (story_checks now stories game request ++ (is_full history game request, no.Full) ∷ [])
unfolding refusal_in
past_plain now stories history game request none =
    first_of-append-none (plain_checks stories game request)
    (story_checks now stories game request ++ (is_full history game request, no.Full) ∷ []) none

pub stale-passes : (now : Option WorldState) (stories : List Story)
    (history game : List Command) (request : Request)
    → first_refusal (plain_checks stories game request) ≡ None
    → is_fresh game request ≡ false → refusal_in now stories history game request ≡ None
stale-passes now stories history game request none stale =
    past_plain now stories history game request none ∙ rw stale refl

pub declined : (now : Option WorldState) (stories : List Story) (history game : List Command)
    (request : Request) (why : No)
    → first_refusal (plain_checks stories game request) ≡ None
    → is_fresh game request ≡ true
    → declines now (outline request) ≡ Some why
    → Some why ≡ refusal_in now stories history game request
declined now stories history game request why none fresh e =
    refusal_in-story now stories history game request why none
    (checks_in now stories game request fresh ∙ e)

not_declined : (now : Option WorldState) (stories : List Story)
    (history game : List Command) (request : Request)
    → first_refusal (plain_checks stories game request) ≡ None
    → is_fresh game request ≡ true
    → declines now (outline request) ≡ None
    → refusal_in now stories history game request
    ≡ first_refusal ((is_full history game request, no.Full) ∷ [])
not_declined now stories history game request none fresh fits =
    past_plain now stories history game request none
    ∙ first_of-append-none (story_checks now stories game request)
    ((is_full history game request, no.Full) ∷ [])
    (checks_in now stories game request fresh ∙ fits)

pub full_refuses : (now : Option WorldState) (stories : List Story)
    (history game : List Command) (request : Request)
    → first_refusal (plain_checks stories game request) ≡ None
    → is_fresh game request ≡ true
    → declines now (outline request) ≡ None
    → 8192 ≤ length history
    → Some no.Full ≡ refusal_in now stories history game request
full_refuses now stories history game request none fresh fits le =
    let full : nat_le 8192 (length history) ≡ true = grind (arith, nat_tests, le) in
    rw (not_declined now stories history game request none fresh fits, fresh, full) refl

pub room_passes : (now : Option WorldState) (stories : List Story)
    (history game : List Command) (request : Request)
    → first_refusal (plain_checks stories game request) ≡ None
    → is_fresh game request ≡ true
    → declines now (outline request) ≡ None
    → length history < 8192
    → None ≡ refusal_in now stories history game request
room_passes now stories history game request none fresh fits lt =
    let room : nat_le 8192 (length history) ≡ false = grind (arith, nat_tests, lt) in
    rw (not_declined now stories history game request none fresh fits, fresh, room) refl

-- ---- a request that asks nothing of the story is refused alike in all worlds

declines-none : (now : Option WorldState) → declines now None ≡ None
declines-none None = refl
declines-none (Some w) = refl

none_left : {A : Type 0} → (o : Option A) → not (is_none o) ≡ false → o ≡ None
none_left None e = refl
none_left (Some x) e = absurd cc

pub unasked : (now other : Option WorldState) (stories : List Story)
    (history game : List Command) (request : Request)
    → (is_none (first_refusal (plain_checks stories game request))
    && (is_fresh game request && not (is_none (outline request)))) ≡ false
    → refusal_in now stories history game request ≡ refusal_in other stories history game request
unasked now other stories history game request free =
    by (first_refusal (plain_checks stories game request)) (is_fresh game request) refl refl free
  where
    given_none : (world : Option WorldState) → outline request ≡ None
        → declines world (outline request) ≡ None
    given_none world e = rw e (declines-none world)

    by : (plain : Option No) (fresh : Bool)
        → first_refusal (plain_checks stories game request) ≡ plain
        → is_fresh game request ≡ fresh
        → (is_none plain && (fresh && not (is_none (outline request)))) ≡ false
        → refusal_in now stories history game request
        ≡ refusal_in other stories history game request
    by (Some why) fresh e f free =
        sym (refusal_in-plain now stories history game request why e)
        ∙ refusal_in-plain other stories history game request why e
    by None false e f free =
        stale-passes now stories history game request e f
        ∙ sym (stale-passes other stories history game request e f)
    by None true e f free =
        let none = none_left (outline request) free in
        not_declined now stories history game request e f (given_none now none)
        ∙ sym (not_declined other stories history game request e f (given_none other none))

-- so where the story isn't asked no world is needed
pub refusal_of-unasked : (stories : List Story) (history game : List Command) (request : Request)
    → (is_none (first_refusal (plain_checks stories game request))
    && (is_fresh game request && not (is_none (outline request)))) ≡ false
    → refusal_in None stories history game request ≡ refusal_of stories history game request
unfolding refusal_of
refusal_of-unasked stories history game request free =
    unasked None (world_of stories game) stories history game request free

pub refusal_of-asked : (now : Option WorldState) (stories : List Story)
    (history game : List Command) (request : Request)
    → now ≡ world_of stories game
    → refusal_in now stories history game request ≡ refusal_of stories history game request
unfolding refusal_of
refusal_of-asked now stories history game request e = rw e refl

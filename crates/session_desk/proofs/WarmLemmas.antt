-- A desk may be warmed where a request finds it cold, and is warm once its command was run.
use Rattle.std.proofs.Common.{◌≡◌, ℕ, Bool, true, false, ◌&&◌, ◌==◌, not, nat_lt, cond, List, []}
use Rattle.std.proofs.Common.{◌∷◌, ◌++◌, Option, Some, None, is_none, refl, arith, ◌+◌}
use Rattle.std.proofs.lemmas.Bool.{and_parts}
use Rattle.std.proofs.lemmas.Bool.Decides.{nat_tests}
use Rattle.gate_journal.specs.declared.command.Command.{Command}
use Rattle.gate_journal.specs.declared.command.Command.TheVariants as commands
use Rattle.line_words.specs.declared.reply.No.{No}
use Rattle.line_words.specs.declared.request.Request.{Request}
use Rattle.line_words.specs.declared.request.Request.TheVariants.{Open, Line, Char, File, Size}
use Rattle.line_words.specs.declared.request.Request.TheVariants.{Last, Close, Watch}
use Rattle.story_run.specs.declared.setup.Setup.{Setup}
use Rattle.story_run.specs.declared.story.Story.{Story}
use Rattle.story_run.specs.World.{WorldState}
use Rattle.session_core.specs.History.{command_count, game_of, game_goes_on, is_in_use, last_of}
use Rattle.session_core.specs.History.{story_at, world_in, world_of}
use Rattle.session_core.specs.Checks.{is_changed, is_last, is_other_story}
use Rattle.session_core.specs.Answer.{accepted_by, first_refusal, plain_checks}
use Rattle.session_core.proofs.RepeatLemmas.{all_fail, game_of-append, game_of-append-open}
use Rattle.session_core.proofs.RepeatLemmas.{joined, last_of-joined}
use Rattle.session_desk.specs.declared.held.Held.{Held}
use Rattle.session_desk.specs.declared.held.Held.TheVariants.{Nothing, Current, Previous}
use Rattle.session_desk.specs.declared.verdict.Verdict.TheVariants.{Again, Cold}
use Rattle.session_desk.specs.Desk.{DeskState, aside, game, held_then, world_held, world_now}
use Rattle.session_desk.specs.Verdict.{is_to_story, lacks_world, needs_world, verdict}
use Rattle.session_desk.specs.Laws.{StaysWarm}
use Rattle.session_desk.proofs.AlikeLemmas.{IsReadyFor, ready, repeats}
use Rattle.session_desk.proofs.LawLemmas.{cold_alone}

-- ---- a desk that a request finds cold has its story

left_false : (x y : Bool) → (x && y) ≡ false → x ≡ true → y ≡ false
left_false true y e x = e
left_false false y e x = absurd cc

unchanged : (stories : List Story) (g : List Command) (request : Request)
    → first_refusal (plain_checks stories g request) ≡ None
    → is_to_story g request ≡ true
    → is_other_story stories g ≡ false
unchanged stories g request none asks =
    by request (all_fail (plain_checks stories g request) none).1.1.1.1.0 asks
  where
    by : (request : Request)
        → is_changed stories g request ≡ false → is_to_story g request ≡ true
        → is_other_story stories g ≡ false
    by (Open s key story seed cols rows budget) same asks =
        left_false (is_in_use g) (is_other_story stories g) same
        (and_parts (is_in_use g) true asks).0
    by (Line s key n win text term) same asks = same
    by (Char s key n win code) same asks = same
    by (File s key n name) same asks = same
    by (Size s key n cols rows) same asks = same
    by (Last s key) same asks = same
    by (Close s key n) same asks =
        absurd (let e = (and_parts (is_in_use g) false asks).1 in cc)
    by (Watch s word from) same asks = same

none_is : {A : Type 0} → (o : Option A) → is_none o ≡ true → o ≡ None
none_is None e = refl
none_is (Some x) e = absurd cc

may_warm : (desk : DeskState) (request : Request)
    → verdict desk request ≡ Cold
    → is_other_story desk.stories (game desk) ≡ false
may_warm desk request e =
    let lacks =
    and_parts (needs_world desk.stories (game desk) request) (is_none (world_now desk.held))
    ((cold_alone desk request).0 e) in
    let needs =
    and_parts (is_none (first_refusal (plain_checks desk.stories (game desk) request)))
    (is_to_story (game desk) request) lacks.0 in
    unchanged desk.stories (game desk) request
    (none_is (first_refusal (plain_checks desk.stories (game desk) request)) needs.0) needs.1

-- ---- once a command was run

-- a desk with this game isn't cold with this held
abbrev IsWarmWith : List Command → Held → Type 0
IsWarmWith g held = (is_in_use g && is_none (world_now held)) ≡ false

holds_world : (used : Bool) → (used && false) ≡ false
holds_world true = refl
holds_world false = refl

input_run : (stories : List Story) (history : List Command) (c : Command) (held : Held)
    → ((w : WorldState) → aside c (Current w) ≡ Previous w)
    → is_none (world_now held) ≡ false
    → IsWarmWith (game_of (history ++ c ∷ []))
    (held_then stories (game_of (history ++ c ∷ [])) (aside c held))
input_run stories history c Nothing sets held = absurd cc
input_run stories history c (Previous w) sets held = absurd cc
input_run stories history c (Current w) sets held =
    rw (sets w) (holds_world (is_in_use (game_of (history ++ c ∷ []))))

begun_run : (used : Bool) (now : Option WorldState)
    → is_none now ≡ false
    → (used && is_none (world_now (cond used (world_held now) Nothing))) ≡ false
begun_run true None some = absurd cc
begun_run true (Some w) some = refl
begun_run false now some = refl

found_world : (found : Option Story) (setup : Setup) (after : List Command)
    → is_none found ≡ false
    → is_none (world_in found setup after) ≡ false
found_world None setup after some = absurd cc
found_world (Some there) setup after some = refl

closed_free : (g : List Command) → is_in_use (joined g commands.Close) ≡ false
closed_free [] = refl
closed_free (d ∷ ds) = rw (last_of-joined d ds commands.Close) refl

after_run : (desk : DeskState) (c : Command) → IsReadyFor desk c
    → IsWarmWith (game_of (desk.commands ++ c ∷ []))
    (held_then desk.stories (game_of (desk.commands ++ c ∷ [])) (aside c desk.held))
after_run desk (commands.Open key story digest seed cols rows budget) ready =
    let c = commands.Open key story digest seed cols rows budget in
    rw (game_of-append-open desk.commands c refl)
    (begun_run true (world_of desk.stories (c ∷ []))
    (found_world (story_at desk.stories story)
    (record { seed = seed; cols = cols; rows = rows; budget = budget }) [] ready.1))
after_run desk commands.Close ready =
    rw (game_of-append desk.commands commands.Close refl) (rw (closed_free (game desk)) refl)
after_run desk (commands.Line win term text) ready =
    input_run desk.stories desk.commands (commands.Line win term text) desk.held (λ w. refl) ready.1
after_run desk (commands.Char win code) ready =
    input_run desk.stories desk.commands (commands.Char win code) desk.held (λ w. refl) ready.1
after_run desk (commands.File name) ready =
    input_run desk.stories desk.commands (commands.File name) desk.held (λ w. refl) ready.1
after_run desk (commands.Size cols rows) ready =
    input_run desk.stories desk.commands (commands.Size cols rows) desk.held (λ w. refl) ready.1

-- ---- where the last show is given again

last_closes : (o : Option Command) (s : ℕ) (key : List ℕ) (n : ℕ)
    → is_last o (Close s key n) ≡ true → game_goes_on o ≡ false
last_closes None s key n e = refl
last_closes (Some (commands.Open k story digest seed cols rows budget)) s key n e = absurd cc
last_closes (Some (commands.Line win term text)) s key n e = absurd cc
last_closes (Some (commands.Char win code)) s key n e = absurd cc
last_closes (Some (commands.File name)) s key n e = absurd cc
last_closes (Some (commands.Size cols rows)) s key n e = absurd cc
last_closes (Some commands.Close) s key n e = refl

not_taken : (fresh : Bool) (c : Command) → cond fresh (Some c) None ≡ None → fresh ≡ false
not_taken true c e = absurd cc
not_taken false c e = refl

left_true : (x y : Bool) → (x && not y) ≡ false → x ≡ true → y ≡ true
left_true true true e x = refl
left_true true false e x = absurd cc
left_true false y e x = absurd cc

the_last : (n c : ℕ)
    → nat_lt n c ≡ false → nat_lt (c + 1) n ≡ false
    → (n == c + 1) ≡ false → (n == c) ≡ true
the_last n c early ahead fresh = grind (arith, nat_tests, early, ahead, fresh)

-- a CLOSE that is given again has closed the session
pub closed_again : (stories : List Story) (g : List Command) (s : ℕ) (key : List ℕ) (n : ℕ)
    → first_refusal (plain_checks stories g (Close s key n)) ≡ None
    → accepted_by stories g (Close s key n) ≡ None → is_in_use g ≡ false
unfolding accepted_by
closed_again stories g s key n none accepted =
    let fails = all_fail (plain_checks stories g (Close s key n)) none in
    let fresh = not_taken (n == command_count g + 1) commands.Close accepted in
    let last = the_last n (command_count g) fails.1.1.1.1.1.0 fails.1.1.1.1.1.1.1.0 fresh in
    last_closes (last_of g) s key n
    (left_true (n == command_count g) (is_last (last_of g) (Close s key n)) fails.1.1.1.1.1.1.0
    last)

held_by : (checks : Option No) (used none : Bool)
    → checks ≡ None
    → ((is_none checks && (used && true)) && none) ≡ false
    → (used && none) ≡ false
held_by None true none e held = held
held_by None false none e held = refl
held_by (Some why) used none e held = absurd cc

after_again : (desk : DeskState) (request : Request)
    → verdict desk request ≡ Again
    → (is_in_use (game desk) && is_none (world_now desk.held)) ≡ false
after_again desk request e =
    let r = repeats desk request e in by request r.none r.accepted r.held
  where
    by : (request : Request)
        → first_refusal (plain_checks desk.stories (game desk) request) ≡ None
        → accepted_by desk.stories (game desk) request ≡ None → lacks_world desk request ≡ false
        → (is_in_use (game desk) && is_none (world_now desk.held)) ≡ false
    by (Open s key story seed cols rows budget) plain accepted held =
        held_by _ (is_in_use (game desk)) _ plain held
    by (Line s key n win text term) plain accepted held =
        held_by _ (is_in_use (game desk)) _ plain held
    by (Char s key n win code) plain accepted held =
        held_by _ (is_in_use (game desk)) _ plain held
    by (File s key n name) plain accepted held = held_by _ (is_in_use (game desk)) _ plain held
    by (Size s key n cols rows) plain accepted held =
        held_by _ (is_in_use (game desk)) _ plain held
    by (Last s key) plain accepted held = held_by _ (is_in_use (game desk)) _ plain held
    by (Close s key n) plain accepted held =
        rw (closed_again desk.stories (game desk) s key n plain accepted) refl
    by (Watch s word from) plain accepted held = held_by _ (is_in_use (game desk)) _ plain held

pub stays_warm : StaysWarm
stays_warm desk request = (
  λ e. may_warm desk request e,
  λ command e asked. after_run desk command (ready desk request command e asked),
  λ e. after_again desk request e,
)

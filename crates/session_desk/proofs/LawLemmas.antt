-- What a desk shows of a fresh request, and where it is cold.
use Rattle.std.proofs.Common.{◌≡◌, Bool, true, false, ◌&&◌, cond, List, [], ◌∷◌, ◌++◌, Option}
use Rattle.std.proofs.Common.{Some, None, is_none, refl, sym, ap, ◌∙◌}
use Rattle.std.proofs.lemmas.Bool.{and_from, and_parts}
use Rattle.gate_journal.specs.Rows.{is_open}
use Rattle.gate_journal.specs.declared.command.Command.{Command}
use Rattle.gate_journal.specs.declared.command.Command.TheVariants as commands
use Rattle.line_words.specs.declared.request.Request.{Request}
use Rattle.line_words.specs.declared.request.Request.TheVariants.{Open, Line, Char, File, Size}
use Rattle.line_words.specs.declared.request.Request.TheVariants.{Last, Close, Watch}
use Rattle.line_words.specs.declared.reply.No.{No}
use Rattle.story_run.specs.declared.story.Story.{Story}
use Rattle.story_run.specs.World.{WorldState}
use Rattle.session_core.specs.History.{game_of, input_of, is_in_use, last_of, turned_on, world_of}
use Rattle.session_core.specs.Checks.{input_given, is_fresh}
use Rattle.session_core.specs.Answer.{accepted_by, first_refusal, plain_checks, refusal_in}
use Rattle.session_core.specs.Answer.{show_in, show_while, show_with, shown_number, world_with}
use Rattle.session_core.proofs.RepeatLemmas.{answer_in-none, game_of-append, game_of-append-open}
use Rattle.session_core.proofs.RepeatLemmas.{joined, last_of-joined}
use Rattle.session_desk.specs.declared.verdict.Verdict.TheVariants.{Cold}
use Rattle.session_desk.specs.declared.held.Held.{Held}
use Rattle.session_desk.specs.declared.held.Held.TheVariants.{Nothing, Current, Previous}
use Rattle.session_desk.specs.Desk.{DeskState, aside, game, held_then, is_cold, world_held, show_at}
use Rattle.session_desk.specs.Desk.{world_now}
use Rattle.session_desk.specs.Verdict.{is_to_story, lacks_world, needs_world, verdict_by, verdict}
use Rattle.session_desk.specs.Laws.{ShowsFresh, IsColdAlone}
use Rattle.session_desk.proofs.AlikeLemmas.{accepts, IsReadyFor, ready, told-cold}

-- ---- a show of a new command

same_number : (g h : List Command) (request : Request)
    → is_fresh g request ≡ true
    → shown_number g request ≡ shown_number h request
same_number g h (Open s key story seed cols rows budget) f = refl
same_number g h (Line s key n win text term) f = refl
same_number g h (Char s key n win code) f = refl
same_number g h (File s key n name) f = refl
same_number g h (Size s key n cols rows) f = refl
same_number g h (Last s key) f = absurd cc
same_number g h (Close s key n) f = refl
same_number g h (Watch s word from) f = absurd cc

-- the session's game with a command more
abbrev behind : List Command → Command → List Command
behind history c = game_of (history ++ c ∷ [])

-- what the desk shows that has run the command is what the session shows with it
abbrev ShowsIt : List Story → List Command → Held → Command → Type 0
ShowsIt stories history held c =
    show_with stories history (world_now held) (Some c)
    ≡ show_at (behind history c) (world_now (held_then stories (behind history c) (aside c held)))

holding_it : (now : Option WorldState) → world_now (world_held now) ≡ now
holding_it None = refl
holding_it (Some w) = refl

joined_closed : (g : List Command) (now : Option WorldState) → is_in_use g ≡ true
    → show_while (is_in_use (joined g commands.Close)) None ≡ show_at (joined g commands.Close) now
joined_closed [] now used = absurd cc
joined_closed (d ∷ ds) now used = rw (last_of-joined d ds commands.Close) refl

joined_turned : (g : List Command) (c : Command) (w : WorldState) → is_in_use g ≡ true
    → show_while (is_in_use (joined g c)) (Some (turned_on w (input_of c)))
    ≡ show_at (joined g c) (Some (turned_on w (input_given (last_of (joined g c)))))
joined_turned [] c w used = absurd cc
joined_turned (d ∷ ds) c w used = rw (last_of-joined d ds c) refl

input_shown : (stories : List Story) (history : List Command) (held : Held) (c : Command)
    → is_open c ≡ false
    → ((w : WorldState) → aside c (Current w) ≡ Previous w)
    → ((w : WorldState) → world_with stories (Some w) c ≡ Some (turned_on w (input_of c)))
    → (is_in_use (game_of history) ≡ true) × (is_none (world_now held) ≡ false)
    → ShowsIt stories history held c
input_shown stories history Nothing c shut sets turns ready = absurd (let held = ready.1 in cc)
input_shown stories history (Previous w) c shut sets turns ready = absurd (let held = ready.1 in cc)
input_shown stories history (Current w) c shut sets turns ready =
    rw (sets w, turns w, game_of-append history c shut)
    (joined_turned (game_of history) c w ready.0)

shown_fresh : (desk : DeskState) (c : Command) → IsReadyFor desk c
    → ShowsIt desk.stories desk.commands desk.held c
shown_fresh desk (commands.Open key story digest seed cols rows budget) ready =
    let c = commands.Open key story digest seed cols rows budget in
    rw (game_of-append-open desk.commands c refl)
    (ap show_in (sym (holding_it (world_of desk.stories (c ∷ [])))))
shown_fresh desk commands.Close ready =
    rw (game_of-append desk.commands commands.Close refl) (joined_closed (game desk) _ ready)
shown_fresh desk (commands.Line win term text) ready =
    input_shown desk.stories desk.commands desk.held (commands.Line win term text) refl (λ w. refl)
    (λ w. refl) ready
shown_fresh desk (commands.Char win code) ready =
    input_shown desk.stories desk.commands desk.held (commands.Char win code) refl (λ w. refl)
    (λ w. refl) ready
shown_fresh desk (commands.File name) ready =
    input_shown desk.stories desk.commands desk.held (commands.File name) refl (λ w. refl)
    (λ w. refl) ready
shown_fresh desk (commands.Size cols rows) ready =
    input_shown desk.stories desk.commands desk.held (commands.Size cols rows) refl (λ w. refl)
    (λ w. refl) ready

pub shows_fresh : ShowsFresh
shows_fresh desk request e =
    let a = accepts desk request e in
    let shows =
    answer_in-none desk.stories desk.commands (world_now desk.held) request (Some a.command)
    a.told a.accepted in
    let number = same_number (game desk) (behind desk.commands a.command) request a.fresh in
    let shown = shown_fresh desk a.command (ready desk request a.command e a.asked) in
    (a.command, a.asked, shows ∙ rw (number, shown) refl)

-- ---- cold

cold_lacks : (lacks : Bool) (refusal : Option No) (accepted : Option Command)
    → cond lacks Cold (verdict_by refusal accepted) ≡ Cold
    → lacks ≡ true
cold_lacks true refusal accepted e = refl
cold_lacks false refusal accepted e = absurd (let x = told-cold refusal accepted e in cc)

pub cold_alone : IsColdAlone
cold_alone desk request = (
  λ e. cold_lacks (lacks_world desk request)
      (refusal_in (world_now desk.held) desk.stories desk.commands (game desk) request)
      (accepted_by desk.stories (game desk) request) e,
  λ lacks. rw lacks refl,
)

-- the desk is cold then
pub cold_told : (desk : DeskState) (request : Request)
    → verdict desk request ≡ Cold → is_cold desk ≡ true
cold_told desk request e =
    let lacks =
    and_parts (needs_world desk.stories (game desk) request) (is_none (world_now desk.held))
    ((cold_alone desk request).0 e) in
    let needs =
    and_parts (is_none (first_refusal (plain_checks desk.stories (game desk) request)))
    (is_to_story (game desk) request) lacks.0 in
    and_from (is_in_use (game desk)) _ (and_parts (is_in_use (game desk)) _ needs.1).0 lacks.1

-- one that holds a world isn't cold to any request
pub warm_tells : (desk : DeskState) (request : Request)
    → is_none (world_now desk.held) ≡ false
    → verdict desk request ≡ Cold → true ≡ false
warm_tells desk request held e =
    let lacks = (cold_alone desk request).0 e in
    none_lacks (needs_world desk.stories (game desk) request)
    (is_none (world_now desk.held)) lacks held
  where
    none_lacks : (needs none : Bool) → (needs && none) ≡ true → none ≡ false → true ≡ false
    none_lacks true none l h = absurd cc
    none_lacks false none l h = absurd cc

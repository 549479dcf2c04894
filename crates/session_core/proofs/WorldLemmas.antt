-- A session whose world is the one of its game.
use Rattle.std.proofs.Common.{◌≡◌, ℕ, Bool, true, false, List, [], ◌∷◌, ◌++◌, Option, Some, None}
use Rattle.std.proofs.Common.{refl, sym, ap, ◌∙◌}
use Rattle.gate_journal.specs.Rows.{is_open}
use Rattle.gate_journal.specs.declared.command.Command.{Command}
use Rattle.gate_journal.specs.declared.command.Command.TheVariants as commands
use Rattle.line_words.specs.declared.request.Request.{Request}
use Rattle.line_words.specs.declared.reply.No.{No}
use Rattle.line_words.specs.Request.{request_of}
use Rattle.story_run.specs.declared.setup.Setup.{Setup}
use Rattle.story_run.specs.declared.story.Story.{Story}
use Rattle.story_run.specs.World.{WorldState}
use Rattle.story_run.specs.Solo.{opening}
use Rattle.session_core.specs.declared.decision.Decision.{Decision}
use Rattle.session_core.specs.History.{game_of, input_of, is_in_use, story_at, world_in, world_of}
use Rattle.session_core.specs.Answer.{accepted_by, answer, answer_in, decided, history_extended}
use Rattle.session_core.specs.Answer.{refusal_in, refusal_of, game_show, show_while, show_with}
use Rattle.session_core.specs.Answer.{turned_in, world_then}
use Rattle.session_core.specs.Sessions.{with_budget}
use Rattle.session_core.specs.Turning.{commands_in, decided_by, decision_in, decision_on, turn_in}
use Rattle.session_core.specs.Turning.{turn_met, turn_of}
use Rattle.session_core.specs.Worlds.{AnswersAlike, DecidesAlike, TurnsAlike}
use Rattle.session_core.proofs.AnswerLemmas.{turned_by-more}
use Rattle.session_core.proofs.RepeatLemmas.{game_of-append, game_of-append-open, joined}
use Rattle.session_core.proofs.RepeatLemmas.{last_of-joined}

-- ---- the world with a command more

pub world_in-more : (story : Option Story) (setup : Setup) (cs : List Command) (c : Command)
    → turned_in (world_in story setup cs) (input_of c) ≡ world_in story setup (cs ++ c ∷ [])
world_in-more None setup cs c = refl
world_in-more (Some story) setup cs c =
    ap (λ (w : WorldState). Some w) (sym (turned_by-more (opening story.image setup) cs c))

-- that of a game that a command joins
pub world_of-joined : (stories : List Story) (g : List Command) (c : Command)
    → turned_in (world_of stories g) (input_of c) ≡ world_of stories (joined g c)
world_of-joined stories [] c = refl
world_of-joined stories (commands.Open key story digest seed cols rows budget ∷ cs) c =
    world_in-more (story_at stories story)
    (record { seed = seed; cols = cols; rows = rows; budget = budget }) cs c
world_of-joined stories (commands.Line win term text ∷ cs) c = refl
world_of-joined stories (commands.Char win code ∷ cs) c = refl
world_of-joined stories (commands.File name ∷ cs) c = refl
world_of-joined stories (commands.Size cols rows ∷ cs) c = refl
world_of-joined stories (commands.Close ∷ cs) c = refl

one_more : (stories : List Story) (history : List Command) (c : Command) → is_open c ≡ false
    → turned_in (world_of stories (game_of history)) (input_of c)
    ≡ world_of stories (game_of (history ++ c ∷ []))
one_more stories history c shut =
    world_of-joined stories (game_of history) c
    ∙ ap (world_of stories) (sym (game_of-append history c shut))

closed_ends : (g : List Command) → is_in_use (joined g commands.Close) ≡ false
closed_ends [] = refl
closed_ends (c ∷ cs) = rw (last_of-joined c cs commands.Close) refl

-- a session in use comes to the world of its game
pub world_then-game : (stories : List Story) (history : List Command) (accepted : Option Command)
    → is_in_use (game_of (history_extended history accepted)) ≡ true
    → world_then stories (world_of stories (game_of history)) accepted
    ≡ world_of stories (game_of (history_extended history accepted))
world_then-game stories history None used = refl
world_then-game stories history (Some (commands.Open key story digest seed cols rows budget)) used =
    ap (world_of stories)
    (sym (game_of-append-open history (commands.Open key story digest seed cols rows budget) refl))
world_then-game stories history (Some (commands.Line win term text)) used =
    one_more stories history (commands.Line win term text) refl
world_then-game stories history (Some (commands.Char win code)) used =
    one_more stories history (commands.Char win code) refl
world_then-game stories history (Some (commands.File name)) used =
    one_more stories history (commands.File name) refl
world_then-game stories history (Some (commands.Size cols rows)) used =
    one_more stories history (commands.Size cols rows) refl
world_then-game stories history (Some commands.Close) used =
    absurd (let e =
    ap is_in_use (game_of-append history commands.Close refl) ∙ closed_ends (game_of history) in
    cc)

-- ---- the same show, answer, decision and turn

same_while : (used : Bool) (x y : Option WorldState)
    → (used ≡ true → x ≡ y)
    → show_while used x ≡ show_while used y
same_while true x y e = ap (show_while true) (e refl)
same_while false x y e = refl

pub shows_alike : (stories : List Story) (history : List Command) (accepted : Option Command)
    → show_with stories history (world_of stories (game_of history)) accepted
    ≡ game_show stories (game_of (history_extended history accepted))
unfolding game_show
shows_alike stories history accepted =
    same_while (is_in_use (game_of (history_extended history accepted))) _ _
    (world_then-game stories history accepted)

decided-alike : (stories : List Story) (game : List Command) (f g : Option Command → List ℕ)
    (request : Request) (refusal : Option No)
    → f (accepted_by stories game request) ≡ g (accepted_by stories game request)
    → decided stories game f request refusal ≡ decided stories game g request refusal
decided-alike stories game f g request (Some why) e = refl
decided-alike stories game f g request None e = rw e refl

pub answers_alike : AnswersAlike
unfolding answer answer_in refusal_of
answers_alike stories history request =
    decided-alike stories (game_of history)
    (show_with stories history (world_of stories (game_of history)))
    (λ accepted. game_show stories (game_of (history_extended history accepted))) request
    (refusal_in (world_of stories (game_of history)) stories history (game_of history) request)
    (shows_alike stories history (accepted_by stories (game_of history) request))

decided_by-alike : (f g : Request → Decision) (line : List ℕ) (read : Option Request)
    → ((request : Request) → f request ≡ g request)
    → decided_by f line read ≡ decided_by g line read
decided_by-alike f g line (Some request) e = e request
decided_by-alike f g line None e = refl

pub decides_alike : DecidesAlike
unfolding decision_in decision_on
decides_alike stories budget history line =
    decided_by-alike (λ request.
    answer_in stories history (world_of stories (game_of history)) (with_budget budget request))
    (λ request. answer stories history (with_budget budget request)) line (request_of line)
    (λ request. answers_alike stories history (with_budget budget request))

pub turns_alike : TurnsAlike
unfolding turn_in turn_of
turns_alike stories budget history by line outcome =
    ap (λ (d : Decision). turn_met history by d.reply d.accepted outcome)
    (decides_alike stories budget (commands_in history) line)

-- What is said to a line, by whether it is a spectator's.
use Rattle.std.proofs.Common.{◌≡◌, ℕ, List, Option, Some, None, false, refl, ap}
use Rattle.gate_journal.specs.declared.command.Command.{Command}
use Rattle.line_words.specs.Request.{request_of}
use Rattle.line_words.specs.declared.request.Request.{Request}
use Rattle.line_words.specs.declared.request.Request.TheVariants.{Open, Line, Char, File, Size}
use Rattle.line_words.specs.declared.request.Request.TheVariants.{Last, Close, Watch}
use Rattle.story_run.specs.declared.story.Story.{Story}
use Rattle.story_run.specs.World.{WorldState}
use Rattle.session_core.specs.declared.decision.Decision.{Decision}
use Rattle.session_core.specs.declared.entry.Entry.{Entry}
use Rattle.session_core.specs.declared.entry.Outcome.{Outcome}
use Rattle.session_core.specs.Checks.{is_watch}
use Rattle.session_core.specs.History.{game_of, world_of}
use Rattle.session_core.specs.Turning.{AddsTo, commands_in, decision_on, turn_of}
use Rattle.session_core.proofs.TurningLemmas.{met_adds}
use Rattle.session_core.proofs.WorldLemmas.{decides_alike}
use Rattle.host_serve.specs.Said.{said_in, said_on, said_to, turn_by, turn_said_in, turn_said_on}

-- no spectator's request was read
abbrev pub IsPlayers : Option Request → Type 0
IsPlayers (Some request) = is_watch request ≡ false
IsPlayers None = Unit {0}

-- to a player what was decided
pub said_player : (stories : List Story) (commands : List Command) (decided : Decision)
    (read : Option Request)
    → IsPlayers read → said_to stories commands decided read ≡ decided
said_player stories commands decided None plays = refl
said_player stories commands decided (Some (Open s key story seed cols rows budget)) plays = refl
said_player stories commands decided (Some (Line s key n win text term)) plays = refl
said_player stories commands decided (Some (Char s key n win code)) plays = refl
said_player stories commands decided (Some (File s key n name)) plays = refl
said_player stories commands decided (Some (Size s key n cols rows)) plays = refl
said_player stories commands decided (Some (Last s key)) plays = refl
said_player stories commands decided (Some (Close s key n)) plays = refl
said_player stories commands decided (Some (Watch s word from)) plays = absurd cc

-- so the turn of a player's line is its session's
pub turn_player : (stories : List Story) (budget : ℕ) (h : List Entry) (by : ℕ) (line : List ℕ)
    (outcome : Outcome)
    → IsPlayers (request_of line)
    → turn_said_on stories budget h by line outcome ≡ turn_of stories budget h by line outcome
unfolding turn_said_on said_on turn_of
turn_player stories budget h by line outcome plays =
    ap (λ (d : Decision). turn_by h by d outcome)
    (said_player stories (commands_in h) (decision_on stories budget (commands_in h) line)
    (request_of line) plays)

-- whatever is said, a turn adds nothing, or one entry of its number
pub said_adds : (stories : List Story) (budget : ℕ) (h : List Entry) (now : Option WorldState)
    (by : ℕ) (line : List ℕ) (outcome : Outcome)
    → AddsTo h by (turn_said_in stories budget h now by line outcome).history
unfolding turn_said_in
said_adds stories budget h now by line outcome =
    met_adds h by (said_in stories budget (commands_in h) now line).reply
    (said_in stories budget (commands_in h) now line).accepted outcome

-- a session whose world is the one of its game says the same
pub says_alike : (stories : List Story) (budget : ℕ) (commands : List Command) (line : List ℕ)
    → said_in stories budget commands (world_of stories (game_of commands)) line
    ≡ said_on stories budget commands line
unfolding said_in said_on
says_alike stories budget commands line =
    ap (λ (d : Decision). said_to stories commands d (request_of line))
    (decides_alike stories budget commands line)

pub turns_said_alike : (stories : List Story) (budget : ℕ) (h : List Entry) (by : ℕ)
    (line : List ℕ) (outcome : Outcome)
    → turn_said_in stories budget h (world_of stories (game_of (commands_in h))) by line outcome
    ≡ turn_said_on stories budget h by line outcome
unfolding turn_said_in turn_said_on
turns_said_alike stories budget h by line outcome =
    ap (λ (d : Decision). turn_by h by d outcome)
    (says_alike stories budget (commands_in h) line)

-- Each show of a session is one that was written, or the line of a closed session.
use Rattle.std.proofs.Common.{ℕ, Bool, true, false, cond, List, [], ◌∷◌, Option, Some, None}
use Rattle.std.specs.List.{filter_map}
use Rattle.story_text.specs.declared.input.Input.{Input}
use Rattle.glk_dispatch.specs.Glk.{empty_screen}
use Rattle.glk_dispatch.specs.declared.glk.Glk.{Glk}
use Rattle.vm_exec.specs.Start.{started}
use Rattle.story_show.specs.Making as making
use Rattle.gate_journal.specs.declared.command.Command.{Command}
use Rattle.gate_journal.specs.declared.command.Command.TheVariants as commands
use Rattle.line_words.specs.Request.{request_of}
use Rattle.line_words.specs.declared.reply.No.{No}
use Rattle.line_words.specs.declared.reply.Reply.{Reply}
use Rattle.line_words.specs.declared.request.Request.{Request}
use Rattle.story_run.specs.Show.{ends_of}
use Rattle.story_run.specs.Solo.{rested, opening, is_wanted, world_after_turn}
use Rattle.story_run.specs.Solo.{world_after_input, turned_by, last_lines}
use Rattle.story_run.specs.Turn.{story_begun, turn_on}
use Rattle.story_run.specs.World.{WorldState}
use Rattle.story_run.specs.declared.setup.Setup.{Setup}
use Rattle.story_run.specs.declared.stage.Stage.{Stage}
use Rattle.story_run.specs.declared.stage.Stage.TheVariants.{AtSelect, AtPrompt, Quit, Fault}
use Rattle.story_run.specs.declared.story.Story.{Story}
use Rattle.session_core.specs.Answer.{show_in, game_show, show_while, refusal_of}
use Rattle.session_core.specs.Answer.{decided, history_extended, answer}
use Rattle.session_core.specs.History.{story_at, game_of, is_in_use, input_of, world_in, world_of}
use Rattle.session_core.specs.Sessions.{with_budget}
use Rattle.session_core.specs.Turning.{commands_in, decided_by, decision_on, turn_met, turn_of}
use Rattle.session_core.specs.declared.entry.Entry.{Entry}
use Rattle.session_core.specs.declared.entry.Outcome.{Outcome}
use Rattle.session_core.specs.declared.entry.Outcome.TheVariants.{Answered, DiskFailed, OutOfMemory}
use Rattle.session_core.specs.declared.entry.Outcome.TheVariants.{Forgotten}
use Rattle.reply_tally.specs.ShowLines.{AreShowLines, HasShowLines}
use Rattle.reply_tally.proofs.ShowLemmas.{are_none, text_lines, closed_lines}

-- ---- worlds

-- what a world shows is lines
abbrev HasLines : WorldState → Type 0
HasLines w = AreShowLines w.last

rested_lines : (image : List ℕ) (seed budget : ℕ) (x : Glk × Stage)
    → HasLines (rested image seed budget x)
rested_lines image seed budget x = text_lines (making.show_of x.0.windows (ends_of x.0 x.1))

opening_lines : (image : List ℕ) (setup : Setup) → HasLines (opening image setup)
unfolding opening
opening_lines image setup =
    rested_lines image setup.seed setup.budget
    (story_begun image setup.budget (empty_screen setup.cols setup.rows) (started image setup.seed))

answered_lines : (w : WorldState) (stage : Stage) (input : Input) → HasLines w
    → HasLines (world_after_turn w stage input)
answered_lines w (AtSelect m) input h =
    rested_lines w.image w.seed w.budget (turn_on w.image w.budget w.glk m input)
answered_lines w (AtPrompt m) input h =
    rested_lines w.image w.seed w.budget (turn_on w.image w.budget w.glk m input)
answered_lines w Quit input h = h
answered_lines w (Fault n) input h = h

turned_lines : (w : WorldState) (input : Input) → HasLines w → HasLines (world_after_input w input)
unfolding world_after_input
turned_lines w input h = either (is_wanted w input) where
  either : (wanted : Bool) → HasLines (cond wanted (world_after_turn w w.stage input) w)
  either true = answered_lines w w.stage input h
  either false = h

turned_by_lines : (w : WorldState) (inputs : List Input) → HasLines w
    → HasLines (turned_by w inputs)
turned_by_lines w [] h = h
turned_by_lines w (input ∷ inputs) h =
    turned_by_lines (world_after_input w input) inputs (turned_lines w input h)

-- ---- games

world_in_lines : (story : Option Story) (setup : Setup) (after : List Command)
    → AreShowLines (show_in (world_in story setup after))
unfolding last_lines
world_in_lines (Some story) setup after =
    turned_by_lines (opening story.image setup) (filter_map input_of after)
    (opening_lines story.image setup)
world_in_lines None setup after = are_none

world_of_lines : (stories : List Story) (game : List Command)
    → AreShowLines (show_in (world_of stories game))
world_of_lines stories [] = are_none
world_of_lines stories (commands.Open key story digest seed cols rows budget ∷ after) =
    world_in_lines (story_at stories story)
    (record { seed = seed; cols = cols; rows = rows; budget = budget }) after
world_of_lines stories (commands.Line win term text ∷ after) = are_none
world_of_lines stories (commands.Char win code ∷ after) = are_none
world_of_lines stories (commands.File name ∷ after) = are_none
world_of_lines stories (commands.Size cols rows ∷ after) = are_none
world_of_lines stories (commands.Close ∷ after) = are_none

show_lines : (stories : List Story) (game : List Command) → AreShowLines (game_show stories game)
unfolding game_show
show_lines stories game = either (is_in_use game) where
  either : (used : Bool) → AreShowLines (show_while used (world_of stories game))
  either true = world_of_lines stories game
  either false = closed_lines

-- ---- replies

decided_lines : (stories : List Story) (history : List Command) (request : Request)
    (refusal : Option No)
    → HasShowLines (decided stories (game_of history)
    (λ accepted. game_show stories (game_of (history_extended history accepted)))
    request refusal).reply
decided_lines stories history request (Some why) = tt
decided_lines stories history request None = show_lines stories _

answer_lines : (stories : List Story) (history : List Command) (request : Request)
    → HasShowLines (answer stories history request).reply
unfolding answer
answer_lines stories history request =
    decided_lines stories history request
    (refusal_of stories history (game_of history) request)

decision_lines : (stories : List Story) (budget : ℕ) (history : List Command) (line : List ℕ)
    → HasShowLines (decision_on stories budget history line).reply
unfolding decision_on
decision_lines stories budget history line = read (request_of line) where
  read : (request : Option Request)
      → HasShowLines (decided_by
      (λ request. answer stories history (with_budget budget request)) line request).reply
  read (Some request) = answer_lines stories history (with_budget budget request)
  read None = tt

met_lines : (history : List Entry) (by : ℕ) (reply : Reply) (accepted : Option Command)
    (outcome : Outcome) → HasShowLines reply
    → HasShowLines (turn_met history by reply accepted outcome).reply
met_lines history by reply None OutOfMemory h = tt
met_lines history by reply None Answered h = h
met_lines history by reply None (DiskFailed from to) h = h
met_lines history by reply None Forgotten h = h
met_lines history by reply (Some command) OutOfMemory h = tt
met_lines history by reply (Some command) Answered h = h
met_lines history by reply (Some command) (DiskFailed from to) h = tt
met_lines history by reply (Some command) Forgotten h = tt

pub turn_lines : (stories : List Story) (budget by : ℕ) (history : List Entry) (line : List ℕ)
    (outcome : Outcome)
    → HasShowLines (turn_of stories budget history by line outcome).reply
unfolding turn_of
turn_lines stories budget by history line outcome =
    let decision = decision_on stories budget (commands_in history) line in
    met_lines history by decision.reply decision.accepted outcome
    (decision_lines stories budget (commands_in history) line)

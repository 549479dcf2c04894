-- The shows that turns give, each with the commands that its session had then accepted (own).
use Rattle.std.specs.Prelude.{◌≡◌, ℕ, ◌<◌, List, [], ◌∷◌, ◌++◌, length}
use Rattle.turn_cell.specs.History.{Each}
use Rattle.gate_journal.specs.Rows.{commands_of}
use Rattle.gate_journal.specs.declared.command.Command.{Command}
use Rattle.gate_journal.specs.declared.row.Row.{Row}
use Rattle.line_words.specs.declared.reply.Reply.{Reply}
use Rattle.line_words.specs.declared.reply.Reply.TheVariants.{No, Seen, Show}
use Rattle.host_serve.specs.Alone.{histories_after, histories_met, turn_on_line}
use Rattle.session_core.specs.Hosts.{entries_of, session_on}
use Rattle.session_core.specs.Turning.{commands_in}
use Rattle.session_core.specs.declared.entry.Entry.{Entry}
use Rattle.session_core.specs.declared.entry.Outcome.{Outcome}
use Rattle.story_run.specs.declared.story.Story.{Story}
use Rattle.folder_runs.specs.Runs.{StandsInRows, Shown}

-- the show in a reply to this session, with these commands, if it is one
abbrev pub show_in_reply : ℕ → List Command → Reply → List Shown
show_in_reply s commands (Show t n show) =
    record { session = s; commands = commands; show = show } ∷ []
show_in_reply s commands (No why) = []
show_in_reply s commands (Seen t from to text) = []

-- the shows in the replies to lines, one after the other, by what their turns met
abbrev pub shows_met : List Story → ℕ → List (List Entry) → ℕ → List (List ℕ) → List Outcome
    → List Shown
shows_met stories budget histories by [] outcomes = []
shows_met stories budget histories by (line ∷ lines) [] = []
shows_met stories budget histories by (line ∷ lines) (outcome ∷ outcomes) =
    show_in_reply (session_on line)
    (commands_in (turn_on_line stories budget histories by line outcome).history)
    (turn_on_line stories budget histories by line outcome).reply
    ++ shows_met stories budget (histories_after stories budget histories by line outcome) by
    lines outcomes

-- Where rows have the commands of all sessions behind these lines, the shows are kept in them.
abbrev pub ShowsAreKept : Type 0
ShowsAreKept =
    (stories : List Story) (budget : ℕ) (by : ℕ) (lines : List (List ℕ)) (outcomes : List Outcome)
    (histories : List (List Entry)) (rows : List Row) → length histories ≡ 64
    → ((s : ℕ) → s < 64
    → commands_of rows s
    ≡ commands_in (entries_of (histories_met stories budget histories by lines outcomes) s))
    → Each (StandsInRows stories rows) (shows_met stories budget histories by lines outcomes)

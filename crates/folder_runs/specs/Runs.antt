-- Runs of a host on one folder, each on what a stop left of the one before (own).
use Rattle.std.specs.Prelude.{◌≡◌, ◌⊎◌, ℕ, List, [], ◌∷◌, ◌++◌, Option, IfSome}
use Rattle.std.specs.List.{Contains}
use Rattle.turn_cell.specs.History.{Each}
use Rattle.gate_journal.specs.Faults.{Explains, IsOfDisk}
use Rattle.gate_journal.specs.Log.{MayOpen, MaySpell}
use Rattle.gate_journal.specs.Rows.{IsJournal, SpellsRows, commands_of}
use Rattle.gate_journal.specs.declared.command.Command.{Command}
use Rattle.gate_journal.specs.declared.fault.JournalFault.{JournalFault}
use Rattle.gate_journal.specs.declared.row.Row.{Row}
use Rattle.session_core.specs.Answer.{game_show}
use Rattle.session_core.specs.History.{game_of}
use Rattle.story_run.specs.declared.story.Story.{Story}
use Rattle.folder_runs.specs.Folder.{AgreeWith, FolderImage, IsSoundFolder}

-- a show that a session was given, and the commands that it had accepted by then
pub record Shown : Type 0 where
  pub session : ℕ
  pub commands : List Command
  pub show : List ℕ

-- the show is the story's, run alone on these commands, and with them the session begins
pub record StandsInRows (stories : List Story) (rows : List Row) (one : Shown) : Type 0 where
  pub alone : one.show ≡ game_show stories (game_of one.commands)
  pub begins : (more : List Command) × (commands_of rows one.session ≡ one.commands ++ more)

-- One run up to a stop in it or after it: what the stop left, the shows that it had given by then,
-- and the sessions and commands whose append had begun and failed.
pub record Run : Type 0 where
  pub left : FolderImage
  pub shows : List Shown
  pub begun : List (ℕ × Command)

-- What a run does that `pipe` or `serve` make on a folder with these files.
pub record RunLeaves (stories : List Story) (given : FolderImage) (run : Run) : Type 0 where
  -- the rows that it finds, and those that its lines' turns add
  pub rows : List Row
  pub found : SpellsRows given.journal rows
  pub accepted : List Row
  pub journal : IsJournal (rows ++ accepted)
  -- a stop leaves these, or these and one row whose append had begun; and an opening may meet it
  pub one_more : Option Row
  pub owner : IfSome one_more (λ (r : Row). Contains run.begun (r.session, r.command))
  pub spells : MaySpell (rows ++ accepted) one_more run.left.journal
  pub opens : MayOpen (rows ++ accepted) run.left.journal
  -- of a sound folder: the snapshots still agree, and each show is kept
  pub agree : AgreeWith stories rows given.snaps → AgreeWith stories (rows ++ accepted) run.left.snaps
  pub shown : AgreeWith stories rows given.snaps → Each (StandsInRows stories (rows ++ accepted)) run.shows

-- A run that doesn't open the journal: it gives no show and puts no snapshot, and what an opening
-- may meet it may meet again.
pub record RunRefused (given : FolderImage) (run : Run) : Type 0 where
  pub silent : run.shows ≡ []
  pub opens :
      (rows : List Row) → IsJournal rows → MayOpen rows given.journal
      → MayOpen rows run.left.journal
  pub snaps : run.left.snaps ≡ given.snaps

-- runs one after the other
abbrev pub Follow : List Story → FolderImage → List Run → Type 0
Follow stories given [] = Unit {0}
Follow stories given (run ∷ runs) =
    (RunLeaves stories given run ⊎ RunRefused given run) × Follow stories run.left runs

-- what they leave in the end, and all shows that they gave
abbrev pub left_by : FolderImage → List Run → FolderImage
left_by given [] = given
left_by given (run ∷ runs) = left_by run.left runs

abbrev pub shows_of : List Run → List Shown
shows_of [] = []
shows_of (run ∷ runs) = run.shows ++ shows_of runs

-- A folder whose journal spells one list of rows, may be opened with these, and is refused for none
-- of its bytes; the snapshots agree with them, and these shows are kept in them.
pub record Keeps (stories : List Story) (folder : FolderImage) (shows : List Shown) : Type 0 where
  pub rows : List Row
  pub journal : IsJournal rows
  pub spells : SpellsRows folder.journal rows
  pub only : (others : List Row) → SpellsRows folder.journal others → others ≡ rows
  pub opens : MayOpen rows folder.journal
  pub never : (fault : JournalFault) → Explains folder.journal fault → IsOfDisk fault
  pub agree : AgreeWith stories rows folder.snaps
  pub kept : Each (StandsInRows stories rows) shows

-- Runs compose: from a sound folder any number of runs leaves such a one, with all their shows.
abbrev pub RunsCompose : Type 0
RunsCompose =
    (stories : List Story) (first : FolderImage) (runs : List Run) → IsSoundFolder stories first
    → Follow stories first runs → Keeps stories (left_by first runs) (shows_of runs)

-- The next run finds of each session the commands that this one found and accepted, in their order,
-- and at most one more, whose append had begun.
abbrev pub NextRunBegins : Type 0
NextRunBegins =
    (stories : List Story) (given : FolderImage) (run : Run) (r : RunLeaves stories given run)
    (next : List Row) → SpellsRows run.left.journal next → (s : ℕ)
    → (commands_of next s ≡ commands_of r.rows s ++ commands_of r.accepted s)
    ⊎ ((command : Command) × Contains run.begun (s, command)
    × (commands_of next s
    ≡ commands_of r.rows s ++ commands_of r.accepted s ++ command ∷ []))

-- So they begin with the commands of each show that the run gave on a sound folder.
abbrev pub NextRunGoesOn : Type 0
NextRunGoesOn =
    (stories : List Story) (given : FolderImage) (run : Run) (r : RunLeaves stories given run)
    (next : List Row) → SpellsRows run.left.journal next → AgreeWith stories r.rows given.snaps
    → Each (StandsInRows stories next) run.shows

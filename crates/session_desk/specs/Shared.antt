-- A desk of a host that many share: its history, and its pass of the journal (own).
use Rattle.std.specs.Prelude.{◌≡◌, ℕ, ◌+◌, List, [], ◌∷◌, ◌++◌, length, map, Option, Some}
use Rattle.std.specs.Prelude.{Result, Ok, Err}
use Rattle.atomic_table.specs.Seated.{TableId}
use Rattle.disk_model.specs.Disk.{Rose}
use Rattle.turn_cell.specs.declared.pass.Pass.{Pass}
use Rattle.turn_cell.specs.History.{Continues, IsForeign}
use Rattle.turn_cell.specs.Passes.{pass_numbers, IsOutside, pass_number, seen}
use Rattle.gate_journal.specs.Log.{Log, rows_kept, entry_number, rows_of}
use Rattle.gate_journal.specs.Rows.{commands_of}
use Rattle.gate_journal.specs.declared.command.Command.{Command}
use Rattle.gate_journal.specs.declared.row.Row.{Row}
use Rattle.gate_journal.specs.declared.entry.Entry.{Entry as JournalEntry}
use Rattle.line_words.specs.declared.reply.No.TheVariants as no
use Rattle.line_words.specs.declared.reply.Reply.TheVariants as replies
use Rattle.line_words.specs.declared.request.Request.{Request}
use Rattle.story_run.specs.declared.story.Story.{Story}
use Rattle.session_core.specs.declared.entry.Entry.{Entry}
use Rattle.session_core.specs.declared.entry.Entry.TheVariants as entries
use Rattle.session_core.specs.declared.entry.Outcome.{Outcome}
use Rattle.session_core.specs.declared.entry.Outcome.TheVariants.{Answered, DiskFailed, OutOfMemory}
use Rattle.snap_store.specs.Store.{Snapshots}
use Rattle.session_core.specs.Checks.{command_of}
use Rattle.session_core.specs.Turning.{commands_in, MayMeet, turn_met}
use Rattle.session_core.specs.declared.decision.Decision.{Decision}
use Rattle.session_saves.specs.Saves as saves
use Rattle.session_saves.specs.Saves.{SavesState}
use Rattle.session_desk.specs.declared.refused.Refused.{Refused}
use Rattle.session_desk.specs.declared.refused.Refused.TheVariants.{DiskFault, NoMemory}
use Rattle.session_desk.specs.declared.turned.Turned.{Turned}
use Rattle.session_desk.specs.declared.desk.mark.Mark.{Mark}
use Rattle.session_desk.specs.Desk.{DeskState, committed, cold_desk}
use Rattle.session_desk.specs.Marks.{count_commands, commands_woven}
use Rattle.session_desk.specs.Turn.{entries_added, history_in, IsSameDesk}

-- the entry with 0 in the place of its pass's number, as `history_in` gives it
abbrev pub unnumbered : Entry → Entry
unnumbered (entries.Accepted by command) = entries.Accepted 0 command
unnumbered (entries.Faulted by from to) = entries.Faulted 0 from to

-- A desk, its session's history, oldest first, its pass of the journal's cell, and its snapshots;
-- and the store of these and the journal's rows as the desk was opened.
pub record SharedState (D : Type 0) : Type 0 where
  pub desk : DeskState
  pub history : List Entry
  pub pass : Pass (Log D) JournalEntry
  pub saves : SavesState D
  pub store : Snapshots D
  pub rows : List Row

-- a desk with the rows of its session that holds no world and missed no snapshot
abbrev pub as_opened :
    {D : Type 0}
    → ℕ → List Story → ℕ → List Row → Pass (Log D) JournalEntry → Snapshots D
    → SharedState D
as_opened session stories budget rows pass store = record {
  desk = cold_desk session stories budget (commands_of rows session);
  history = history_in (rows_kept rows) session;
  pass = pass;
  saves = saves.saves_of_opened_store store;
  store = store;
  rows = rows;
}

-- the pass of a session's desk is in no turn; its number is the session's and 1, and it holds no
-- other
pub record IsPassOf {D : Type 0} (s : ℕ) (pass : Pass (Log D) JournalEntry) : Type 0 where
  pub outside : IsOutside pass
  pub numbered : pass_number pass ≡ s + 1
  pub only : pass_numbers pass ≡ (s + 1) ∷ []

-- What holds of each such desk: its commands are those of its history, and its history is the one
-- of its session in what its pass has seen of the journal, entry for entry, but for who made them.
pub record IsShared {D : Type 0} (state : SharedState D) : Type 0 where
  pub pass : IsPassOf state.desk.session state.pass
  pub commands : commands_in state.history ≡ state.desk.commands
  pub entries : map unnumbered state.history ≡ history_in (seen state.pass) state.desk.session

-- what holds of the marks of each: with the commands they are its history
pub record IsMarked
    {D : Type 0}
    (marks : List Mark)
    (desk : DeskState)
    (pass : Pass (Log D) JournalEntry) : Type 0 where
  pub counted : count_commands marks ≡ length desk.commands
  pub of_session : IsPassOf desk.session pass
  pub commands : commands_in (commands_woven marks desk.commands) ≡ desk.commands
  pub entries :
      map unnumbered (commands_woven marks desk.commands) ≡ history_in (seen pass) desk.session

-- what never changes of such a desk: its session, stories and budget, the journal's cell, and the
-- store and the journal's rows as it was opened
pub record DeskTag (D : Type 0) : Type 0 where
  pub session : ℕ
  pub stories : List Story
  pub budget : ℕ
  pub cell : TableId
  pub store : Snapshots D
  pub rows : List Row

abbrev pub desk_tag : {D : Type 0} → SharedState D → DeskTag D
desk_tag state = record {
  session = state.desk.session;
  stories = state.desk.stories;
  budget = state.desk.budget;
  cell = state.pass.known.place.table_id;
  store = state.store;
  rows = state.rows;
}

-- nothing changes but the world that is held and the snapshots
pub record Rests {D : Type 0} (old new : SharedState D) : Type 0 where
  pub desk : IsSameDesk old.desk new.desk
  pub history : new.history ≡ old.history
  pub pass : new.pass ≡ old.pass
  pub tag : desk_tag new ≡ desk_tag old

-- A journal goes on from what a session's pass had seen: other sessions' entries came, and then
-- what the session's turn added.
pub record GoesOn
    (s : ℕ)
    (accepted : Option Command)
    (outcome : Outcome)
    (old new : List JournalEntry) : Type 0 where
  pub before : List JournalEntry
  pub since : Continues (IsForeign entry_number ((s + 1) ∷ [])) before old
  pub adds : new ≡ before ++ entries_added (rows_of before) s accepted outcome

-- the history behind a turn that accepts this command, if any, by what it met, whatever its reply
abbrev pub history_met : List Entry → ℕ → Option Command → Outcome → List Entry
history_met history by accepted outcome =
    (turn_met history by (replies.No no.NoMemory) accepted outcome).history

-- The turn of a session, which decides so on a request, by what it met: its reply, and the history
-- behind it.
pub record TurnsTo
    (decision : Decision)
    (by : ℕ)
    (old : List Entry)
    (turned : Turned)
    (new : List Entry) : Type 0 where
  pub met : MayMeet decision.accepted turned.outcome
  pub reply :
      turned.reply
      ≡ (turn_met old by decision.reply decision.accepted turned.outcome).reply
  pub history :
      new ≡ (turn_met old by decision.reply decision.accepted turned.outcome).history

-- what a commit met
abbrev pub met_by : {T : Type 0} → Result T Refused → Outcome
met_by (Ok x) = Answered
met_by (Err (DiskFault fault)) = DiskFailed fault.from fault.to
met_by (Err NoMemory) = OutOfMemory

-- where the disk failed its count rose
abbrev pub HasRisen : Refused → Type 0
HasRisen (DiskFault fault) = Rose fault.from fault.to
HasRisen NoMemory = Unit {0}

-- what a commit gave, without the place of the row
abbrev pub unplaced : Result ℕ Refused → Result (Unit {0}) Refused
unplaced (Ok place) = Ok tt
unplaced (Err why) = Err why

-- the desk has taken the command that the request asks for, and the history its entry, made by the
-- pass of this number
pub record TakesEntry
    {D : Type 0}
    (request : Request)
    (by : ℕ)
    (old new : SharedState D) : Type 0 where
  pub command : Command
  pub asked : command_of old.desk.stories request ≡ Some command
  pub taken : new.desk ≡ committed old.desk command
  pub entry : new.history ≡ old.history ++ entries.Accepted by command ∷ []

-- what a refusal leaves of the history: the disk's fault as an entry, or all as before
abbrev pub LeavesHistory : ℕ → List Entry → List Entry → Refused → Type 0
LeavesHistory by old new (DiskFault fault) =
    new ≡ old ++ entries.Faulted by fault.from fault.to ∷ []
LeavesHistory by old new NoMemory = new ≡ old

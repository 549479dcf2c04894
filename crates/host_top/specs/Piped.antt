-- What `pipe` leaves of the disks of a folder, of its input and of its output (own).
use Rattle.std.specs.Prelude.{◌≡◌, ◌⊎◌, ℕ, ◌+◌, ◌^◌, ◌<◌, ◌≤◌, max, IsTrue, List, [], ◌∷◌, length}
use Rattle.std.specs.Prelude.{Option, map, slice_set, ◌++◌, Some, slice_get}
use Rattle.std.specs.List.{AllZip}
use Rattle.disk_model.specs.Work.{EachImage, LeavesOnly, OnlyLooks}
use Rattle.gate_journal.specs.declared.entry.Entry.{Entry as JournalEntry}
use Rattle.gate_journal.specs.declared.row.Row.{Row}
use Rattle.gate_journal.specs.declared.fault.JournalFault.{JournalFault}
use Rattle.gate_journal.specs.Faults.{HasCause, Explains, IsNoFault}
use Rattle.gate_journal.specs.Log.{IsBetween, MayOpen, MaySpell, ReachesGate, Rises, rows_of}
use Rattle.gate_journal.specs.Rows.{SpellsRows, IsJournal, commands_of, journal_bytes}
use Rattle.host_serve.specs.Ending.{AreAgreedDisks}
use Rattle.host_serve.specs.Opening.{AreAgreed, histories_in_rows}
use Rattle.host_serve.specs.Serves.{AnsweredLine}
use Rattle.host_serve.specs.Told.{WritesReplies}
use Rattle.line_talk.specs.declared.ended.Ended.{Ended}
use Rattle.host_serve.specs.Alone.{AreMet, histories_met, replies_met}
use Rattle.host_serve.specs.Said.{said_in, turn_said_in}
use Rattle.session_core.specs.Hosts.{entries_of, session_on}
use Rattle.session_core.specs.Turning.{MayMeet, Turned, commands_in}
use Rattle.session_core.specs.declared.decision.Decision.{Decision}
use Rattle.session_core.specs.declared.entry.Entry.{Entry}
use Rattle.session_desk.specs.Turn.{history_in}
use Rattle.session_saves.specs.Agreement.{AgreesWithBeginning, last_row, opens_of}
use Rattle.session_saves.specs.Saves.{HasOpenSince}
use Rattle.story_run.specs.declared.story.Story.{Story}
use Rattle.disk_model.specs.declared.disk.Disk.{Ghosts as DiskWords}
use Rattle.host_top.specs.Folder.{LetsGo, StoreFails}
use Rattle.host_top.specs.declared.folder.Back.{Back}
use Rattle.host_top.specs.declared.folder.Back.TheVariants.{All, Journal, Snap, Nothing}
use Rattle.host_top.specs.JournalBack.{JournalBack}
use Rattle.host_top.specs.Said.{SaysFault}
use Rattle.host_top.specs.Status.{status_of_end}
use Rattle.line_talk.specs.Streams.{SourceState, SinkState, Gave, Wrote}
use Rattle.line_talk.specs.Talked.{AnsweredOf}
use Rattle.host_top.specs.declared.status.Status.{Status}

-- the rows have each session's commands
abbrev pub HaveCommands : List Row → List (List Entry) → Type 0
HaveCommands rows histories =
    (s : ℕ) → s < 64 → commands_of rows s ≡ commands_in (entries_of histories s)

-- a journal has each session's entries, and no others
abbrev pub HasEntries : List JournalEntry → List (List Entry) → Type 0
HasEntries journal histories =
    (s : ℕ) → s < 64 → history_in journal s ≡ entries_of histories s

-- the turn of an answered line on the history of the session that it names, in the world that the
-- host held of that session
abbrev pub turn_held : List Story → ℕ → List (List Entry) → AnsweredLine → Turned
turn_held stories budget histories t =
    turn_said_in stories budget (entries_of histories (session_on t.line)) t.world 0 t.line
    t.outcome

-- and what the session says to it
abbrev pub decision_held : List Story → ℕ → List (List Entry) → AnsweredLine → Decision
decision_held stories budget histories t =
    said_in stories budget (commands_in (entries_of histories (session_on t.line))) t.world t.line

-- the turns of lines, one after the other, lead from these histories to those
abbrev pub Lead : List Story → ℕ → List (List Entry) → List AnsweredLine → List (List Entry)
    → Type 0
Lead stories budget histories [] after = after ≡ histories
Lead stories budget histories (t ∷ turns) after =
    MayMeet (decision_held stories budget histories t).accepted t.outcome
    × (t.reply ≡ (turn_held stories budget histories t).reply)
    × Lead stories budget
    (slice_set histories (session_on t.line) (turn_held stories budget histories t).history) turns
    after

-- the same turns by each session's own world
pub record LeadAlone (stories : List Story) (budget : ℕ) (histories : List (List Entry))
    (turns : List AnsweredLine) (after : List (List Entry)) : Type 0 where
  pub met :
      AreMet stories budget histories 0 (map (λ (t : AnsweredLine). t.line) turns)
      (map (λ (t : AnsweredLine). t.outcome) turns)
  pub replies :
      map (λ (t : AnsweredLine). t.reply) turns
      ≡ replies_met stories budget histories 0 (map (λ (t : AnsweredLine). t.line) turns)
      (map (λ (t : AnsweredLine). t.outcome) turns)
  pub accepted :
      after ≡ histories_met stories budget histories 0 (map (λ (t : AnsweredLine). t.line) turns)
      (map (λ (t : AnsweredLine). t.outcome) turns)

-- the disk of a store comes back: it isn't written past the end of area B
pub record IsStoreBack {D : Type 0} (disks : DiskWords D) (given back : D) : Type 0 where
  pub counts : disks.faults given ≤ disks.faults back
  pub reaches : disks.reach back ≤ max (disks.reach given) 16781344

-- A session's snapshot file, from the disk handed in to the one handed back. Each image that a stop
-- may leave since then agrees with the first of the rows put back. While no OPEN of the session
-- comes, an open area of its last game is never lost.
pub record StaysSound {D : Type 0} (disks : DiskWords D) (stories : List Story)
    (rows after : List Row) (s : ℕ) (given back : D) : Type 0 where
  pub agreed :
      LeavesOnly disks given back (AgreesWithBeginning stories after s)
  pub newest :
      opens_of after s ≡ opens_of rows s
      → (place least : ℕ) → last_row (opens_of after s) ≡ Some place
      → EachImage disks given (HasOpenSince place least)
      → LeavesOnly disks given back (HasOpenSince place least)

-- The disks of all stores come back. Where they were sound, each image of them agrees with the rows
-- of the journal put back; and where each image handed in agreed, the files stay sound meanwhile.
pub record StoresBack {D : Type 0} (disks : DiskWords D) (stories : List Story)
    (rows after : List Row) (givens backs : List D) : Type 0 where
  pub each : AllZip (IsStoreBack disks) givens backs
  pub agreed :
      AreAgreed disks stories rows givens → AreAgreedDisks disks stories after backs
  pub meanwhile :
      AreAgreed disks stories rows givens → AreAgreedDisks disks stories rows givens
      → (s : ℕ) (given back : D) → slice_get givens s ≡ Some given → slice_get backs s ≡ Some back
      → StaysSound disks stories rows after s given back

-- The lines that were answered, from the sessions of the journal handed in, each by what its turn
-- met; what was written; and what a stop leaves of the disks handed back.
pub record Conversed {D : Type 0} (disks : DiskWords D) (stories : List Story) (budget : ℕ)
    (given : D) (givens : List D) (back : D) (backs : List D) (input now : SourceState)
    (output new : SinkState) (served : Ended) : Type 0 where
  pub rows : List Row
  pub handed_in : IsTrue (disks.tells given) → SpellsRows (disks.seen given) rows
  pub read : List ℕ
  pub turns : List AnsweredLine
  pub written : List ℕ
  pub gave : Gave input now read
  pub within : length read ≤ 2 ^ 31
  pub which : AnsweredOf served read now (map (λ (t : AnsweredLine). t.line) turns)
  pub wrote : Wrote output new written
  pub writes : WritesReplies served written (map (λ (t : AnsweredLine). t.reply) turns)
  -- each line's turn is made in the world that the host held of its session; where the stores
  -- handed in are sound, this is the session's own
  pub histories : List (List Entry)
  pub led : Lead stories budget (histories_in_rows rows) turns histories
  pub sound :
      AreAgreed disks stories rows givens
      → LeadAlone stories budget (histories_in_rows rows) turns histories
  -- the journal afterwards has the commands that the sessions accepted, and the faults that replies
  -- told, each session's in their order; the counts of the faults rise, from the disk's as it was
  -- handed in to the disk's as it was handed back
  pub journal : List JournalEntry
  pub entries : HasEntries journal histories
  pub faults : Rises (disks.faults given) journal (disks.faults back)
  pub accepted : HaveCommands (rows_of journal) histories
  -- its rows are those handed in, and more behind them
  pub more : List Row
  pub grows : rows_of journal ≡ rows ++ more
  -- each image spells these rows, or these and the one row whose gate is uncertain
  pub uncertain : Option Row
  pub images :
      EachImage disks back (MaySpell (rows_of journal) uncertain)
  pub left : JournalBack disks rows journal uncertain back
  -- meanwhile an image is one that the opening may meet, or spells the rows handed in and the first
  -- of those that were accepted since, or these and one row more
  pub meanwhile :
      (start : List Row) → IsJournal start
      → EachImage disks given (MayOpen start) → IsTrue (disks.tells given)
      → LeavesOnly disks given back (λ c. MayOpen start c ⊎ IsBetween rows (rows_of journal) c)
  -- nothing is written farther behind the closing gate than the longest row reaches
  pub reaches :
      disks.reach back ≤ max (disks.reach given) (length (journal_bytes (rows_of journal)) + 4110)
  pub stores : StoresBack disks stories rows (rows_of journal) givens backs

-- The journal isn't opened: no line is read, and what an opening may meet it may meet again.
pub record NotOpened {D : Type 0} (disks : DiskWords D) (given back : D)
    (input now : SourceState) (output new : SinkState) (status : Status) : Type 0 where
  pub fault : JournalFault
  pub explains : IsTrue (disks.tells given) → Explains (disks.seen given) fault
  pub cause : HasCause (disks.faults given) (disks.faults back) fault
  -- unless the disk failed it was only looked at
  pub looked :
      IsNoFault fault
      → OnlyLooks disks given back
      × (IsTrue (disks.tells given) → disks.seen back ≡ disks.seen given)
  pub gave : Gave input now []
  pub says : SaysFault fault output new status
  pub images :
      (rows : List Row) → IsJournal rows
      → EachImage disks given (MayOpen rows) → EachImage disks back (MayOpen rows)
  pub meanwhile :
      (rows : List Row) → IsJournal rows
      → EachImage disks given (MayOpen rows) → IsTrue (disks.tells given)
      → LeavesOnly disks given back (MayOpen rows)
  pub reaches :
      IsTrue (disks.tells given)
      → ReachesGate (disks.seen given) (disks.reach given) (disks.reach back)

-- a host served with the disks of a folder, or one of them is refused, or all are let go
abbrev pub HostedOver : {D : Type 0} → (D → List D → Type 0) → DiskWords D → D → List D
    → Back D → SourceState → SourceState → SinkState → SinkState → Status → Type 0
HostedOver Hosts disks given givens (All journal snaps) input now output new status =
    Hosts journal snaps.items
HostedOver Hosts disks given givens (Journal journal) input now output new status =
    NotOpened disks given journal input now output new status
HostedOver Hosts disks given givens (Snap session snap) input now output new status =
    StoreFails disks givens session snap input now output new status
HostedOver Hosts disks given givens Nothing input now output new status =
    LetsGo input now output new status

-- the same for `pipe`
abbrev pub PipesOver : {D : Type 0} → DiskWords D → List Story → ℕ → D → List D → Back D
    → SourceState → SourceState → SinkState → SinkState → Status → Type 0
PipesOver disks stories budget given givens back input now output new status =
    HostedOver (λ journal snaps. (served : Ended) × (status ≡ status_of_end served)
    × Conversed disks stories budget given givens journal snaps input now output new served)
    disks given givens back input now output new status

-- What `serve` leaves of the disks of a folder, of its output and of its door (own).
use Rattle.std.specs.Prelude.{◌≡◌, ◌⊎◌, ℕ, ◌+◌, ◌≤◌, max, IsTrue, List, [], ◌++◌, length, Option}
use Rattle.disk_model.specs.Work.{EachImage, LeavesOnly}
use Rattle.gate_journal.specs.declared.entry.Entry.{Entry as JournalEntry}
use Rattle.gate_journal.specs.declared.row.Row.{Row}
use Rattle.gate_journal.specs.Log.{IsBetween, MayOpen, MaySpell, Rises, rows_of}
use Rattle.gate_journal.specs.Rows.{SpellsRows, IsJournal, journal_bytes}
use Rattle.line_talk.specs.Causes.{Rose}
use Rattle.story_run.specs.declared.story.Story.{Story}
use Rattle.line_talk.specs.Streams.{SourceState, SinkState, Gave, Wrote}
use Rattle.disk_model.specs.declared.disk.Disk.{Ghosts as DiskWords}
use Rattle.host_top.specs.DoorServed.{OfDoor}
use Rattle.host_top.specs.Files.{OutsideState, Told, after_call, after_one}
use Rattle.host_top.specs.JournalBack.{JournalBack}
use Rattle.host_top.specs.Piped.{HostedOver, StoresBack}
use Rattle.host_top.specs.Served.{BeginsRefusal, RefusesJournal}
use Rattle.host_top.specs.declared.door_call.DoorCall.{DoorCall}
use Rattle.host_top.specs.declared.folder.Back.{Back}
use Rattle.host_top.specs.declared.status.Status.{Status}
use Rattle.host_top.specs.declared.status.Status.TheVariants as ends

-- The links of a door were served by so many workers until it was shut, or the door failed, or
-- memory was wanted first; and what a stop leaves of the disks handed back.
pub record LinksServed {D : Type 0} (disks : DiskWords D) (Serves : OfDoor D)
    (stories : List Story) (budget workers : ℕ) (given : D) (givens : List D) (back : D)
    (backs : List D) (input now : SourceState) (output new : SinkState) (status : Status)
    : Type 0 where
  pub how : (status ≡ ends.Done) ⊎ (status ≡ ends.DoorFault) ⊎ (status ≡ ends.NoMemory)
  pub gave : Gave input now []
  pub wrote : Wrote output new []
  pub rows : List Row
  pub handed_in : IsTrue (disks.tells given) → SpellsRows (disks.seen given) rows
  -- the journal afterwards has these rows, and more behind them, so each session's commands begin
  -- with those handed in; the counts of the faults rise, from the disk's as it was handed in to the
  -- disk's as it was handed back
  pub journal : List JournalEntry
  pub served : Serves status stories budget workers rows givens journal
  pub more : List Row
  pub grows : rows_of journal ≡ rows ++ more
  -- where memory was wanted there is no row more
  pub idle : status ≡ ends.NoMemory → more ≡ []
  pub faults : Rises (disks.faults given) journal (disks.faults back)
  -- each image spells these rows, or these and the one row whose gate is uncertain
  pub uncertain : Option Row
  pub images :
      EachImage disks back (MaySpell (rows_of journal) uncertain)
  pub left : JournalBack disks rows journal uncertain back
  -- meanwhile an image is one that the opening may meet, or spells the rows handed in and the first
  -- of those that were accepted since, or these and one row more
  pub meanwhile :
      (start : List Row) → IsJournal start
      → EachImage disks given (MayOpen start) → IsTrue (disks.tells given)
      → LeavesOnly disks given back (λ c. MayOpen start c ⊎ IsBetween rows (rows_of journal) c)
  -- nothing is written farther behind the closing gate than the longest row reaches
  pub reaches :
      disks.reach back ≤ max (disks.reach given) (length (journal_bytes (rows_of journal)) + 4110)
  pub stores : StoresBack disks stories rows (rows_of journal) givens backs

-- the links were served, or a disk of the folder is refused, or all are let go
abbrev pub ServesOver : {D : Type 0} → DiskWords D → OfDoor D → List Story → ℕ → ℕ → D → List D
    → Back D → SourceState → SourceState → SinkState → SinkState → Status → Type 0
ServesOver disks Serves stories budget workers given givens back input now output new status =
    HostedOver (λ journal snaps.
    LinksServed disks Serves stories budget workers given givens journal snaps input now output new
    status)
    disks given givens back input now output new status

-- What becomes of doors, by the exit status: one more was shut where the command is done, and else
-- none; a door, or the call that gives it, failed where the status says so. With these two statuses
-- one call for a door was made, this one, and else none.
pub record DoorsBy {D : Type 0} (call : DoorCall) (outside beyond : OutsideState D)
    (status : Status) : Type 0 where
  pub done : status ≡ ends.Done → beyond.shut ≡ after_one outside.shut
  pub not_done : (status ≡ ends.Done → ⊥) → beyond.shut ≡ outside.shut
  pub fault : status ≡ ends.DoorFault → Rose outside.door_faults beyond.door_faults
  pub asked : (status ≡ ends.Done) ⊎ (status ≡ ends.DoorFault)
      → beyond.door_calls ≡ after_call call outside.door_calls
  pub unasked : (status ≡ ends.Done → ⊥) → (status ≡ ends.DoorFault → ⊥)
      → beyond.door_calls ≡ outside.door_calls

-- what `serve` writes on the program's output, by its exit status, and what is told of its
-- journal's disk: the line by which a journal is refused, and else nothing
abbrev pub WritesLinks : {D : Type 0} → Status → DiskWords D → Told D → List ℕ → Type 0
WritesLinks ends.Done disks journal written = written ≡ []
WritesLinks ends.BadWords disks journal written = ⊥
WritesLinks ends.Refused disks journal written = ⊥
WritesLinks ends.ReadFault disks journal written = written ≡ []
WritesLinks ends.WriteFault disks journal written = BeginsRefusal disks journal written
WritesLinks ends.DiskFault disks journal written = written ≡ []
WritesLinks ends.NoMemory disks journal written =
    (written ≡ []) ⊎ BeginsRefusal disks journal written
WritesLinks ends.BadFolder disks journal written = RefusesJournal disks journal written
WritesLinks ends.DoorFault disks journal written = written ≡ []
WritesLinks ends.LineLimit disks journal written = ⊥

-- What `pipe` and `serve` leave of a folder is a run (own).
use Rattle.std.specs.Prelude.{◌≡◌, ℕ, IsTrue, List, [], ◌∷◌, Some, drop, length, map, slice_get}
use Rattle.disk_model.specs.Disk.{Only}
use Rattle.disk_model.specs.declared.disk.Disk.{Ghosts as DiskWords}
use Rattle.gate_journal.specs.declared.command.Command.{Command}
use Rattle.gate_journal.specs.declared.entry.Entry.{Entry as JournalEntry}
use Rattle.gate_journal.specs.declared.entry.Entry.TheVariants.{Kept, Faulted}
use Rattle.host_serve.specs.Opening.{histories_in_rows}
use Rattle.host_serve.specs.Serves.{AnsweredLine}
use Rattle.line_talk.specs.declared.ended.Ended.{Ended}
use Rattle.host_top.specs.DoorServed.{OfDoor}
use Rattle.host_top.specs.LinksServed.{LinksServed}
use Rattle.host_top.specs.Piped.{Conversed, NotOpened}
use Rattle.host_top.specs.declared.status.Status.{Status}
use Rattle.line_talk.specs.Streams.{SourceState, SinkState}
use Rattle.story_run.specs.declared.story.Story.{Story}
use Rattle.folder_runs.specs.Folder.{FolderImage}
use Rattle.folder_runs.specs.Runs.{RunLeaves, RunRefused}
use Rattle.host_runs.specs.Shows.{shows_met}

-- the sessions and commands whose append had begun and failed
abbrev pub begun_in : List JournalEntry → List (ℕ × Command)
begun_in [] = []
begun_in (Kept r ∷ entries) = begun_in entries
begun_in (Faulted r from to ∷ entries) = (r.session, r.command) ∷ begun_in entries

module _ {D : Type 0} (disks : DiskWords D) where
  -- the disk reads as this file, and tells so
  abbrev pub ReadsAs : D → List ℕ → Type 0
  ReadsAs disk file = IsTrue (disks.tells disk) × (disks.seen disk ≡ file)

  -- a stop may leave this file of it
  abbrev pub LeavesAs : D → List ℕ → Type 0
  LeavesAs disk file = IsTrue (disks.tells disk) × disks.may_leave disk file

  -- the disks of a folder as it is found
  pub record IsFound (given : D) (givens : List D) (folder : FolderImage) : Type 0 where
    pub journal : ReadsAs given folder.journal
    pub snaps :
        (s : ℕ) (disk : D) → slice_get givens s ≡ Some disk
        → (file : List ℕ) × (slice_get folder.snaps s ≡ Some file) × ReadsAs disk file

  -- and what a stop may leave of them
  pub record MayBeLeft (back : D) (backs : List D) (folder : FolderImage) : Type 0 where
    pub journal : LeavesAs back folder.journal
    pub snaps :
        (s : ℕ) (file : List ℕ) → slice_get folder.snaps s ≡ Some file
        → (disk : D) × (slice_get backs s ≡ Some disk) × LeavesAs disk file

  -- `pipe` answered lines over these disks: the run's shows are those in all replies, and the
  -- appends that had begun are those that failed since the opening
  abbrev pub PipeLeaves : Type 0
  PipeLeaves =
      (stories : List Story) (budget : ℕ) (given : D) (givens : List D) (back : D)
      (backs : List D) (input now : SourceState) (output new : SinkState) (served : Ended)
      (c : Conversed disks stories budget given givens back backs input now output new served)
      (first left : FolderImage) → IsFound given givens first → MayBeLeft back backs left
      → RunLeaves stories first (record {
        left = left;
        shows =
            shows_met stories budget (histories_in_rows c.rows) 0
            (map (λ (t : AnsweredLine). t.line) c.turns)
            (map (λ (t : AnsweredLine). t.outcome) c.turns);
        begun = begun_in (drop (length c.rows) c.journal);
      })

  -- `serve` served links over them; of its shows nothing is said here
  abbrev pub LinksLeave : OfDoor D → Type 0
  LinksLeave Serves =
      (stories : List Story) (budget workers : ℕ) (given : D)
      (givens : List D) (back : D) (backs : List D) (input now : SourceState)
      (output new : SinkState) (status : Status)
      (l : LinksServed disks Serves stories budget workers given givens back backs input now output
      new status)
      (first left : FolderImage) → IsFound given givens first → MayBeLeft back backs left
      → RunLeaves stories first (record {
        left = left;
        shows = [];
        begun = begun_in (drop (length l.rows) l.journal);
      })

  -- neither opened the journal; nothing was written of it since the stop before
  abbrev pub RefusalLeaves : Type 0
  RefusalLeaves =
      (given back : D) (input now : SourceState) (output new : SinkState) (status : Status)
      → NotOpened disks given back input now output new status → (first left : FolderImage)
      → ReadsAs given first.journal → Only first.journal (disks.may_leave given)
      → LeavesAs back left.journal → left.snaps ≡ first.snaps
      → RunRefused first (record { left = left; shows = []; begun = [] })

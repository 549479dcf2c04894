-- What `replay` leaves of the journal of a folder and of its output (own).
use Rattle.std.specs.Prelude.{◌≡◌, ◌⊎◌, IsTrue, List, [], ◌∷◌, ℕ, Some}
use Rattle.disk_model.specs.declared.disk.Disk.{Ghosts as DiskWords}
use Rattle.gate_journal.specs.Faults.{Explains, HasCause}
use Rattle.gate_journal.specs.Rows.{SpellsRows}
use Rattle.gate_journal.specs.Scan.{LooksAlone}
use Rattle.gate_journal.specs.declared.fault.JournalFault.{JournalFault}
use Rattle.gate_journal.specs.declared.row.Row.{Row}
use Rattle.line_talk.specs.Streams.{SourceState, SinkState, Gave}
use Rattle.line_talk.specs.Writing.{IsPartOf}
use Rattle.story_replay.specs.Text.{transcript}
use Rattle.story_run.specs.declared.story.Story.{Story}
use Rattle.host_top.specs.Borrowed.{Borrowed, CountsFaults, Lending, NotLent, journal_in}
use Rattle.host_top.specs.Files.{OutsideState, Told}
use Rattle.host_top.specs.Said.{SaysFault, SaysLine}
use Rattle.host_top.specs.Served.{BeginsRefusal, RefusesJournal}
use Rattle.host_top.specs.ToldBytes.{WhereTold}
use Rattle.host_top.specs.declared.status.Status.{Status}
use Rattle.host_top.specs.declared.status.Status.TheVariants as ends

-- the transcript of the rows that the journal spells is written, or a part of it
pub record Transcribed {D : Type 0} (disks : DiskWords D) (stories : List Story) (given back : D)
    (output new : SinkState) (status : Status) : Type 0 where
  pub rows : List Row
  pub spelled : IsTrue (disks.tells given) → SpellsRows (disks.seen given) rows
  pub count : disks.faults back ≡ disks.faults given
  pub says : SaysLine ends.Done (transcript stories rows) output new status

-- or the line by which the journal is refused
pub record NotTranscribed {D : Type 0} (disks : DiskWords D) (given back : D)
    (output new : SinkState) (status : Status) : Type 0 where
  pub fault : JournalFault
  pub explains : IsTrue (disks.tells given) → Explains (disks.seen given) fault
  pub cause : HasCause (disks.faults given) (disks.faults back) fault
  pub says : SaysFault fault output new status

-- one of the two; and the journal's disk was only looked at
pub record ReplaysOver {D : Type 0} (disks : DiskWords D) (stories : List Story) (given back : D)
    (output new : SinkState) (status : Status) : Type 0 where
  pub looks :
      LooksAlone disks given back
  -- unless it failed it reads as before
  pub seen :
      IsTrue (disks.tells given)
      → (status ≡ ends.DiskFault) ⊎ (disks.seen back ≡ disks.seen given)
  pub does :
      Transcribed disks stories given back output new status
      ⊎ NotTranscribed disks given back output new status

-- the journal's disk alone, lent and put back
abbrev pub journal_lent : {D : Type 0} → List ℕ → D → D → List (Lending D)
journal_lent folder given back =
    record { name = journal_in folder; given = given; back = Some back } ∷ []

-- the same of the disk that stands under the journal's name; no other is lent, no input is read
pub record ReplaysFolder {D : Type 0} (disks : DiskWords D) (stories : List Story)
    (folder : List ℕ) (outside beyond : OutsideState D) (input now : SourceState)
    (output new : SinkState) (status : Status) : Type 0 where
  pub given : D
  pub back : D
  pub borrowed : Borrowed disks outside beyond (journal_lent folder given back)
  pub counts : CountsFaults disks outside beyond (journal_lent folder given back)
  pub replays : ReplaysOver disks stories given back output new status
  pub gave : Gave input now []

-- or the journal's disk isn't lent
abbrev pub ReplaysOn : {D : Type 0} → DiskWords D → List Story → List ℕ → OutsideState D
    → OutsideState D → SourceState → SourceState → SinkState → SinkState → Status → Type 0
ReplaysOn disks stories folder outside beyond input now output new status =
    NotLent disks (journal_in folder ∷ []) outside beyond input now output new status
    ⊎ ReplaysFolder disks stories folder outside beyond input now output new status

-- the transcript of the journal that is told
pub record IsTranscript {D : Type 0} (disks : DiskWords D) (stories : List Story)
    (journal : Told D) (text : List ℕ) : Type 0 where
  pub rows : List Row
  pub spelled : WhereTold disks journal (λ bytes. SpellsRows bytes rows)
  pub text_is : text ≡ transcript stories rows

-- a part of it
abbrev pub BeginsTranscript : {D : Type 0} → DiskWords D → List Story → Told D → List ℕ → Type 0
BeginsTranscript disks stories journal written =
    (text : List ℕ) × IsTranscript disks stories journal text × IsPartOf written text

-- what `replay` writes, by its exit status, for a caller who is told the bytes
abbrev pub WritesReplayed : {D : Type 0} → Status → DiskWords D → List Story → Told D → List ℕ
    → Type 0
WritesReplayed ends.Done disks stories journal written =
    IsTranscript disks stories journal written
WritesReplayed ends.BadWords disks stories journal written = ⊥
WritesReplayed ends.Refused disks stories journal written = ⊥
WritesReplayed ends.ReadFault disks stories journal written = written ≡ []
WritesReplayed ends.WriteFault disks stories journal written =
    BeginsTranscript disks stories journal written ⊎ BeginsRefusal disks journal written
WritesReplayed ends.DiskFault disks stories journal written = written ≡ []
WritesReplayed ends.NoMemory disks stories journal written =
    (written ≡ []) ⊎ BeginsTranscript disks stories journal written
    ⊎ BeginsRefusal disks journal written
WritesReplayed ends.BadFolder disks stories journal written =
    RefusesJournal disks journal written
WritesReplayed ends.DoorFault disks stories journal written = ⊥
WritesReplayed ends.LineLimit disks stories journal written = ⊥

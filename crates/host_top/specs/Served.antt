-- What `pipe` writes for an input, by its exit status, for a caller who is told the bytes (own).
use Rattle.std.specs.Prelude.{◌≡◌, ◌⊎◌, ℕ, ◌<◌, IsTrue, List, [], map}
use Rattle.gate_journal.specs.Rows.{SpellsRows, HasNoHeader, IsCorrupt, commands_of}
use Rattle.gate_journal.specs.declared.row.Row.{Row}
use Rattle.session_core.specs.History.{game_of}
use Rattle.session_core.specs.declared.entry.Entry.{Entry}
use Rattle.session_saves.specs.Agreement.{IsAgreedFile, opens_of}
use Rattle.story_run.specs.declared.story.Story.{Story}
use Rattle.host_top.specs.Borrowed.{journal_in, snap_in}
use Rattle.disk_model.specs.declared.disk.Disk.{Ghosts as DiskWords}
use Rattle.host_top.specs.ToldBytes.{WhereTold}
use Rattle.host_top.specs.Files.{Told, Untold, Missing, There}
use Rattle.line_talk.specs.Lines.{lines, talk, IsWithinLimits, ReachesLimit}
use Rattle.host_serve.specs.Opening.{histories_in_rows}
use Rattle.host_serve.specs.Serves.{AnsweredLine}
use Rattle.host_serve.specs.Told.{WritesReplies}
use Rattle.line_talk.specs.declared.ended.Ended.{Ended}
use Rattle.line_talk.specs.declared.ended.Ended.TheVariants as ended
use Rattle.host_top.specs.Piped.{Lead, LeadAlone}
use Rattle.host_top.specs.Said.{bad_journal, bad_journal_at}
use Rattle.line_talk.specs.Talked.{AreFirst}
use Rattle.line_talk.specs.Writing.{IsPartOf}
use Rattle.host_top.specs.declared.status.Status.{Status}
use Rattle.host_top.specs.declared.status.Status.TheVariants.{Done, BadWords, Refused, ReadFault}
use Rattle.host_top.specs.declared.status.Status.TheVariants.{WriteFault, NoMemory, LineLimit}
use Rattle.host_top.specs.declared.status.Status.TheVariants.{DiskFault, BadFolder, DoorFault}

-- the lines of an input that were answered, by how it ended
abbrev pub AnswersIn : Ended → List ℕ → List (List ℕ) → Type 0
AnswersIn ended.End input answered = (answered ≡ lines input) × IsWithinLimits input
AnswersIn ended.ReadFault input answered =
    (read : List ℕ) × IsPartOf read input × (answered ≡ talk read)
AnswersIn ended.WriteFault input answered = AreFirst answered (talk input)
AnswersIn ended.NoMemory input answered = AreFirst answered (talk input)
AnswersIn ended.LineLimit input answered = (answered ≡ talk input) × ReachesLimit input

-- the bytes of a disk are told, and have P; where there is told to be none, no bytes have
abbrev pub AreTold : {D : Type 0} → (D → List ℕ) → Told D → (List ℕ → Type 0) → Type 0
AreTold seen Untold P = ⊥
AreTold seen Missing P = P []
AreTold seen (There disk) P = P (seen disk)

-- The stores of a folder are sound: all disks tell what they hold, each store's is told, and its
-- file agrees with the rows of its session.
abbrev pub AreSound : {D : Type 0} → DiskWords D → List Story → (List ℕ → Told D) → List ℕ
    → List Row → Type 0
AreSound {D} disks stories disk folder rows =
    ((d : D) → IsTrue (disks.tells d))
    × ((s : ℕ) → s < 64 → AreTold disks.seen (disk (snap_in folder s))
    (IsAgreedFile stories (opens_of rows s) (game_of (commands_of rows s))))

-- each of these lines has one reply, by what its turn met, from the sessions of the journal's rows;
-- where the folder's stores are sound, that of `turn_said_on`
pub record WritesTurns {D : Type 0} (disks : DiskWords D) (stories : List Story) (budget : ℕ)
    (disk : List ℕ → Told D) (folder input written : List ℕ) (how : Ended) : Type 0 where
  pub rows : List Row
  pub handed_in : WhereTold disks (disk (journal_in folder)) (λ bytes. SpellsRows bytes rows)
  pub turns : List AnsweredLine
  pub which : AnswersIn how input (map (λ (t : AnsweredLine). t.line) turns)
  pub writes : WritesReplies how written (map (λ (t : AnsweredLine). t.reply) turns)
  pub histories : List (List Entry)
  pub led : Lead stories budget (histories_in_rows rows) turns histories
  pub sound :
      AreSound disks stories disk folder rows
      → LeadAlone stories budget (histories_in_rows rows) turns histories

-- the line by which a journal is refused
abbrev pub RefusesJournal : {D : Type 0} → DiskWords D → Told D → List ℕ → Type 0
RefusesJournal disks journal line =
    (line ≡ bad_journal) × WhereTold disks journal HasNoHeader
    ⊎ ((place : ℕ) × (line ≡ bad_journal_at place)
    × WhereTold disks journal (λ bytes. IsCorrupt bytes place))

-- a part of it
abbrev pub BeginsRefusal : {D : Type 0} → DiskWords D → Told D → List ℕ → Type 0
BeginsRefusal disks journal written =
    (line : List ℕ) × RefusesJournal disks journal line × IsPartOf written line

-- what is written
abbrev pub WritesServed : {D : Type 0} → Status → DiskWords D → List Story → ℕ
    → (List ℕ → Told D) → List ℕ → List ℕ → List ℕ → Type 0
WritesServed Done disks stories budget disk folder input written =
    WritesTurns disks stories budget disk folder input written ended.End
WritesServed BadWords disks stories budget disk folder input written = ⊥
WritesServed Refused disks stories budget disk folder input written = ⊥
WritesServed ReadFault disks stories budget disk folder input written =
    (written ≡ []) ⊎ WritesTurns disks stories budget disk folder input written ended.ReadFault
WritesServed WriteFault disks stories budget disk folder input written =
    WritesTurns disks stories budget disk folder input written ended.WriteFault
    ⊎ BeginsRefusal disks (disk (journal_in folder)) written
WritesServed DiskFault disks stories budget disk folder input written = written ≡ []
WritesServed NoMemory disks stories budget disk folder input written =
    (written ≡ []) ⊎ WritesTurns disks stories budget disk folder input written ended.NoMemory
    ⊎ BeginsRefusal disks (disk (journal_in folder)) written
WritesServed BadFolder disks stories budget disk folder input written =
    RefusesJournal disks (disk (journal_in folder)) written
WritesServed DoorFault disks stories budget disk folder input written = ⊥
WritesServed LineLimit disks stories budget disk folder input written =
    WritesTurns disks stories budget disk folder input written ended.LineLimit

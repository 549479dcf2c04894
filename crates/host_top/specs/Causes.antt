-- Why the program ends with each of its statuses (own).
use Rattle.std.specs.Prelude.{◌≡◌, ◌⊎◌, ℕ, ◌<◌, List, length, map, take, IsErr}
use Rattle.command_words.specs.Words.{Asked}
use Rattle.command_words.specs.declared.words.Action.{Action}
use Rattle.command_words.specs.declared.words.Action.TheVariants.{Run, Check, Pipe, Init, Help}
use Rattle.command_words.specs.declared.words.Action.TheVariants.{Serve, Replay, Pack, Drill}
use Rattle.command_words.specs.declared.words.Action.TheVariants.{Version}
use Rattle.disk_model.specs.declared.disk.Disk.{Ghosts as DiskWords}
use Rattle.host_top.specs.Borrowed.{journal_in}
use Rattle.host_top.specs.Files.{Told}
use Rattle.host_top.specs.Scene.{IsTold, Scene}
use Rattle.host_top.specs.Served.{RefusesJournal}
use Rattle.host_top.specs.Stories.{stories_of}
use Rattle.host_top.specs.ToldBytes.{WhereTold}
use Rattle.host_top.specs.declared.status.Status.{Status}
use Rattle.host_top.specs.declared.status.Status.TheVariants.{Done, BadWords, Refused, ReadFault}
use Rattle.host_top.specs.declared.status.Status.TheVariants.{WriteFault, NoMemory, LineLimit}
use Rattle.host_top.specs.declared.status.Status.TheVariants.{DiskFault, BadFolder, DoorFault}
use Rattle.line_talk.specs.Causes.{Rose}
use Rattle.line_talk.specs.Lines.{ReachesLimit}

-- the journal's bytes have no journal's header, or are corrupt at some place
abbrev pub IsRefusedJournal : {D : Type 0} → DiskWords D → Told D → Type 0
IsRefusedJournal disks journal = (line : List ℕ) × RefusesJournal disks journal line

-- a journal holds something
abbrev pub HoldsSome : {D : Type 0} → DiskWords D → Told D → Type 0
HoldsSome disks journal = WhereTold disks journal (λ bytes. 0 < length bytes)

-- A folder's journal isn't such as the action needs: that of `init`, or the one that is packed into,
-- holds something, and that of the others is refused.
abbrev pub HasBadJournal : {D : Type 0} → DiskWords D → Action → Told D → Told D → Type 0
HasBadJournal disks Run journal into = ⊥
HasBadJournal disks Check journal into = ⊥
HasBadJournal disks Init journal into = HoldsSome disks journal
HasBadJournal disks Pipe journal into = IsRefusedJournal disks journal
HasBadJournal disks (Serve serving) journal into = IsRefusedJournal disks journal
HasBadJournal disks Replay journal into = IsRefusedJournal disks journal
HasBadJournal disks Pack journal into =
    IsRefusedJournal disks journal ⊎ HoldsSome disks into
HasBadJournal disks (Drill number) journal into = ⊥
HasBadJournal disks (Help topic) journal into = ⊥
HasBadJournal disks Version journal into = ⊥

-- The cause of each status, by the files and the input. Done (0) and want of memory (7) need none
-- here, and 2 comes where nothing was asked for.
abbrev pub CauseOf : {D : Type 0} → DiskWords D → Asked → List (List ℕ) → List ℕ → Scene D
    → Scene D → Status → Type 0
CauseOf disks asked files bytes old new Done = Unit {0}
CauseOf disks asked files bytes old new BadWords = ⊥
CauseOf disks asked files bytes old new Refused = IsErr (stories_of (map (take 67108865) files))
CauseOf disks asked files bytes old new ReadFault =
    Rose old.outside.faults new.outside.faults ⊎ Rose old.input.faults new.input.faults
CauseOf disks asked files bytes old new WriteFault = Rose old.output.faults new.output.faults
CauseOf disks asked files bytes old new DiskFault =
    Rose old.outside.disk_faults new.outside.disk_faults
CauseOf disks asked files bytes old new NoMemory = Unit {0}
CauseOf disks asked files bytes old new BadFolder =
    HasBadJournal disks asked.action (old.outside.disk (journal_in asked.folder))
    (old.outside.disk (journal_in asked.into))
CauseOf disks asked files bytes old new DoorFault =
    Rose old.outside.door_faults new.outside.door_faults
CauseOf disks asked files bytes old new LineLimit = ReachesLimit bytes

-- it ends so for that cause, in a scene that is told
abbrev pub HasCause : {D : Type 0} → DiskWords D → Asked → Scene D → Scene D → Status → Type 0
HasCause disks asked old new status =
    (files : List (List ℕ)) (bytes held : List ℕ) → IsTold asked.names old files bytes held
    → CauseOf disks asked files bytes old new status

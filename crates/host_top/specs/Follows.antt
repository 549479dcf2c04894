-- What a command leaves of the files, the disks, the input and the output (own).
use Rattle.std.specs.Prelude.{◌≡◌, ℕ, ◌⊎◌, List, [], ◌++◌, map, take, Some, Result, Ok, Err}
use Rattle.host_top.specs.Begun.{InitsOn, WritesBegun}
use Rattle.host_top.specs.Borrowed.{journal_in}
use Rattle.host_top.specs.Folder.{UsesFolder}
use Rattle.line_talk.specs.Causes.{Rose}
use Rattle.host_top.specs.DoorServed.{OfDoor}
use Rattle.host_top.specs.Files.{OutsideState, KeepsDisks, KeepsDoors, Told, There}
use Rattle.host_top.specs.Headline.{WritesOf}
use Rattle.disk_model.specs.declared.disk.Disk.{Ghosts as DiskWords}
use Rattle.host_top.specs.LinksServed.{DoorsBy, ServesOver, WritesLinks}
use Rattle.host_top.specs.Packed.{PacksOn, WritesPacked}
use Rattle.host_top.specs.Piped.{PipesOver}
use Rattle.host_top.specs.Replayed.{ReplaysOn, WritesReplayed}
use Rattle.host_top.specs.Served.{WritesServed}
use Rattle.host_top.specs.Speech.{Task, Says, Serves, ServesLinks, Begins, Replays}
use Rattle.host_top.specs.Speech.{PacksFrom, door_call, tasked}
use Rattle.host_top.specs.Spoken.{Spoken}
use Rattle.host_top.specs.Stories.{stories_of, AreFiles, IsLoadSettled, LoadStopsBehind}
use Rattle.line_talk.specs.Streams.{SourceState, SinkState, Gave, Wrote}
use Rattle.command_words.specs.Words.{Asked}
use Rattle.host_top.specs.declared.status.Status.{Status}
use Rattle.host_top.specs.declared.status.Status.TheVariants.{ReadFault, NoMemory}

-- what a task leaves, or the line by which a story is refused; of a door that was served this is
-- said
abbrev pub DoesTask : {D : Type 0} → DiskWords D → OfDoor D → Result Task (List ℕ)
    → OutsideState D → OutsideState D → SourceState → SourceState → SinkState → SinkState
    → Status → Type 0
DoesTask disks OnDoor (Err line) outside beyond input now output new status =
    Spoken (Err line) input now output new status × KeepsDisks outside beyond
    × KeepsDoors outside beyond
DoesTask disks OnDoor (Ok (Says speech)) outside beyond input now output new status =
    Spoken (Ok speech) input now output new status × KeepsDisks outside beyond
    × KeepsDoors outside beyond
DoesTask disks OnDoor (Ok (Serves stories budget folder)) outside beyond input now output new
    status =
    UsesFolder disks folder
    (λ given givens back. PipesOver disks stories budget given givens back input now output new
    status)
    outside beyond input now output new status
    × KeepsDoors outside beyond
DoesTask disks OnDoor (Ok (ServesLinks stories budget folder serving)) outside beyond input now
    output new status =
    UsesFolder disks folder
    (λ given givens back. ServesOver disks OnDoor stories budget serving.workers given givens back
    input now output new status)
    outside beyond input now output new status
    × DoorsBy (door_call serving) outside beyond status
DoesTask disks OnDoor (Ok (Begins folder)) outside beyond input now output new status =
    InitsOn disks folder outside beyond input now output new status × KeepsDoors outside beyond
DoesTask disks OnDoor (Ok (Replays stories folder)) outside beyond input now output new status =
    ReplaysOn disks stories folder outside beyond input now output new status
    × KeepsDoors outside beyond
DoesTask disks OnDoor (Ok (PacksFrom folder into)) outside beyond input now output new status =
    PacksOn disks folder into outside beyond input now output new status
    × KeepsDoors outside beyond

-- a load failed behind stories alone, or memory was wanted; and nothing was read or written
pub record NotLoaded {D : Type 0} (names : List (List ℕ)) (outside beyond : OutsideState D)
    (input now : SourceState) (output new : SinkState) (status : Status) : Type 0 where
  pub behind : LoadStopsBehind outside.file names (status ≡ ReadFault)
  pub cause : (status ≡ ReadFault) × Rose outside.faults beyond.faults ⊎ (status ≡ NoMemory)
  pub gave : Gave input now []
  pub wrote : Wrote output new []
  pub disks : KeepsDisks outside beyond
  pub doors : KeepsDoors outside beyond

-- the stories were loaded, and the command does its task over them
pub record Loaded {D : Type 0} (disks : DiskWords D) (OnDoor : OfDoor D) (asked : Asked)
    (outside beyond : OutsideState D) (input now : SourceState) (output new : SinkState)
    (status : Status) : Type 0 where
  pub files : List (List ℕ)
  pub are_files : AreFiles outside.file asked.names files
  pub settled : IsLoadSettled asked.names files
  pub between : OutsideState D
  pub loaded : KeepsDisks outside between
  pub doors : KeepsDoors outside between
  pub does :
      DoesTask disks OnDoor
      (tasked asked.action (stories_of files) asked.budget asked.folder asked.into)
      between beyond input now output new status
  pub cause : status ≡ ReadFault → Rose input.faults now.faults

-- one of the two
abbrev pub FollowsCommand : {D : Type 0} → DiskWords D → OfDoor D → Asked → Status
    → OutsideState D → OutsideState D → SourceState → SourceState → SinkState → SinkState → Type 0
FollowsCommand disks OnDoor asked status outside beyond input now output new =
    NotLoaded asked.names outside beyond input now output new status
    ⊎ Loaded disks OnDoor asked outside beyond input now output new status

-- what is written for these bytes of an input, by the task and what is told of the disks
abbrev pub WritesFor : {D : Type 0} → DiskWords D → (List ℕ → Told D) → Status
    → Result Task (List ℕ) → List ℕ → List ℕ → Type 0
WritesFor disks disk status (Err line) bytes written = WritesOf status (Err line) bytes written
WritesFor disks disk status (Ok (Says speech)) bytes written =
    WritesOf status (Ok speech) bytes written
WritesFor disks disk status (Ok (Serves stories budget folder)) bytes written =
    WritesServed status disks stories budget disk folder bytes written
WritesFor disks disk status (Ok (ServesLinks stories budget folder serving)) bytes written =
    WritesLinks status disks (disk (journal_in folder)) written
WritesFor disks disk status (Ok (Begins folder)) bytes written =
    WritesBegun status disks (disk (journal_in folder)) written
WritesFor disks disk status (Ok (Replays stories folder)) bytes written =
    WritesReplayed status disks stories (disk (journal_in folder)) written
WritesFor disks disk status (Ok (PacksFrom folder into)) bytes written =
    WritesPacked status disks (disk (journal_in folder)) (disk (journal_in into)) written

-- what an output holds then, for a caller who is told its bytes, the files and the input
abbrev pub TellsCaller : {D : Type 0} → DiskWords D → Asked → Status → OutsideState D → SourceState
    → SinkState → SinkState → Type 0
TellsCaller disks asked status outside input output new =
    (files : List (List ℕ)) (bytes held : List ℕ)
    → map outside.file asked.names ≡ map There files → input.left ≡ Some bytes
    → output.held ≡ Some held
    → (written : List ℕ) × (new.held ≡ Some (held ++ written))
    × WritesFor disks outside.disk status
    (tasked asked.action (stories_of (map (take 67108865) files)) asked.budget asked.folder
    asked.into)
    bytes written

-- A command over which all is in order, and whether a fault is counted (own).
use Rattle.std.specs.Prelude.{◌≡◌, ℕ, IsTrue, List, [], map, take, Some, IsOk}
use Rattle.command_words.specs.Words.{Asked}
use Rattle.command_words.specs.declared.words.Action.{Action}
use Rattle.command_words.specs.declared.words.Action.TheVariants.{Run, Check, Pipe, Init, Help}
use Rattle.command_words.specs.declared.words.Action.TheVariants.{Serve, Replay, Pack, Drill}
use Rattle.command_words.specs.declared.words.Action.TheVariants.{Version}
use Rattle.disk_model.specs.declared.disk.Disk.{Ghosts as DiskWords}
use Rattle.gate_journal.specs.Rows.{SpellsRows}
use Rattle.gate_journal.specs.declared.row.Row.{Row}
use Rattle.host_top.specs.Borrowed.{journal_in}
use Rattle.host_top.specs.Files.{OutsideState, Told, There}
use Rattle.host_top.specs.Served.{AreTold}
use Rattle.host_top.specs.Stories.{stories_of}
use Rattle.line_talk.specs.Causes.{Rose}
use Rattle.line_talk.specs.Lines.{IsWithinLimits}
use Rattle.line_talk.specs.Streams.{SourceState, SinkState}

-- the bytes of this disk are told, and spell rows
abbrev pub SpellsSome : {D : Type 0} → DiskWords D → Told D → Type 0
SpellsSome disks journal = (rows : List Row) × AreTold disks.seen journal (λ c. SpellsRows c rows)

-- the journal that an action serves from, replays or packs spells rows, and the one that it begins or
-- packs into is empty
abbrev pub HasFolder : {D : Type 0} → DiskWords D → Action → Told D → Told D → Type 0
HasFolder disks Run journal into = Unit {0}
HasFolder disks Check journal into = Unit {0}
HasFolder disks Pipe journal into = SpellsSome disks journal
HasFolder disks (Serve serving) journal into = SpellsSome disks journal
HasFolder disks Init journal into = AreTold disks.seen journal (λ c. c ≡ [])
HasFolder disks Replay journal into = SpellsSome disks journal
HasFolder disks Pack journal into =
    SpellsSome disks journal × AreTold disks.seen into (λ c. c ≡ [])
HasFolder disks (Drill number) journal into = Unit {0}
HasFolder disks (Help topic) journal into = Unit {0}
HasFolder disks Version journal into = Unit {0}

-- The files that are named are told and are stories, the input is told and within the limits of a
-- connection, what the output holds is told, and so is what the disks hold, with the journals that
-- are asked for.
pub record IsInOrder {D : Type 0} (disks : DiskWords D) (asked : Asked) (outside : OutsideState D)
    (input : SourceState) (output : SinkState) : Type 0 where
  pub files : List (List ℕ)
  pub are_there : map outside.file asked.names ≡ map There files
  pub are_stories : IsOk (stories_of (map (take 67108865) files))
  pub bytes : List ℕ
  pub left : input.left ≡ Some bytes
  pub within : IsWithinLimits bytes
  pub held : List ℕ
  pub holds : output.held ≡ Some held
  pub tells : (d : D) → IsTrue (disks.tells d)
  pub folder :
      HasFolder disks asked.action (outside.disk (journal_in asked.folder))
      (outside.disk (journal_in asked.into))

-- no fault is counted of a door, the input or the output
pub record NoneRose {D : Type 0} (outside beyond : OutsideState D) (input now : SourceState)
    (output new : SinkState) : Type 0 where
  pub doors : Rose outside.door_faults beyond.door_faults → ⊥
  pub reads : Rose input.faults now.faults → ⊥
  pub writes : Rose output.faults new.faults → ⊥

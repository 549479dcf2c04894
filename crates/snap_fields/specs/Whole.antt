-- All of a world's bytes, read from the left (own: docs/FORMATS.md, "Snapshot bytes").
use Rattle.std.specs.Prelude.{ℕ, ◌≡◌, ◌==◌, if◌then◌else◌, List, length}
use Rattle.std.specs.Prelude.{Option, Some, None, Result, Ok, Err}
use Rattle.snap_fields.specs.Reading.{Reader, ◌then◌, led_by, reader_made, none_at}
use Rattle.snap_fields.specs.Reading.{n4_at, bytes_at, list_at, FailsOnFields}
use Rattle.snap_fields.specs.Items.{setup_at, machine_at, settings_at, random_at, waiting_at}
use Rattle.snap_fields.specs.Items.{numbers_at, undo_state_at}
use Rattle.snap_fields.specs.GlkItems.{window_item_at, stream_item_at, fileref_at, file_at}
use Rattle.snap_fields.specs.declared.fault.SnapFault.{SnapFault}
use Rattle.snap_fields.specs.declared.fields.Fields.{Fields}
use Rattle.snap_fields.specs.declared.fields.SnapMachine.{SnapMachine}
use Rattle.snap_fields.specs.declared.fields.Numbers.{Numbers}
use Rattle.snap_fields.specs.declared.fields.SnapRandom.{SnapRandom}
use Rattle.snap_fields.specs.declared.fields.Settings.{Settings}
use Rattle.snap_fields.specs.declared.fields.SnapSetup.{SnapSetup}
use Rattle.snap_fields.specs.declared.fields.UndoState.{UndoState}
use Rattle.snap_fields.specs.declared.fields.SnapWaiting.{SnapWaiting}
use Rattle.snap_fields.specs.declared.glk.SnapFile.{SnapFile}
use Rattle.snap_fields.specs.declared.glk.SnapFileRef.{SnapFileRef}
use Rattle.snap_fields.specs.declared.glk.SnapStream.{SnapStream}
use Rattle.snap_fields.specs.declared.glk.SnapWindow.{SnapWindow}
use Rattle.snap_fields.specs.declared.read.Objects.{Objects}
use Rattle.snap_fields.specs.declared.read.AfterMachine.{AfterMachine}

-- the objects of Glk, and what was shown last
abbrev pub ObjectParts : Type 0
ObjectParts = List SnapWindow × (List SnapStream × (List SnapFileRef × (List SnapFile × List ℕ)))

unfoldable pub objects_at : Reader ObjectParts
objects_at =
    list_at window_item_at then list_at stream_item_at then list_at fileref_at
    then list_at file_at then bytes_at

abbrev pub object_parts : Objects → ObjectParts
object_parts o = (o.windows, (o.streams, (o.filerefs, (o.files, o.show))))

-- the items behind the machine
abbrev pub AfterMachineParts : Type 0
AfterMachineParts =
    Settings × (SnapRandom × (List UndoState × (SnapWaiting × (Numbers × ObjectParts))))

unfoldable pub after_machine_at : Reader AfterMachineParts
after_machine_at =
    settings_at then random_at then list_at undo_state_at then waiting_at then numbers_at
    then objects_at

abbrev pub after_machine_parts : AfterMachine → AfterMachineParts
after_machine_parts p =
    (p.settings, (p.random, (p.undo, (p.waiting, (p.numbers, object_parts p.objects)))))

-- the items behind the signature
abbrev pub Parts : Type 0
Parts = SnapSetup × (SnapMachine × AfterMachineParts)

abbrev pub parts_at : Reader Parts
parts_at = setup_at then machine_at then after_machine_at

abbrev pub fields_of_parts : Parts → Fields
fields_of_parts (
  setup,
  (
    machine,
    (
      settings,
      (
        random,
        (
          undo,
          (
            waiting,
            (
              numbers,
              (
                windows,
                (
                  streams,
                  (filerefs, (files, show)),
                ),
              ),
            ),
          ),
        ),
      ),
    ),
  ),
) = record {
  setup = setup;
  machine = machine;
  settings = settings;
  random = random;
  undo = undo;
  waiting = waiting;
  numbers = numbers;
  windows = windows;
  streams = streams;
  filerefs = filerefs;
  files = files;
  show = show;
}

-- `STW2`
abbrev pub signed_fields : ℕ → Reader Fields
signed_fields n = if n == 0x53545732 then reader_made fields_of_parts parts_at else none_at

unfoldable pub fields_at : Reader Fields
fields_at = led_by n4_at signed_fields

-- nothing may follow
abbrev pub if_all_read : {A : Type 0} → Option (A × List ℕ) → Option A
if_all_read None = None
if_all_read (Some x) = if length x.1 == 0 then Some x.0 else None

-- what a function that reads all of the bytes returned
abbrev pub FindsWhole : {A : Type 0} → Option A → Result A SnapFault → Type 0
FindsWhole read (Ok x) = read ≡ Some x
FindsWhole read (Err e) = FailsOnFields e read

-- The journal of a host, call by call (own).
use Rattle.std.specs.Prelude.{ℕ, ◌+◌, ◌==◌, if◌then◌else◌, Bool, true, false, List, [], ◌∷◌}
use Rattle.std.specs.Prelude.{◌++◌, length, slice_index, Option, Some, None}
use Rattle.std.specs.List.{slice_get}
use Rattle.gate_journal.specs.declared.row.Row.{Row}
use Rattle.gate_journal.specs.Rows.{journal_bytes, version_byte}
use Rattle.store_events.specs.declared.disk.DiskCall.{DiskCall}
use Rattle.store_events.specs.declared.disk.DiskCall.TheVariants.{Write, Sync, Look}
use Rattle.host_world.specs.declared.turn.Phase.{Phase}
use Rattle.host_world.specs.declared.turn.Phase.TheVariants.{Kept, Broken}
use Rattle.host_world.specs.declared.turn.Session.{Session}
use Rattle.host_world.specs.declared.state.Step.{Step}
use Rattle.host_world.specs.declared.state.Step.TheVariants.{Idle, RepairWrite, RepairSync}
use Rattle.host_world.specs.declared.state.Step.TheVariants.{RowWrite, RowSync, GateWrite, GateSync}
use Rattle.host_world.specs.declared.state.Step.TheVariants.{FirstSync, AskSize, ReadAll}
use Rattle.host_world.specs.declared.state.Step.TheVariants.{CloseWrite, CloseSync}
use Rattle.host_world.specs.declared.state.Step.TheVariants.{VersionWrite, VersionSync}
use Rattle.host_world.specs.declared.state.JournalHost.{JournalHost}
use Rattle.disk_model.specs.Plain.{is_image}
use Rattle.store_events.specs.Disk.{disk_after, may_work, fault_counted}
use Rattle.host_world.specs.Reading.{past_gate, rows_in}
use Rattle.host_world.specs.Sessions.{phase_set, found_sessions}

-- the device call that a step makes
abbrev pub next_call : List Row → Step → Option DiskCall
next_call rows Idle = None
next_call rows (RepairWrite r from) = Some (Write (length (journal_bytes rows)) (0 ∷ []))
next_call rows (RepairSync r from) = Some Sync
next_call rows (RowWrite r from) = Some (Write (length (journal_bytes rows) + 1) (past_gate r))
next_call rows (RowSync r from) = Some Sync
next_call rows (GateWrite r from) = Some (Write (length (journal_bytes rows)) (1 ∷ []))
next_call rows (GateSync r from) = Some Sync
next_call rows FirstSync = Some Sync
next_call rows AskSize = Some Look
next_call rows ReadAll = Some Look
next_call rows (CloseWrite found) = Some (Write (length (journal_bytes found)) (0 ∷ []))
next_call rows (CloseSync found) = Some Sync
next_call rows (VersionWrite found) = Some (Write 8 (1 ∷ []))
next_call rows (VersionSync found) = Some Sync

-- the sessions, where the turn of one goes on to this phase
abbrev pub sessions_with : JournalHost → ℕ → Phase → List Session
sessions_with w s phase = phase_set w.sessions s phase (slice_get w.sessions s)

-- an opening has ended well: the histories are those of the rows
abbrev pub comes_up : JournalHost → List Row → JournalHost
comes_up w rows =
    record w {
      up = true;
      sessions = found_sessions rows;
      rows = rows;
      uncertain = None;
      holder = None;
      step = Idle;
    }

-- the closing gate is 0: a journal of version 1 is made one of version 2
abbrev pub gate_closed : JournalHost → List Row → JournalHost
gate_closed w rows =
    if version_byte w.disk.seen == 1 then comes_up w rows
    else record w { step = VersionWrite rows }

-- an opening has read all bytes: they spell these rows, if they spell some
abbrev pub looked : JournalHost → Option (List Row) → JournalHost
looked w (Some rows) =
    if slice_index w.disk.seen (length (journal_bytes rows)) == 0 then gate_closed w rows
    else record w { step = CloseWrite rows }
looked w None = record w { step = Idle }

-- nothing is under way
abbrev pub is_idle : Step → Bool
is_idle Idle = true
is_idle step = false

-- the step is one of an append
abbrev pub is_append : Step → Bool
is_append (RepairWrite r from) = true
is_append (RepairSync r from) = true
is_append (RowWrite r from) = true
is_append (RowSync r from) = true
is_append (GateWrite r from) = true
is_append (GateSync r from) = true
is_append step = false

-- after a good call of this step. From the gate's write on the row may be found by an opening.
abbrev pub onward : JournalHost → Step → JournalHost
onward w Idle = w
onward w (RepairWrite r from) = record w { step = RepairSync r from }
onward w (RepairSync r from) = record w { uncertain = None; step = RowWrite r from }
onward w (RowWrite r from) = record w { step = RowSync r from }
onward w (RowSync r from) = record w { uncertain = Some r; step = GateWrite r from }
onward w (GateWrite r from) = record w { step = GateSync r from }
onward w (GateSync r from) =
    record w {
      sessions = sessions_with w r.session Kept;
      rows = w.rows ++ r ∷ [];
      uncertain = None;
      step = Idle;
    }
onward w FirstSync = record w { step = AskSize }
onward w AskSize = record w { step = ReadAll }
onward w ReadAll = looked w (rows_in w.disk.seen)
onward w (CloseWrite found) = record w { step = CloseSync found }
onward w (CloseSync found) = gate_closed w found
onward w (VersionWrite found) = record w { step = VersionSync found }
onward w (VersionSync found) = comes_up w found

-- the append of a row has failed, the count of faults having been this as it began
abbrev pub broken : JournalHost → Row → ℕ → JournalHost
broken w r from =
    record w { sessions = sessions_with w r.session (Broken from w.faults); step = Idle }

-- after a call of this step that isn't good: the operation ends
abbrev pub failed : JournalHost → Step → JournalHost
failed w (RepairWrite r from) = broken w r from
failed w (RepairSync r from) = broken w r from
failed w (RowWrite r from) = broken w r from
failed w (RowSync r from) = broken w r from
failed w (GateWrite r from) = broken w r from
failed w (GateSync r from) = broken w r from
failed w step = record w { step = Idle }

-- after a call of this step
abbrev pub call_ended : JournalHost → Bool → Step → JournalHost
call_ended w true step = onward w step
call_ended w false step = failed (record w { faults = fault_counted w.faults }) step

-- the host, where its disk was called
abbrev pub with_disk : JournalHost → DiskCall → Bool → List ℕ → JournalHost
with_disk w call good reads = record w { disk = disk_after call good reads w.disk }

abbrev pub with_fault : JournalHost → DiskCall → List ℕ → JournalHost
with_fault w call reads =
    record w { disk = disk_after call false reads w.disk; faults = fault_counted w.faults }

-- The call that a step makes, by whether it is good and by what the disk then reads as. A write
-- past the room isn't good, and a disk reads as one of its images.
abbrev pub host_called : JournalHost → JournalHost → Bool → List ℕ → Step → Option DiskCall → JournalHost
host_called old w good reads step None = old
host_called old w true reads step (Some call) =
    if may_work call then onward (with_disk w call true reads) step else old
host_called old w false reads step (Some call) =
    if is_image (disk_after call false reads w.disk) reads
    then failed (with_fault w call reads) step
    else old

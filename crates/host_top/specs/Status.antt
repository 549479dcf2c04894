-- Exit statuses (own).
use Rattle.std.specs.Prelude.{ℕ, ◌==◌, if◌then◌else◌, Option, None, Some}
use Rattle.line_talk.specs.Ends.{ended_by}
use Rattle.line_talk.specs.declared.ended.Ended.{Ended}
use Rattle.line_talk.specs.declared.ended.Ended.TheVariants as ended
use Rattle.line_talk.specs.declared.sink.Stop.{Stop}
use Rattle.host_serve.specs.declared.worked.Worked.{Worked}
use Rattle.host_serve.specs.declared.worked.Worked.TheVariants as worked
use Rattle.host_top.specs.declared.outside.Fetch.{Fetch}
use Rattle.host_top.specs.declared.outside.Fetch.TheVariants as fetch
use Rattle.host_top.specs.declared.status.Status.{Status}
use Rattle.host_top.specs.declared.status.Status.TheVariants.{Done, BadWords, Refused, ReadFault}
use Rattle.host_top.specs.declared.status.Status.TheVariants.{WriteFault, NoMemory, LineLimit}
use Rattle.host_top.specs.declared.status.Status.TheVariants.{DiskFault, BadFolder, DoorFault}

-- the status of an exit code
abbrev pub status_of : ℕ → Option Status
status_of code =
    if code == 0 then Some Done else
    (if code == 2 then Some BadWords else
    (if code == 3 then Some Refused else
    (if code == 4 then Some ReadFault else
    (if code == 5 then Some WriteFault else
    (if code == 6 then Some DiskFault else
    (if code == 7 then Some NoMemory else
    (if code == 8 then Some BadFolder else
    (if code == 9 then Some DoorFault else
    (if code == 10 then Some LineLimit else None)))))))))

-- the status of a conversation, as one with a host
abbrev pub status_of_end : Ended → Status
status_of_end ended.End = Done
status_of_end ended.ReadFault = ReadFault
status_of_end ended.WriteFault = WriteFault
status_of_end ended.NoMemory = NoMemory
status_of_end ended.LineLimit = LineLimit

-- the status of the work at a door
abbrev pub status_of_worked : {O C E F : Type 0} → Worked O C E F → Status
status_of_worked (worked.Shut end) = Done
status_of_worked (worked.DoorFault fault) = DoorFault

-- the status of a text that was not written whole
abbrev pub status_of_stop : Stop → Status
status_of_stop stop = status_of_end (ended_by stop)

-- the status of a disk that the outside doesn't lend
abbrev pub status_of_fetch : Fetch → Status
status_of_fetch fetch.Failed = DiskFault
status_of_fetch fetch.NoMemory = NoMemory

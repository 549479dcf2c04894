-- What one line leaves of an output, after which the program ends (own).
use Rattle.std.specs.Prelude.{◌≡◌, ◌⊎◌, ℕ, List, [], ◌++◌, codes}
use Rattle.std.specs.Fmt.{decimal}
use Rattle.gate_journal.specs.declared.fault.JournalFault.{JournalFault}
use Rattle.gate_journal.specs.declared.fault.JournalFault.TheVariants as fault
use Rattle.host_top.specs.Status.{status_of_stop}
use Rattle.line_talk.specs.Streams.{SinkState, Wrote}
use Rattle.line_talk.specs.Writing.{Stopped}
use Rattle.line_talk.specs.declared.sink.Stop.{Stop}
use Rattle.host_top.specs.declared.status.Status.{Status}
use Rattle.host_top.specs.declared.status.Status.TheVariants as ends

-- what one line leaves of an output: the line and this status, or a part of it
abbrev pub SaysLine : Status → List ℕ → SinkState → SinkState → Status → Type 0
SaysLine good line output new status =
    (status ≡ good) × Wrote output new line
    ⊎ ((cause : Stop) × (status ≡ status_of_stop cause) × Stopped output new line cause)

-- the line for a journal that isn't one, and for one that is corrupt at this place
abbrev pub bad_journal : List ℕ
bad_journal = codes "bad journal\n"

abbrev pub bad_journal_at : ℕ → List ℕ
bad_journal_at place = codes "bad journal " ++ decimal place ++ codes "\n"

-- what a refusal to open the journal leaves of the output
abbrev pub SaysFault : JournalFault → SinkState → SinkState → Status → Type 0
SaysFault fault.NotJournal output new status =
    SaysLine ends.BadFolder bad_journal output new status
SaysFault (fault.Corrupt place) output new status =
    SaysLine ends.BadFolder (bad_journal_at place) output new status
SaysFault (fault.DiskFault counts) output new status =
    (status ≡ ends.DiskFault) × Wrote output new []
SaysFault fault.NoMemory output new status = (status ≡ ends.NoMemory) × Wrote output new []

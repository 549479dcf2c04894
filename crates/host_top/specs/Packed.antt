-- What `pack` leaves of the journals and stores of two folders and of its output (own).
use Rattle.std.specs.Prelude.{◌≡◌, ◌⊎◌, ℕ, ◌<◌, ◌≤◌, max, IsTrue, List, [], ◌∷◌, ◌++◌, Some, codes}
use Rattle.std.specs.Prelude.{length}
use Rattle.std.specs.Fmt.{decimal}
use Rattle.disk_model.specs.Disk.{Only}
use Rattle.disk_model.specs.Work.{LeavesOnly}
use Rattle.disk_model.specs.declared.disk.Disk.{Ghosts as DiskWords}
use Rattle.gate_journal.specs.Rows.{SpellsRows}
use Rattle.gate_journal.specs.Scan.{LooksAlone}
use Rattle.gate_journal.specs.declared.row.Row.{Row}
use Rattle.journal_pack.specs.Faults.{HasPackCause, IsBefore, IsNoOldFault, Refuses}
use Rattle.journal_pack.specs.Images.{IsRefused, NoneOrAll, closed_journal}
use Rattle.journal_pack.specs.Live.{AreRowsOf, live_rows, packed}
use Rattle.journal_pack.specs.declared.fault.PackFault.{PackFault}
use Rattle.journal_pack.specs.declared.fault.PackFault.TheVariants as fault
use Rattle.line_talk.specs.Streams.{SourceState, SinkState, Gave, Wrote}
use Rattle.line_talk.specs.Writing.{IsPartOf}
use Rattle.host_top.specs.Begun.{EachBack, IsLookedAt, IsTried, MakesAll, Unmade, not_empty}
use Rattle.host_top.specs.Borrowed.{AreNamed, Borrowed, CountsFaults, Lending, NotLent}
use Rattle.host_top.specs.Borrowed.{journal_in, snaps_below}
use Rattle.host_top.specs.Files.{OutsideState, Told}
use Rattle.host_top.specs.Said.{SaysFault, SaysLine}
use Rattle.host_top.specs.Served.{RefusesJournal}
use Rattle.host_top.specs.ToldBytes.{WhereTold}
use Rattle.host_top.specs.declared.status.Status.{Status}
use Rattle.host_top.specs.declared.status.Status.TheVariants as ends

-- the line of a journal that was packed: the rows that were kept, and all of them
abbrev pub packed_line : ℕ → ℕ → List ℕ
packed_line kept all =
    codes "packed " ++ (decimal kept ++ (codes " of " ++ (decimal all ++ codes "\n")))

-- that of these rows
abbrev pub line_of : List Row → List ℕ
line_of rows = packed_line (length (live_rows rows)) (length rows)

-- the journals' disks of both folders, as they were given and as they were put back
pub record Journals (D : Type 0) : Type 0 where
  pub old : D
  pub old_back : D
  pub new : D
  pub new_back : D

-- what one who looks sees of the old journal's disk spells these rows of a journal
abbrev pub AreOldRows : {D : Type 0} → DiskWords D → Journals D → List Row → Type 0
AreOldRows disks both rows = AreRowsOf (disks.tells both.old) (disks.seen both.old) rows

-- The old journal's rows were packed into the new one, whose disk held nothing: a stop leaves the
-- packed journal with a closed gate, and nothing else.
pub record IsPacked {D : Type 0} (disks : DiskWords D) (both : Journals D)
    (output after : SinkState) (status : Status) : Type 0 where
  pub rows : List Row
  pub are : AreOldRows disks both rows
  pub empty : IsTrue (disks.tells both.new) → disks.seen both.new ≡ []
  pub holds :
      IsTrue (disks.tells both.new)
      → Only (closed_journal (packed rows)) (disks.may_leave both.new_back)
  pub old_count : disks.faults both.old_back ≡ disks.faults both.old
  pub new_count : disks.faults both.new_back ≡ disks.faults both.new
  pub says : SaysLine ends.Done (line_of rows) output after status

-- what a refusal to pack leaves of the output
abbrev pub SaysPackFault : PackFault → SinkState → SinkState → Status → Type 0
SaysPackFault (fault.Old why) output after status = SaysFault why output after status
SaysPackFault fault.NotEmpty output after status =
    SaysLine ends.BadFolder not_empty output after status
SaysPackFault (fault.New counts) output after status =
    (status ≡ ends.DiskFault) × Wrote output after []
SaysPackFault fault.NoMemory output after status = (status ≡ ends.NoMemory) × Wrote output after []

-- They weren't, for this fault. Unless it is one of the new disk, that was only looked at.
pub record IsNotPacked {D : Type 0} (disks : DiskWords D) (both : Journals D)
    (output after : SinkState) (status : Status) : Type 0 where
  pub fault : PackFault
  pub refuses :
      Refuses (record { tells = disks.tells both.old; bytes = disks.seen both.old })
      (record { tells = disks.tells both.new; bytes = disks.seen both.new }) fault
  pub cause :
      HasPackCause (record { old = disks.faults both.old; new = disks.faults both.new })
      (record { old = disks.faults both.old_back; new = disks.faults both.new_back }) fault
  pub looks : IsBefore fault → IsLookedAt disks both.new both.new_back
  pub says : SaysPackFault fault output after status

-- One of the two. The old disk was only looked at. Where nothing is pending on the new one, each
-- image of it meanwhile is no journal, or spells all packed rows before a gate that is 0; and
-- nothing is written past the packed journal.
pub record PacksOver {D : Type 0} (disks : DiskWords D) (both : Journals D)
    (output after : SinkState) (status : Status) : Type 0 where
  pub looks :
      LooksAlone disks both.old both.old_back
  pub seen :
      IsTrue (disks.tells both.old)
      → (status ≡ ends.DiskFault) ⊎ (disks.seen both.old_back ≡ disks.seen both.old)
  pub meanwhile :
      IsTrue (disks.tells both.new) → Only [] (disks.may_leave both.new)
      → LeavesOnly disks both.new both.new_back
      (λ c. IsRefused c ⊎ ((rows : List Row) × AreOldRows disks both rows
      × NoneOrAll (packed rows) c))
  pub reaches :
      (disks.reach both.new_back ≡ disks.reach both.new)
      ⊎ ((rows : List Row) × AreOldRows disks both rows
      × (disks.reach both.new_back
      ≤ max (disks.reach both.new) (length (closed_journal (packed rows)))))
  pub does : IsPacked disks both output after status ⊎ IsNotPacked disks both output after status

-- the old disk is as it was given, and the new one was only looked at
pub record LeavesBoth {D : Type 0} (disks : DiskWords D) (both : Journals D) : Type 0 where
  pub old : both.old_back ≡ both.old
  pub new : IsLookedAt disks both.new both.new_back

-- Packed or not, behind all stores of the new folder; or not, behind none, with both disks left; or
-- not all stores were made.
pub record Packs {D : Type 0} (disks : DiskWords D) (folder : List ℕ) (both : Journals D)
    (stores lent : List (Lending D)) (outside beyond : OutsideState D) (output after : SinkState)
    (status : Status) : Type 0 where
  pub borrowed : Borrowed disks outside beyond lent
  pub named : AreNamed (snaps_below folder 64) stores
  pub tried : EachBack (IsTried disks) stores
  pub later : outside.disk_faults ≤ beyond.disk_faults
  pub does :
      CountsFaults disks outside beyond lent
      × (PacksOver disks both output after status × MakesAll disks folder both.new stores
      ⊎ IsNotPacked disks both output after status × LeavesBoth disks both × (stores ≡ []))
      ⊎ Unmade disks both.new both.new_back outside beyond output after status
      × LeavesBoth disks both

-- the disk of a folder's journal, lent and put back
abbrev pub journal_loan : {D : Type 0} → List ℕ → D → D → Lending D
journal_loan folder given back =
    record { name = journal_in folder; given = given; back = Some back }

-- the same of the new folder's disks, the journal's among those that were lent
pub record PacksInto {D : Type 0} (disks : DiskWords D) (folder : List ℕ) (old old_back : D)
    (outside beyond : OutsideState D) (output after : SinkState) (status : Status) : Type 0 where
  pub new : D
  pub new_back : D
  pub stores : List (Lending D)
  pub packs :
      Packs disks folder
      (record { old = old; old_back = old_back; new = new; new_back = new_back }) stores
      (journal_loan folder new new_back ∷ stores) outside beyond output after status

-- or that isn't lent
abbrev pub PacksNew : {D : Type 0} → DiskWords D → List ℕ → D → D → OutsideState D → OutsideState D
    → SourceState → SinkState → SinkState → Status → Type 0
PacksNew disks folder old old_back outside beyond input output after status =
    NotLent disks (journal_in folder ∷ []) outside beyond input input output after status
    × (old_back ≡ old)
    ⊎ PacksInto disks folder old old_back outside beyond output after status

-- the same of the disks of both folders, those of the journals among those that were lent; no input
-- is read
pub record PacksFolders {D : Type 0} (disks : DiskWords D) (old new : List ℕ)
    (outside beyond : OutsideState D) (input now : SourceState) (output after : SinkState)
    (status : Status) : Type 0 where
  pub both : Journals D
  pub stores : List (Lending D)
  pub packs :
      Packs disks new both stores
      (journal_loan old both.old both.old_back ∷ journal_loan new both.new both.new_back ∷ stores)
      outside beyond output after status
  pub gave : Gave input now []

-- or not both journals' disks are lent
abbrev pub PacksOn : {D : Type 0} → DiskWords D → List ℕ → List ℕ → OutsideState D
    → OutsideState D → SourceState → SourceState → SinkState → SinkState → Status → Type 0
PacksOn disks old new outside beyond input now output after status =
    NotLent disks (journal_in old ∷ journal_in new ∷ []) outside beyond input now output after
    status
    ⊎ PacksFolders disks old new outside beyond input now output after status

-- the line of the rows that the old journal spells, where the new one is empty
pub record IsPackedLine {D : Type 0} (disks : DiskWords D) (old new : Told D) (line : List ℕ)
    : Type 0 where
  pub rows : List Row
  pub spelled : WhereTold disks old (λ bytes. SpellsRows bytes rows)
  pub empty : WhereTold disks new (λ bytes. bytes ≡ [])
  pub line_is : line ≡ line_of rows

-- the line by which a packing is refused: the new journal isn't empty, or the old one is refused
abbrev pub RefusesPacking : {D : Type 0} → DiskWords D → Told D → Told D → List ℕ → Type 0
RefusesPacking disks old new line =
    (line ≡ not_empty) × WhereTold disks new (λ bytes. 0 < length bytes)
    ⊎ RefusesJournal disks old line × WhereTold disks new (λ bytes. bytes ≡ [])

-- a part of one of these lines, or nothing
abbrev pub BeginsPacking : {D : Type 0} → DiskWords D → Told D → Told D → List ℕ → Type 0
BeginsPacking disks old new written =
    (written ≡ [])
    ⊎ ((line : List ℕ) × (IsPackedLine disks old new line ⊎ RefusesPacking disks old new line)
    × IsPartOf written line)

-- what `pack` writes, by its exit status, and what is told of both journals' disks
abbrev pub WritesPacked : {D : Type 0} → Status → DiskWords D → Told D → Told D → List ℕ → Type 0
WritesPacked ends.Done disks old new written = IsPackedLine disks old new written
WritesPacked ends.BadWords disks old new written = ⊥
WritesPacked ends.Refused disks old new written = ⊥
WritesPacked ends.ReadFault disks old new written = written ≡ []
WritesPacked ends.WriteFault disks old new written = BeginsPacking disks old new written
WritesPacked ends.DiskFault disks old new written = written ≡ []
WritesPacked ends.NoMemory disks old new written = BeginsPacking disks old new written
WritesPacked ends.BadFolder disks old new written = RefusesPacking disks old new written
WritesPacked ends.DoorFault disks old new written = ⊥
WritesPacked ends.LineLimit disks old new written = ⊥

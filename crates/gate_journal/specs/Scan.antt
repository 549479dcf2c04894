-- What a journal is to one who only looks at it (own).
use Rattle.std.specs.Prelude.{IsTrue}
use Rattle.disk_model.specs.Disk.{NoneNew}
use Rattle.disk_model.specs.Work.{OnlyLooks}
use Rattle.disk_model.specs.declared.disk.Disk.{Ghosts as DiskWords}
use Rattle.gate_journal.specs.declared.row.Row.{Row}

-- the row, with the number 0: no pass made it
abbrev pub unnumbered : Row → Row
unnumbered r =
    record { place = r.place; session = r.session; by = 0; command = r.command }

-- nothing was written and nothing synced: what a stop may leave is what it might leave before
pub record LooksAlone
    {D : Type 0} (disks : DiskWords D) (old new : D) : Type 0 where
  pub looks : OnlyLooks disks old new
  pub none_lost : IsTrue (disks.tells old) → NoneNew (disks.may_leave new) (disks.may_leave old)

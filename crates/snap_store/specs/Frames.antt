-- What a call leaves of its disk, and why it failed (own).
use Rattle.std.specs.Prelude.{◌≡◌, ℕ, ◌≤◌}
use Rattle.disk_model.specs.Disk.{Rose}
use Rattle.snap_store.specs.declared.fault.DiskFault.{DiskFault}
use Rattle.snap_store.specs.declared.fault.NewestFault.{NewestFault}
use Rattle.snap_store.specs.declared.fault.NewestFault.TheVariants.{DiskFault as disk_fault}
use Rattle.snap_store.specs.declared.fault.NewestFault.TheVariants.{NoMemory}

-- the count of faults at entry and at the end; it rose between them
pub record IsFaultOfDisk (before now : ℕ) (fault : DiskFault) : Type 0 where
  pub from : fault.from ≡ before
  pub to : fault.to ≡ now
  pub later : before ≤ now
  pub rose : Rose before now

-- the disk failed in this call, or memory ran out and it didn't
abbrev pub HasNewestCause : ℕ → ℕ → NewestFault → Type 0
HasNewestCause before now (disk_fault fault) = IsFaultOfDisk before now fault
HasNewestCause before now NoMemory = now ≡ before

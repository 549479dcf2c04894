-- Device calls behind others that were good.
use Rattle.std.proofs.Common.{◌≡◌, ◌+◌, ◌≤◌, ℕ, arith}
use Rattle.std.specs.Prelude.{Result, Ok, Err}
use Rattle.disk_model.specs.Work.{GoodCalls, MakesCalls}
use Rattle.disk_model.specs.declared.disk.Disk.{Ghosts as DiskWords}
use Rattle.disk_model.proofs.CountLaws.{good_then, failed_then}

pub calls_then :
    {D T E : Type 0} (disks : DiskWords D) {old mid : D} (new : D) (result : Result T E)
    (n m end far : ℕ) → GoodCalls disks n old mid → disks.room mid ≡ disks.room old → end ≤ far
    → MakesCalls disks end m result mid new → MakesCalls disks far (n + m) result old new
calls_then disks new (Ok x) n m end far good same le calls = good_then n m good calls
calls_then disks new (Err e) n m end far good same le calls = (
  n + calls.0,
  omega (arith, calls.1),
  failed_then n calls.0 end far good same le calls.2,
)

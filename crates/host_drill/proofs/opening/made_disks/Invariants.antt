use Rattle.std.proofs.Common.{◌≡◌, length}
use Rattle.turn_cell.specs.History.{Each}
use Rattle.disk_model.specs.Memory.{disk_state_in}
use Rattle.disk_model.specs.declared.memory.MemDisk.{MemDisk}
use Rattle.snap_store.specs.File.{empty_snapshot_file}
use Rattle.host_drill.proofs.opening.made_disks.Given as goal

abbrev pub invariant-loop : goal.invariant-loop
invariant-loop l = record {
  many : length l.disks.items ≡ l.counter;
  made : Each (λ (d : MemDisk). (disk_state_in d).seen ≡ empty_snapshot_file) l.disks.items;
}

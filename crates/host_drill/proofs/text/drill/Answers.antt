use Rattle.std.proofs.Common.{◌≡◌}
use Rattle.disk_model.specs.Memory.{disk_state_in}
use Rattle.disk_model.specs.declared.memory.MemDisk.{MemDisk}
use Rattle.snap_store.specs.File.{empty_snapshot_file}
use Rattle.host_drill.proofs.OpenLemmas.{each_told}
use Rattle.host_drill.proofs.text.drill.Goals as goal

pub drill_over-requires-clause-made : goal.drill_over-requires-clause-made
drill_over-requires-clause-made c opened = record {
  many = opened.in_ok-snaps.ensures.many;
  each =
      each_told (λ (d : MemDisk). (disk_state_in d).seen ≡ empty_snapshot_file) _
      opened.in_ok-snaps.ensures.made;
}

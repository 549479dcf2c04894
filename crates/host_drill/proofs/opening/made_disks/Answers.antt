use Rattle.std.proofs.Common.{◌≡◌, List, arith, sym, subst}
use Rattle.turn_cell.specs.History.{Each}
use Rattle.turn_cell.proofs.HistoryLemmas.{each_append}
use Rattle.disk_model.specs.Memory.{disk_state_in}
use Rattle.disk_model.specs.declared.memory.MemDisk.{MemDisk}
use Rattle.snap_store.specs.File.{empty_snapshot_file}
use Rattle.host_drill.proofs.opening.made_disks.Goals as goal

abbrev HasNewFile : MemDisk → Type 0
HasNewFile d = (disk_state_in d).seen ≡ empty_snapshot_file

pub loop-preserved : goal.loop-preserved
loop-preserved c = record {
  many = omega (arith, c.in_ok-push.ensures.len, c.loop.invariant.many);
  made = subst (λ (ds : List MemDisk). Each HasNewFile ds) (sym c.in_ok-push.ensures.items)
      (each_append HasNewFile c.loop.disks.items _ c.loop.invariant.made
      (c.in_ok-made.ensures.ok.1, tt));
}

use Rattle.std.proofs.Common.{◌≡◌, ◌≤◌, [], ◌++◌, List, vec_capacity}
use Rattle.std.specs.List.{AllZip}
use Rattle.std.specs.Vec.Iter.{drain_items, drain_kept, drain_capacity}
use Rattle.host_serve.specs.Opening.{IsStoreOf}
use Rattle.host_serve.proofs.desks.open_stores.Given as goal

abbrev pub invariant-loop-disk : goal.invariant-loop-disk
invariant-loop-disk g l = record {
  can : (goal.iterator-loop-disk g).can_next l.disk-iterator;
  finite : (goal.iterator-loop-disk g).is_finite l.disk-iterator;
  opened : (done : List g.row.D.Denot)
      × (l.fn.disks.items ≡ done ++ drain_items l.disk-iterator)
      × AllZip (IsStoreOf g.D.Disk) done l.stores.items;
  room : vec_capacity l.stores ≡ 64;
  kept : (drain_kept l.disk-iterator ≡ []) × (64 ≤ drain_capacity l.disk-iterator);
}

use Rattle.std.proofs.Common.{◌≡◌, ◌++◌, List, length}
use Rattle.std.specs.Vec.Iter.{into_iter_items}
use Rattle.snap_store.specs.Store.{Snapshots}
use Rattle.turn_cell.specs.Passes.{IsOf, IsOutside, KeepsNumbers, made, seen}
use Rattle.host_serve.specs.Hosts.{cell_id}
use Rattle.host_serve.specs.Opening.{AreOpenedDesks}
use Rattle.host_serve.proofs.desks.open_desks.Given as goal

abbrev pub invariant-loop-store : goal.invariant-loop-store
invariant-loop-store g l = record {
  can : (goal.iterator-loop-store g).can_next l.store-iterator;
  finite : (goal.iterator-loop-store g).is_finite l.store-iterator;
  opened : (done : List (Snapshots g.row.D.Denot))
      × (l.fn.stores.items ≡ done ++ into_iter_items l.store-iterator)
      × AreOpenedDesks l.stories l.budget (cell_id l.journal) l.rows done l.cells.items
      l.passes.items
      × (made l.root ≡ length done);
  root : IsOf l.journal l.root × IsOutside l.root × KeepsNumbers l.fn.root l.root
      × (seen l.root ≡ seen l.fn.root);
}

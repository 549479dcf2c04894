use Rattle.std.proofs.Common.{◌≡◌, ◌≤◌, ◌<◌, ◌-◌, ◌^◌, drop}
use Rattle.std.specs.Ordering.{nat_cmp}
use Rattle.vm_search.proofs.KeyLemmas.{tail}
use Rattle.vm_search.proofs.key.order.Given as goal

abbrev pub invariant-loop-index : goal.invariant-loop-index
invariant-loop-index l = record {
  room : l.index ≤ l.size;
  one : tail l.index l.size (drop l.left l.memory.bytes) < 256 ^ (l.size - l.index);
  other : tail l.index l.size (drop l.right l.memory.bytes) < 256 ^ (l.size - l.index);
  sofar : l.order ≡ nat_cmp
      (tail l.index l.size (drop l.left l.memory.bytes))
      (tail l.index l.size (drop l.right l.memory.bytes));
}

abbrev pub decreases-loop-index : goal.decreases-loop-index
decreases-loop-index l = l.index

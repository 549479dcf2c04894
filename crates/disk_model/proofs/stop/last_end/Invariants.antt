use Rattle.std.proofs.Common.{◌≡◌, ◌≤◌, max, drop}
use Rattle.disk_model.specs.DiskState.{greatest_end}
use Rattle.disk_model.proofs.stop.last_end.Given as goal

abbrev pub invariant-loop-range : goal.invariant-loop-range
invariant-loop-range l =
    (l.size ≤ l.end)
    × (max l.end (greatest_end (drop l.range-index l.ranges) l.size) ≡ greatest_end l.ranges l.size)

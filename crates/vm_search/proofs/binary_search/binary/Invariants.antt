use Rattle.std.proofs.Common.{◌≡◌, ◌≤◌, ◌-◌, ◌+◌, ◌*◌, ◌^◌}
use Rattle.vm_search.specs.Ending.{first_ending}
use Rattle.vm_search.specs.Binary.{binary_ends, interval_at}
use Rattle.vm_search.proofs.binary_search.binary.Given as goal

abbrev pub invariant-loop-interval : goal.invariant-loop-interval
invariant-loop-interval l = record {
  room : l.looked ≤ l.query.left;
  order : l.interval.low ≤ l.interval.high;
  width : (l.interval.high - l.interval.low) * 2 ^ l.looked ≤ l.query.count;
  cost : 2 ^ l.looked ≤ 2 * l.query.count + 1;
  here : interval_at l.memory l.query l.looked ≡ l.interval;
  sofar : first_ending (binary_ends l.memory l.query) 0 4294967296
      ≡ first_ending (binary_ends l.memory l.query) l.looked (4294967296 - l.looked);
}

abbrev pub decreases-loop-interval : goal.decreases-loop-interval
decreases-loop-interval l = l.interval.high - l.interval.low

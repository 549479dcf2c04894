use Rattle.std.proofs.Common.{◌≡◌, ◌≤◌, ◌-◌}
use Rattle.vm_search.specs.Ending.{first_ending}
use Rattle.vm_search.specs.Linear.{linear_ends}
use Rattle.vm_search.proofs.linear_search.linear.Given as goal

abbrev pub invariant-loop-looked : goal.invariant-loop-looked
invariant-loop-looked l = record {
  room : l.looked ≤ l.query.left;
  sofar : first_ending (linear_ends l.memory l.query) 0 4294967296
      ≡ first_ending (linear_ends l.memory l.query) l.looked (4294967296 - l.looked);
}

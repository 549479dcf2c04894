use Rattle.std.proofs.Common.{◌≡◌, ◌≤◌, ◌-◌}
use Rattle.vm_search.specs.Ending.{first_ending}
use Rattle.vm_search.specs.Linked.{linked_ends, chain_place}
use Rattle.vm_search.proofs.linked_search.linked.Given as goal

abbrev pub invariant-loop-looked : goal.invariant-loop-looked
invariant-loop-looked l = record {
  room : l.looked ≤ l.query.left;
  here : chain_place l.memory l.query l.looked ≡ l.at;
  sofar : first_ending (linked_ends l.memory l.query) 0 4294967296
      ≡ first_ending (linked_ends l.memory l.query) l.looked (4294967296 - l.looked);
}

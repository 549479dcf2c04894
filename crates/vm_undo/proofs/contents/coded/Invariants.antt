use Rattle.std.proofs.Common.{◌≡◌, ◌≤◌, ◌-◌, ◌++◌, drop}
use Rattle.vm_undo.specs.Contents.{changes, contents}
use Rattle.vm_undo.specs.Runs.{runs_coded}
use Rattle.vm_undo.proofs.contents.coded.Given as goal

abbrev pub invariant-loop-at : goal.invariant-loop-at
invariant-loop-at l = record {
  least : l.memory.ramstart ≤ l.at;
  within : l.at ≤ l.size;
  coded : l.out.items ++ runs_coded 0 (drop (l.at - l.memory.ramstart) (changes l.memory))
      ≡ contents l.memory;
}

abbrev pub decreases-loop-at : goal.decreases-loop-at
decreases-loop-at l = l.size - l.at

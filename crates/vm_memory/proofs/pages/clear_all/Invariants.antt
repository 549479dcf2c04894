use Rattle.std.proofs.Common.{◌≤◌, ◌-◌, ℕ, List, replicate}
use Rattle.vm_memory.specs.Pages.{PutsBytes}
use Rattle.vm_memory.proofs.pages.clear_all.Given as goal

abbrev pub invariant-loop-done : goal.invariant-loop-done
invariant-loop-done l = record {
  within : l.done ≤ l.count;
  puts : (rom : List ℕ) → PutsBytes rom l.initial.rows.items l.rows.items l.at (replicate l.done 0);
}

abbrev pub decreases-loop-done : goal.decreases-loop-done
decreases-loop-done l = l.count - l.done

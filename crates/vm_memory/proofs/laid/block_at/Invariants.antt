use Rattle.std.proofs.Common.{◌≡◌, ◌≤◌, ◌+◌, ◌-◌, ℕ, drop, take}
use Rattle.vm_memory.specs.Pages.{laid}
use Rattle.vm_memory.proofs.laid.block_at.Given as goal

abbrev pub invariant-loop-done : goal.invariant-loop-done
invariant-loop-done l = record {
  within : l.done ≤ l.count;
  same : (size : ℕ) → l.at + l.count ≤ size
      → l.block.items ≡ take l.done (drop l.at (laid l.rom l.ramstart l.rows size));
}

abbrev pub decreases-loop-done : goal.decreases-loop-done
decreases-loop-done l = l.count - l.done

use Rattle.std.proofs.Common.{◌≡◌, ◌≤◌, ◌+◌, ◌-◌, ◌++◌, ℕ, drop, take}
use Rattle.vm_memory.specs.Pages.{laid}
use Rattle.vm_memory.proofs.laid.append_span.Given as goal

abbrev pub invariant-loop-i : goal.invariant-loop-i
invariant-loop-i l = (size : ℕ) → l.at + l.count ≤ size → l.block.items
    ≡ l.initial.block.items ++ take (l.i - l.at) (drop l.at (laid l.rom l.ramstart l.rows size))

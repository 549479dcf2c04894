use Rattle.std.proofs.Common.{◌≡◌, ◌≤◌, ◌<◌, ◌+◌, ℕ, slice_index}
use Rattle.vm_memory.proofs.changes.changed_across.Given as goal

abbrev pub invariant-loop-k : goal.invariant-loop-k
invariant-loop-k l = (j : ℕ) → l.from ≤ j → j < l.k
    → slice_index l.page j ≡ slice_index l.rom (l.first + j)

use Rattle.std.proofs.Common.{◌≡◌, ℕ, ◌-◌, length}
use Rattle.vm_memory.specs.Pages.{items_at}
use Rattle.vm_memory.proofs.table.grow.Given as goal

abbrev pub invariant-loop-alloc : goal.invariant-loop-alloc
invariant-loop-alloc g l =
    (k : ℕ) → items_at l.vectors.items k ≡ items_at l.initial.vectors.items k

abbrev pub decreases-loop-alloc : goal.decreases-loop-alloc
decreases-loop-alloc g l = l.n - length l.vectors.items

use Rattle.std.proofs.Common.{◌≡◌, ◌<◌, ℕ, length}
use Rattle.vm_memory.specs.Pages.{items_at}
use Rattle.vm_memory.proofs.table.copy_rows.Given as goal

abbrev pub invariant-loop-row : goal.invariant-loop-row
invariant-loop-row l = record {
  count : length l.copy.items ≡ l.row-index;
  same : (k : ℕ) → k < l.row-index → (j : ℕ)
      → items_at (items_at l.copy.items k) j ≡ items_at (items_at l.rows k) j;
}

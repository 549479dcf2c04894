use Rattle.std.proofs.Common.{◌≡◌, ◌<◌, ℕ, length}
use Rattle.vm_memory.specs.Pages.{items_at}
use Rattle.vm_memory.proofs.table.copy_row.Given as goal

abbrev pub invariant-loop-page : goal.invariant-loop-page
invariant-loop-page l = record {
  count : length l.row.items ≡ l.page-index;
  same : (k : ℕ) → k < l.page-index → items_at l.row.items k ≡ items_at l.pages k;
}

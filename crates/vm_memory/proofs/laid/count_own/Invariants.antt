use Rattle.std.proofs.Common.{◌≡◌, ◌≤◌}
use Rattle.std.specs.Prelude.{count_by}
use Rattle.std.specs.List.{range_with_len}
use Rattle.vm_memory.specs.OwnPages.{page_differs}
use Rattle.vm_memory.specs.Pages.{laid}
use Rattle.vm_memory.proofs.laid.count_own.Given as goal

abbrev pub invariant-loop-number : goal.invariant-loop-number
invariant-loop-number l = record {
  count : l.count ≡ count_by (page_differs l.rom (laid l.rom l.ramstart l.rows l.size))
      (range_with_len 0 l.number);
  few : l.count ≤ l.number;
}

use Rattle.std.proofs.Common.{◌≤◌, ◌<◌, ◌/◌, ℕ}
use Rattle.vm_memory.specs.Pages.{IsHeld, Shows}
use Rattle.vm_memory.proofs.pages.hold_all.Given as goal

abbrev pub invariant-loop-number : goal.invariant-loop-number
invariant-loop-number l = record {
  shows : Shows l.rom l.initial.rows.items l.rows.items;
  held : (k : ℕ) → l.at / 256 ≤ k → k < l.number → IsHeld l.rows.items k;
}

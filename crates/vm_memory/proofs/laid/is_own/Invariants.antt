use Rattle.std.proofs.Common.{◌≡◌, ◌≤◌, ◌<◌, ℕ, slice_index}
use Rattle.vm_memory.specs.Pages.{byte_of}
use Rattle.vm_memory.proofs.laid.is_own.Given as goal

abbrev pub invariant-loop-at : goal.invariant-loop-at
invariant-loop-at l = (i : ℕ) → l.start ≤ i → i < l.at
    → byte_of l.rom l.ramstart l.rows i ≡ slice_index l.rom i

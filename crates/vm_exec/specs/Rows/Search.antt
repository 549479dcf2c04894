-- Blocks, searches and the heap (Glulx 3.1.3, "Block Copy and Clear", "Searching").
use Rattle.std.specs.Prelude.{ℕ, ◌/◌, length}
use Rattle.vm_memory.specs.Chaining.{◌>>=◌}
use Rattle.vm_memory.specs.Access.{zeroed, copied}
use Rattle.vm_memory.specs.Fault.{coded}
use Rattle.vm_operand.specs.declared.opcode.Search.{Search}
use Rattle.vm_operand.specs.declared.opcode.Search.TheVariants.{Linearsearch, Binarysearch}
use Rattle.vm_operand.specs.declared.opcode.Search.TheVariants.{Linkedsearch, Mzero, Mcopy, Malloc}
use Rattle.vm_operand.specs.declared.opcode.Search.TheVariants.{Mfree}
use Rattle.vm_operand.specs.declared.operand.Dest as d
use Rattle.vm_exec.specs.Rows.Searching.{linear_work, binary_work, linked_work}
use Rattle.vm_exec.specs.Rows.Heap.{mallocs, frees}
use Rattle.vm_exec.specs.Rows.Work.{Work, Costs}
use Rattle.vm_exec.specs.declared.machine.Machine.{Machine}
use Rattle.vm_exec.specs.Rules.{Rule, goes}

abbrev pub zeroes : Machine → ℕ → ℕ → Rule
zeroes m n at = coded (zeroed m.memory at n) >>= (λ memory. goes (record m { memory = memory }))

abbrev pub copies_block : Machine → ℕ → ℕ → ℕ → Rule
copies_block m n from to =
    coded (copied m.memory n from to) >>= (λ memory. goes (record m { memory = memory }))

unfoldable pub search_work : Search → Machine → (ℕ → ℕ) → (ℕ → d.Dest) → Work
search_work Mzero m l d = Costs (l 0 / 16) (zeroes m (l 0) (l 1))
search_work Mcopy m l d = Costs (l 0 / 16) (copies_block m (l 0) (l 1) (l 2))
search_work Linearsearch m l d = linear_work m l (d 0)
search_work Binarysearch m l d = binary_work m l (d 0)
search_work Linkedsearch m l d = linked_work m l (d 0)
search_work Malloc m l d = Costs (length m.heap.blocks) (mallocs m (l 0) (d 0))
search_work Mfree m l d = Costs (length m.heap.blocks) (frees m (l 0))

-- The size of memory, and the heap (Glulx 3.1.3, "Memory Map" and "Memory Allocation Heap").
use Rattle.std.specs.Prelude.{ℕ, ◌%◌, ◌==◌, ◌||◌, not, max, nat_lt}
use Rattle.std.specs.Prelude.{if◌then◌else◌, length, Option, Some, None, Result, Ok, Err}
use Rattle.vm_memory.specs.Chaining.{◌>>=◌}
use Rattle.vm_memory.specs.MemoryMap.{resized}
use Rattle.vm_memory.specs.declared.memory.TheConstants.{MAX_SIZE}
use Rattle.vm_heap.specs.HeapMap.{HeapMap, heap_end}
use Rattle.vm_heap.specs.Allocation.{malloced, freed}
use Rattle.vm_heap.specs.declared.fault.HeapFault.{HeapFault}
use Rattle.vm_heap.specs.declared.fault.HeapFault.TheVariants.{BadBlock}
use Rattle.vm_operand.specs.declared.operand.Dest as d
use Rattle.vm_memory.specs.declared.faults.TheConstants.{BAD_BLOCK, BAD_SIZE}
use Rattle.vm_exec.specs.declared.machine.Machine.{Machine}
use Rattle.vm_exec.specs.Rules.{Rule, goes, puts, stored}

-- the size is set and 0 stored, or 1 where it would be too great; no size but a page from ENDMEM on
-- is taken, and none while the heap is active
abbrev pub size_set : Machine → ℕ → d.Dest → Result Machine ℕ
size_set m size to =
    if not (m.heap.start == 0) || not (size % 256 == 0) || nat_lt size m.memory.endmem
    then Err BAD_SIZE
    else (if nat_lt MAX_SIZE size then stored m to 1
    else stored (record m { memory = resized m.memory size }) to 0)

abbrev pub resizes : Machine → ℕ → d.Dest → Rule
resizes m size to = size_set m size to >>= goes

-- with this heap, and with memory that ends here, but not before ENDMEM
abbrev pub with_heap : Machine → HeapMap → ℕ → Machine
with_heap m h end =
    record m { heap = h; memory = resized m.memory (max m.memory.endmem end) }

-- a new block's address, or 0 where it would pass the greatest size; memory ends where the last
-- block does
abbrev pub block_given : Machine → Option ℕ × HeapMap → Machine × ℕ
block_given m (None, h) = (record m { heap = h }, 0)
block_given m (Some at, h) = (with_heap m h (heap_end h.blocks), at)

abbrev pub allocated : Machine → ℕ → Machine × ℕ
allocated m size = block_given m (malloced m.heap size (length m.memory.bytes))

abbrev pub mallocs : Machine → ℕ → d.Dest → Rule
mallocs m size to =
    if size == 0 then Err BAD_SIZE else (let x = allocated m size in puts x.0 to x.1)

abbrev pub heap_coded : {A : Type 0} → Result A HeapFault → Result A ℕ
heap_coded (Ok x) = Ok x
heap_coded (Err (BadBlock at)) = Err BAD_BLOCK

-- where memory ends: behind the last block, or again where the heap began that isn't active any
-- more
abbrev pub memory_end : ℕ → HeapMap → ℕ
memory_end start h = if h.start == 0 then start else heap_end h.blocks

abbrev pub freed_at : Machine → ℕ → Result Machine ℕ
freed_at m at =
    heap_coded (freed m.heap at)
    >>= (λ h. Ok (with_heap m h (memory_end m.heap.start h)))

abbrev pub frees : Machine → ℕ → Rule
frees m at = freed_at m at >>= goes

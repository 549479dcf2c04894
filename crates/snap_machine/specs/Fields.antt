-- The fields of a machine that waits, by its parts (own: docs/FORMATS.md, "Snapshot bytes").
use Rattle.std.specs.Prelude.{ℕ, ◌==◌, ◌&&◌, nat_le, if◌then◌else◌, List, length, map}
use Rattle.std.specs.Prelude.{Option, Some, None}
use Rattle.glulx_image.specs.Header.{stack_size}
use Rattle.quetzal.specs.Save.{origin}
use Rattle.vm_exec.specs.declared.fields.MachineFields.{MachineFields}
use Rattle.vm_heap.specs.HeapMap.{HeapMap, is_heap}
use Rattle.vm_heap.specs.declared.block.Block.{Block}
use Rattle.vm_memory.specs.MemoryMap.{MemoryMap}
use Rattle.vm_operand.specs.declared.operand.Dest.{Dest}
use Rattle.vm_operand.specs.declared.operand.Dest.TheVariants.{Discard, At, Local, Push}
use Rattle.vm_stack.specs.StackState.{StackState}
use Rattle.vm_undo.specs.Contents.{memory_of_contents}
use Rattle.vm_undo.specs.UndoList as kept
use Rattle.vm_undo.specs.UndoList.{UndoList}
use Rattle.vm_undo.specs.declared.kept.KeptState.{KeptState}
use Rattle.snap_fields.specs.Reading.{◌>>=◌}
use Rattle.snap_fields.specs.declared.fields.SnapStub.{SnapStub}
use Rattle.snap_fields.specs.declared.fields.UndoState.{UndoState}
use Rattle.snap_machine.specs.declared.parts.MachineParts.{MachineParts}

-- the memory whose CMem chunk has these contents
abbrev pub memory_from_chunk : List ℕ → List ℕ → Option MemoryMap
memory_from_chunk image contents = memory_of_contents (origin image) contents

-- the stack with these bytes and this frame; none where it is larger than the story's
abbrev pub stack_of : List ℕ → List ℕ → ℕ → Option StackState
stack_of image bytes frame =
    if nat_le (length bytes) (stack_size image)
    then Some (record { bytes = bytes; frame = frame; limit = stack_size image })
    else None

-- the heap with this start and these blocks, where there may be one
abbrev pub heap_from_fields : ℕ → List Block → Option HeapMap
heap_from_fields start blocks =
    if is_heap start blocks then Some (record { start = start; blocks = blocks }) else None

-- a state as undo keeps it
abbrev pub kept_state : UndoState → KeptState
kept_state s = record {
  contents = s.contents;
  stack = s.stack;
  heap = s.heap;
  heap_start = s.heap_start;
}

-- what undo keeps where these are its states, the oldest first
abbrev pub undo_of : List ℕ → List UndoState → Option UndoList
undo_of image states = kept.undo_of (origin image) (map kept_state states)

-- the store of a DestType and a DestAddr (Glulx 3.1.3, "Call Stubs")
abbrev pub dest_of_store : SnapStub → Option Dest
dest_of_store s =
    if s.kind == 0 && s.address == 0 then Some Discard
    else (if s.kind == 1 then Some (At s.address)
    else (if s.kind == 2 then Some (Local s.address)
    else (if s.kind == 3 && s.address == 0 then Some Push
    else None)))

-- the fields of a machine of the story with this image, begun with this seed, that has these parts
-- and waits with this store
abbrev pub fields_with : List ℕ → ℕ → MachineParts → SnapStub → Option MachineFields
fields_with image seed p store = do
  memory ← memory_from_chunk image p.machine.memory
  stack ← stack_of image p.machine.stack p.machine.frame
  heap ← heap_from_fields p.machine.heap_start p.machine.heap
  undo ← undo_of image p.undo
  to ← dest_of_store store
  Some (record {
    memory = memory;
    stack = stack;
    pc = p.machine.pc;
    mode = p.settings.mode;
    rock = p.settings.rock;
    string_table = p.settings.string_table;
    store = to;
    heap = heap;
    undo = undo;
    protection = record {
      start = p.settings.protect_start;
      length = p.settings.protect_length;
    };
    random = record {
      seed = seed;
      fresh = p.random.fresh;
      start = p.random.start;
      stream = p.random.stream;
      taken = p.random.taken;
    };
  })

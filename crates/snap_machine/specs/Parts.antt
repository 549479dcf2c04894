-- What a world's bytes say of its machine (own: docs/FORMATS.md, "Snapshot bytes").
use Rattle.std.specs.Prelude.{ℕ, List, [], map}
use Rattle.quetzal.specs.Save.{image_memory}
use Rattle.vm_exec.specs.Fields.{store_fields}
use Rattle.vm_exec.specs.declared.machine.Machine.{Machine}
use Rattle.vm_exec.specs.declared.random.Random.{Random}
use Rattle.vm_exec.specs.declared.step.Waiting.{Waiting}
use Rattle.vm_exec.specs.declared.step.Waiting.TheVariants as waits
use Rattle.snap_fields.specs.declared.fields.SnapMachine.{SnapMachine}
use Rattle.snap_fields.specs.declared.fields.SnapRandom.{SnapRandom}
use Rattle.snap_fields.specs.declared.fields.Settings.{Settings}
use Rattle.snap_fields.specs.declared.fields.SnapStub.{SnapStub}
use Rattle.snap_fields.specs.declared.fields.UndoState.{UndoState}
use Rattle.vm_undo.specs.Contents.{contents}
use Rattle.vm_undo.specs.UndoList.{kept_of}
use Rattle.vm_undo.specs.declared.kept.KeptState.{KeptState}
use Rattle.snap_machine.specs.declared.parts.MachineParts.{MachineParts}

-- ---- a machine that waits for a result

-- where it stands: its memory is told by the contents of its CMem chunk
abbrev pub machine_place : Machine → SnapMachine
machine_place m = record {
  pc = m.pc;
  frame = m.stack.frame;
  memory = contents m.memory;
  stack = m.stack.bytes;
  heap_start = m.heap.start;
  heap = m.heap.blocks;
}

abbrev pub settings_of : Machine → Settings
settings_of m = record {
  mode = m.mode;
  rock = m.rock;
  string_table = m.string_table;
  protect_start = m.protection.start;
  protect_length = m.protection.length;
}

-- its random words; their seed is the session's, and told elsewhere
abbrev pub random_words : Random → SnapRandom
random_words r = record { start = r.start; stream = r.stream; taken = r.taken; fresh = r.fresh }

-- a state as undo keeps it
abbrev pub kept_fields : KeptState → UndoState
kept_fields k = record {
  contents = k.contents;
  stack = k.stack;
  heap_start = k.heap_start;
  heap = k.heap;
}

-- the parts of a machine; the undo states stand as they are kept, the oldest first
abbrev pub machine_parts : Machine → MachineParts
machine_parts m = record {
  machine = machine_place m;
  settings = settings_of m;
  random = random_words m.random;
  undo = map kept_fields (map kept_of m.undo.states);
}

-- the store that a machine waits with; zeros where a save is waited for
abbrev pub waiting_store : Waiting → SnapStub
waiting_store (waits.Store to) =
    record { kind = (store_fields to).0; address = (store_fields to).1 }
waiting_store waits.Stub = record { kind = 0; address = 0 }

abbrev pub store : Machine → SnapStub
store m = waiting_store m.waiting

-- ---- a machine that is put back

-- the image's memory, an empty stack, no heap, no undo state, and zeros
abbrev pub put_back : List ℕ → MachineParts
put_back image = record {
  machine = record {
    pc = 0;
    frame = 0;
    memory = contents (image_memory image);
    stack = [];
    heap_start = 0;
    heap = [];
  };
  settings = record {
    mode = 0;
    rock = 0;
    string_table = 0;
    protect_start = 0;
    protect_length = 0;
  };
  random = record { start = 0; stream = 0; taken = 0; fresh = 0 };
  undo = [];
}

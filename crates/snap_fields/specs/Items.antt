-- The items, read from the left (own: docs/FORMATS.md, "Snapshot bytes").
use Rattle.std.specs.Prelude.{ℕ, ◌==◌, if◌then◌else◌, List}
use Rattle.vm_heap.specs.declared.block.Block.{Block}
use Rattle.snap_fields.specs.Reading.{Reader, ◌then◌, led_by, reader_made, none_at, pure_at, n1_at}
use Rattle.snap_fields.specs.Reading.{n4_at, n8_at, list_at, bytes_at}
use Rattle.snap_fields.specs.declared.fields.SnapMachine.{SnapMachine}
use Rattle.snap_fields.specs.declared.fields.Numbers.{Numbers}
use Rattle.snap_fields.specs.declared.fields.SnapRandom.{SnapRandom}
use Rattle.snap_fields.specs.declared.fields.Settings.{Settings}
use Rattle.snap_fields.specs.declared.fields.SnapSetup.{SnapSetup}
use Rattle.snap_fields.specs.declared.fields.SnapStub.{SnapStub}
use Rattle.snap_fields.specs.declared.fields.UndoState.{UndoState}
use Rattle.snap_fields.specs.declared.fields.SnapWaiting.{SnapWaiting}
use Rattle.snap_fields.specs.declared.fields.SnapWaiting.TheVariants.{Quit, Fault, Select, Prompt}

-- ---- 1. the beginning

abbrev pub setup_item : ℕ × (ℕ × (ℕ × ℕ)) → SnapSetup
setup_item (seed, (cols, (rows, budget))) =
    record { seed = seed; cols = cols; rows = rows; budget = budget }

unfoldable pub setup_at : Reader SnapSetup
setup_at = reader_made setup_item (n8_at then n1_at then n1_at then n8_at)

-- ---- 2. the machine

abbrev pub block_of : ℕ × ℕ → Block
block_of (at, length) = record { at = at; length = length }

unfoldable pub block_at : Reader Block
block_at = reader_made block_of (n4_at then n4_at)

abbrev pub machine_item
    : ℕ × (ℕ × (List ℕ × (List ℕ × (ℕ × List Block)))) → SnapMachine
machine_item (pc, (frame, (memory, (stack, (heap_start, heap))))) = record {
  pc = pc;
  frame = frame;
  memory = memory;
  stack = stack;
  heap_start = heap_start;
  heap = heap;
}

unfoldable pub machine_at : Reader SnapMachine
machine_at =
    reader_made machine_item
    (n4_at then n4_at then bytes_at then bytes_at then n4_at then list_at block_at)

-- ---- 3. its settings, and its random words

abbrev pub settings_item : ℕ × (ℕ × (ℕ × (ℕ × ℕ))) → Settings
settings_item (mode, (rock, (string_table, (start, length)))) = record {
  mode = mode;
  rock = rock;
  string_table = string_table;
  protect_start = start;
  protect_length = length;
}

unfoldable pub settings_at : Reader Settings
settings_at = reader_made settings_item (n4_at then n4_at then n4_at then n4_at then n4_at)

abbrev pub random_of : ℕ × (ℕ × (ℕ × ℕ)) → SnapRandom
random_of (start, (stream, (taken, fresh))) =
    record { start = start; stream = stream; taken = taken; fresh = fresh }

unfoldable pub random_at : Reader SnapRandom
random_at = reader_made random_of (n8_at then n8_at then n8_at then n8_at)

-- ---- 4. the states that undo keeps

abbrev pub undo_state_item : List ℕ × (List ℕ × (ℕ × List Block)) → UndoState
undo_state_item (contents, (stack, (heap_start, heap))) =
    record { contents = contents; stack = stack; heap_start = heap_start; heap = heap }

unfoldable pub undo_state_at : Reader UndoState
undo_state_at =
    reader_made undo_state_item (bytes_at then bytes_at then n4_at then list_at block_at)

-- ---- 5. what the story waits for, or how it ended

abbrev pub store_item : ℕ × ℕ → SnapStub
store_item (kind, address) = record { kind = kind; address = address }

unfoldable pub store_at : Reader SnapStub
store_at = reader_made store_item (n4_at then n4_at)

abbrev pub select_of : ℕ × SnapStub → SnapWaiting
select_of (reference, store) = Select reference store

abbrev pub prompt_of : ℕ × (ℕ × (ℕ × SnapStub)) → SnapWaiting
prompt_of (usage, (mode, (rock, store))) = Prompt usage mode rock store

abbrev pub waiting_with : ℕ → Reader SnapWaiting
waiting_with kind =
    if kind == 0 then pure_at Quit
    else (if kind == 1 then reader_made Fault n1_at
    else (if kind == 2 then reader_made select_of (n4_at then store_at)
    else (if kind == 3 then reader_made prompt_of (n4_at then n4_at then n4_at then store_at)
    else none_at)))

unfoldable pub waiting_at : Reader SnapWaiting
waiting_at = led_by n1_at waiting_with

-- ---- 6. numbers of objects

abbrev pub numbers_of : ℕ × (ℕ × (ℕ × (ℕ × ℕ))) → Numbers
numbers_of (window, (stream, (fileref, (root, current)))) = record {
  window = window;
  stream = stream;
  fileref = fileref;
  root = root;
  current = current;
}

unfoldable pub numbers_at : Reader Numbers
numbers_at = reader_made numbers_of (n4_at then n4_at then n4_at then n4_at then n4_at)

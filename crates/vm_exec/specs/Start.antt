-- The machine as a story begins (Glulx 3.1.3, "Execution").
use Rattle.std.specs.Prelude.{◌≡◌, ℕ, List, [], take, Result, Ok}
use Rattle.glulx_image.specs.Header.{ramstart, extstart, endmem, stack_size, start_function}
use Rattle.glulx_image.specs.Header.{string_table}
use Rattle.glulx_image.specs.Checksum.{verified}
use Rattle.vm_memory.specs.Chaining.{◌>>=◌}
use Rattle.vm_memory.specs.MemoryMap.{MemoryMap, memory_of, origin_of}
use Rattle.vm_operand.specs.declared.operand.Dest.TheVariants.{Discard}
use Rattle.vm_stack.specs.StackState.{StackState}
use Rattle.vm_flow.specs.Call.{function_called}
use Rattle.vm_exec.specs.Fault.{flowed}
use Rattle.vm_exec.specs.Machine.{IsWithin, no_heap, no_states}
use Rattle.vm_exec.specs.Random.{seeded}
use Rattle.vm_exec.specs.Rules.{stored}
use Rattle.vm_exec.specs.Rows.Undo.{save_over}
use Rattle.vm_exec.specs.declared.machine.Machine.{Machine}
use Rattle.vm_exec.specs.declared.step.Waiting.{Waiting}
use Rattle.vm_exec.specs.declared.step.Waiting.TheVariants.{Store, Stub}
use Rattle.vm_exec.specs.declared.text.Text.TheVariants.{Off}

-- the memory of a file
abbrev pub image_memory : List ℕ → MemoryMap
image_memory file = memory_of (take (extstart file) file) (ramstart file) (endmem file)

-- a stack with nothing on it
abbrev pub empty_stack : List ℕ → StackState
empty_stack file = record { bytes = []; frame = 0; limit = stack_size file }

-- the machine's memory lies over the image, and its stack has the image's size; what verify stores
-- and what a restart goes back to are the image's; and what undo keeps fits the image's stack
pub record IsOver (image : List ℕ) (m : Machine) : Type 0 where
  pub origin : origin_of m.memory ≡ origin_of (image_memory image)
  pub limit : m.stack.limit ≡ stack_size image
  pub verified : m.verified ≡ verified image
  pub start_function : m.start_function ≡ start_function image
  pub first_table : m.first_table ≡ string_table image
  pub within : IsWithin (stack_size image) m.mode m.undo.states

-- the start function is called without arguments, over an empty stack
abbrev pub started : List ℕ → ℕ → Result Machine ℕ
started file seed =
    flowed (function_called (image_memory file) (empty_stack file) (start_function file) [])
    >>= (λ x. Ok (record {
      memory = image_memory file;
      stack = x.0;
      pc = x.1;
      mode = 0;
      rock = 0;
      string_table = string_table file;
      text = Off;
      waiting = Store Discard;
      verified = verified file;
      heap = no_heap;
      undo = no_states (origin_of (image_memory file));
      protection = record { start = 0; length = 0 };
      random = seeded seed;
      start_function = start_function file;
      first_table = string_table file;
    }))

-- a result is stored, or the stub on top says where it goes
abbrev pub finished_at : Machine → Waiting → ℕ → Result Machine ℕ
finished_at m (Store to) value = stored m to value
finished_at m Stub value = save_over m value

-- the result is stored of the call, the save or the restore that the step before asked for
abbrev pub finished : Machine → ℕ → Result Machine ℕ
finished m value = finished_at m m.waiting value

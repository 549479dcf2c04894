-- Saved states, restart and protection (Glulx 3.1.3, "Game State").
use Rattle.std.specs.Prelude.{ℕ, ◌-◌, ◌/◌, ◌^◌, ◌==◌, if◌then◌else◌, []}
use Rattle.std.specs.Prelude.{length, Option, Some, None, Result, Ok}
use Rattle.vm_memory.specs.Chaining.{◌>>=◌}
use Rattle.vm_memory.specs.MemoryMap.{MemoryMap, reset}
use Rattle.vm_stack.specs.StackState.{StackState}
use Rattle.vm_stack.specs.Frame.{stack_loaded}
use Rattle.vm_stack.specs.Stub.{stub_taken}
use Rattle.vm_flow.specs.Call.{function_called}
use Rattle.vm_undo.specs.Protection.{protected}
use Rattle.vm_undo.specs.UndoList.{answer, has_any, newest, saved, without_newest}
use Rattle.vm_undo.specs.declared.saved.Saved.{Saved}
use Rattle.vm_undo.specs.declared.undo.Kept.{Kept}
use Rattle.vm_undo.specs.declared.undo.Kept.TheVariants as kept
use Rattle.vm_operand.specs.declared.operand.Dest as d
use Rattle.vm_operand.specs.declared.operand.Dest.TheVariants.{Discard}
use Rattle.vm_exec.specs.Fault.{stacked, flowed}
use Rattle.vm_exec.specs.Machine.{no_heap}
use Rattle.vm_exec.specs.declared.machine.Machine.{Machine}
use Rattle.vm_exec.specs.Rules.{Rule, goes, tells_out, puts, stored, stub_dest, with_stub}
use Rattle.vm_exec.specs.declared.step.Out.TheVariants as out
use Rattle.vm_exec.specs.declared.step.Waiting.TheVariants.{Store, Stub}

-- how many pages memory has
abbrev pub pages : Machine → ℕ
pages m = length m.memory.bytes / 256

-- what is saved of a machine
abbrev pub saved_state : Machine → Saved
saved_state m = record {
  memory = m.memory;
  stack = m.stack.bytes;
  heap = m.heap.blocks;
  heap_start = m.heap.start;
}

-- another memory, with the protected bytes of this machine's
abbrev pub sparing : Machine → MemoryMap → MemoryMap
sparing m memory = protected m.memory memory m.protection.start m.protection.length

-- with a saved state in place of memory, stack and heap; the protected bytes stay
abbrev pub with_state : Machine → Saved → Result Machine ℕ
with_state m s =
    stacked (stack_loaded m.stack s.stack)
    >>= (λ stack. Ok (record m {
      memory = sparing m s.memory;
      stack = stack;
      heap = record { start = s.heap_start; blocks = s.heap };
    }))

-- the stub on top is taken, and the story goes on at it with this value as its result
abbrev pub came_back : Machine → ℕ → Result Machine ℕ
came_back m x =
    stacked (stub_taken m.stack)
    >>= (λ s. stub_dest s.1 >>= (λ to. stored (record m { stack = s.0; pc = s.1.pc }) to x))

-- a saved state is restored: its stub's result is -1
abbrev pub resumed : Machine → Saved → Result Machine ℕ
resumed m s = with_state m s >>= (λ n. came_back n (2 ^ 32 - 1))

-- the machine's state is kept, unless it is too large, and whether it is
abbrev pub state_kept : Machine → Machine × Kept
state_kept m = (record m { undo = saved m.undo (saved_state m) }, answer (saved_state m))

-- the result of saveundo: 1 where the state is too large
abbrev pub save_answer : Kept → ℕ
save_answer kept.Kept = 0
save_answer kept.TooLarge = 1

-- the state is kept with a stub for the store on its stack, which is then taken off again with the
-- result
abbrev pub undo_saved : Machine → d.Dest → Result Machine ℕ
undo_saved m to =
    with_stub m to >>= (λ n. came_back (state_kept n).0 (save_answer (state_kept n).1))

-- the newest state is taken and restored; where there is none the result is 1
abbrev pub restored_from : Machine → d.Dest → Option Saved → Result Machine ℕ
restored_from m to None = stored m to 1
restored_from m to (Some s) = resumed m s

abbrev pub undo_restored : Machine → d.Dest → Result Machine ℕ
undo_restored m to =
    restored_from (record m { undo = without_newest m.undo }) to (newest m.undo.states)

abbrev pub stack_emptied : StackState → StackState
stack_emptied s = record s { bytes = []; frame = 0 }

-- the original memory but for the protected bytes, no heap, an empty stack, I/O system 0 and the
-- header's string table; the start function is called without arguments
abbrev pub restarted : Machine → Result Machine ℕ
restarted m =
    flowed
    (function_called (sparing m (reset m.memory)) (stack_emptied m.stack) m.start_function [])
    >>= (λ x. Ok (record m {
      memory = sparing m (reset m.memory);
      heap = no_heap;
      stack = x.0;
      pc = x.1;
      mode = 0;
      rock = 0;
      string_table = m.first_table;
    }))

-- a save to a stream is asked for, with the stub for the store on the stack; its result is 1 where
-- the I/O system isn't Glk
abbrev pub asks_save : Machine → ℕ → d.Dest → Rule
asks_save m stream to =
    if m.mode == 2
    then with_stub m to >>= (λ n. tells_out (record n { waiting = Stub }) (out.Save stream))
    else puts m to 1

-- a restore from a stream is asked for, without a stub; the same
abbrev pub asks_restore : Machine → ℕ → d.Dest → Rule
asks_restore m stream to =
    if m.mode == 2
    then tells_out (record m { waiting = Store to }) (out.Restore stream)
    else puts m to 1

-- a save is over: its stub is taken, and nothing is waited for
abbrev pub save_over : Machine → ℕ → Result Machine ℕ
save_over m x = came_back (record m { waiting = Store Discard }) x

-- the three that are charged for each page of memory
abbrev pub saves_undo : Machine → d.Dest → Rule
saves_undo m to = undo_saved m to >>= goes

abbrev pub restores_undo : Machine → d.Dest → Rule
restores_undo m to = undo_restored m to >>= goes

abbrev pub restarts : Machine → Rule
restarts m = restarted m >>= goes

abbrev pub protects : Machine → ℕ → ℕ → Rule
protects m start n = goes (record m { protection = record { start = start; length = n } })

-- 0 where a state is kept
abbrev pub tells_undo : Machine → d.Dest → Rule
tells_undo m to = puts m to (if has_any m.undo.states then 0 else 1)

abbrev pub discards : Machine → Rule
discards m = goes (record m { undo = without_newest m.undo })

-- Values that the standard's rows give, so that a wrong rule in the specs does not check.
use Rattle.std.proofs.Common.{◌≡◌, ℕ, List, [], ◌∷◌, ◌++◌, Ok, Err, None, refl}
use Rattle.vm_memory.specs.MemoryMap.{MemoryMap}
use Rattle.vm_memory.specs.declared.fault.MemFault.TheVariants.{BadRead}
use Rattle.vm_stack.specs.StackState.{StackState, words}
use Rattle.vm_stack.specs.Frame.{fresh_frame}
use Rattle.vm_flow.specs.Call.{function_called, locals_of}
use Rattle.vm_flow.specs.Return.{given_back}
use Rattle.vm_flow.specs.Throw.{caught, thrown}
use Rattle.vm_flow.specs.declared.stop.FlowStop.TheVariants as stop

-- a memory of these bytes, and an empty stack
abbrev of_bytes : List ℕ → MemoryMap
of_bytes bytes = record { bytes = bytes; ramstart = 0; rom = bytes; endmem = 0 }

abbrev empty : StackState
empty = record { bytes = []; frame = 0; limit = 256 }

-- the frame at 0 of a function without locals, and what stands on it
abbrev frame_with : List ℕ → StackState
frame_with values = record {
  bytes = fresh_frame
      (0 ∷ 0 ∷ []) ++ words values;
  frame = 0;
  limit = 256;
}

-- arguments are cut to their locals, and the fifth is dropped
pub a_c1_gets_locals : function_called (of_bytes (193 ∷ 1 ∷ 3 ∷ 2 ∷ 1 ∷ 0 ∷ 0 ∷ [])) empty 0
    (511 ∷ 2 ∷ 3 ∷ 74565 ∷ 9 ∷ [])
    ≡ Ok (
      record {
        bytes = 0 ∷ 0 ∷ 0 ∷ 24 ∷ 0 ∷ 0 ∷ 0 ∷ 16 ∷ 1 ∷ 3 ∷ 2 ∷ 1 ∷ 0 ∷ 0 ∷ 0 ∷ 0 ∷ 255 ∷ 2 ∷ 3 ∷ 0
            ∷ 35 ∷ 69 ∷ 0 ∷ 0 ∷ [];
        frame = 0;
        limit = 256;
      },
      7,
    )
a_c1_gets_locals = refl

pub its_locals : locals_of 0 (1 ∷ 3 ∷ 2 ∷ 1 ∷ 0 ∷ 0 ∷ []) (511 ∷ 2 ∷ 3 ∷ 74565 ∷ 9 ∷ [])
    ≡ 255 ∷ 2 ∷ 3 ∷ 0 ∷ 35 ∷ 69 ∷ []
its_locals = refl

pub missing_arguments : locals_of 0 (4 ∷ 2 ∷ 1 ∷ 2 ∷ 0 ∷ 0 ∷ []) (1 ∷ [])
    ≡ 0 ∷ 0 ∷ 0 ∷ 1 ∷ 0 ∷ 0 ∷ 0 ∷ 0 ∷ 0 ∷ 0 ∷ []
missing_arguments = refl

-- arguments are pushed, the last one first, and their count on top
pub a_c0_gets_values : function_called (of_bytes (192 ∷ 0 ∷ 0 ∷ [])) empty 0 (7 ∷ 8 ∷ []) ≡ Ok
    (frame_with (8 ∷ 7 ∷ 2 ∷ []), 3)
a_c0_gets_values = refl

pub a_local_of_3_bytes : function_called (of_bytes (193 ∷ 3 ∷ 1 ∷ 0 ∷ 0 ∷ [])) empty 0 [] ≡ Err
    (stop.BadFunction 0)
a_local_of_3_bytes = refl

pub a_list_that_runs_off : function_called (of_bytes (193 ∷ 4 ∷ 1 ∷ 0 ∷ [])) empty 0 [] ≡ Err
    (stop.Memory (BadRead 4))
a_list_that_runs_off = refl

pub the_last_return : given_back (frame_with (1 ∷ 2 ∷ [])) ≡ Ok (empty, None)
the_last_return = refl

pub a_catch : caught (frame_with []) 2 4 50 ≡ Ok (frame_with (2 ∷ 4 ∷ 50 ∷ 0 ∷ []), 28)
a_catch = refl

pub a_throw_to_it : thrown (frame_with (2 ∷ 4 ∷ 50 ∷ 0 ∷ 6 ∷ [])) 28 ≡ Ok
    (frame_with [], record { kind = 2; at = 4; pc = 50; frame = 0 })
a_throw_to_it = refl

pub a_throw_to_nothing : thrown (frame_with (2 ∷ 4 ∷ 50 ∷ 0 ∷ [])) 4 ≡ Err (stop.BadToken 4)
a_throw_to_nothing = refl

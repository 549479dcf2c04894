-- Values that the standard's rows give, so that a wrong rule in the specs does not check.
use Rattle.std.proofs.Common.{◌≡◌, [], ◌∷◌, ◌++◌, true, false, refl, Ok, Err}
use Rattle.vm_stack.specs.StackState.{words}
use Rattle.vm_stack.specs.Frame.{locals_pos_of, frame_len_of, locals_end, fresh_frame, aligned}
use Rattle.vm_stack.specs.Values.{rotated, turn, pushed, popped}
use Rattle.vm_stack.specs.Locals.{local}
use Rattle.vm_stack.specs.Stub.{stub_taken}
use Rattle.vm_stack.specs.Token.{ends_stub}
use Rattle.vm_stack.specs.declared.fault.StackFault.TheVariants.{Overflow, Underflow, BadLocal}
use Rattle.vm_stack.specs.declared.stack.TheConstants.{MAX_STACK}

pub a_turn_of_1 : rotated (4 ∷ 3 ∷ 2 ∷ 1 ∷ 0 ∷ []) (turn 5 1) ≡ 0 ∷ 4 ∷ 3 ∷ 2 ∷ 1 ∷ []
a_turn_of_1 = refl

pub a_turn_back_by_3 : rotated (8 ∷ 7 ∷ 6 ∷ 5 ∷ 0 ∷ 4 ∷ 3 ∷ 2 ∷ 1 ∷ []) (turn 9 4294967293)
    ≡ 5 ∷ 0 ∷ 4 ∷ 3 ∷ 2 ∷ 1 ∷ 8 ∷ 7 ∷ 6 ∷ []
a_turn_back_by_3 = refl

-- three locals of one byte, and one of two
pub locals_pos_of_four_locals : locals_pos_of (1 ∷ 3 ∷ 2 ∷ 1 ∷ 0 ∷ 0 ∷ []) ≡ 16
locals_pos_of_four_locals = refl

pub frame_len_of_four_locals : frame_len_of (1 ∷ 3 ∷ 2 ∷ 1 ∷ 0 ∷ 0 ∷ []) ≡ 24
frame_len_of_four_locals = refl

pub the_local_of_two_bytes_is_aligned : aligned 2 (locals_end 0 (1 ∷ 3 ∷ [])) ≡ 4
the_local_of_two_bytes_is_aligned = refl

pub a_fresh_frame : fresh_frame (1 ∷ 3 ∷ 2 ∷ 1 ∷ 0 ∷ 0 ∷ [])
    ≡ 0 ∷ 0 ∷ 0 ∷ 24 ∷ 0 ∷ 0 ∷ 0 ∷ 16 ∷ 1 ∷ 3 ∷ 2 ∷ 1 ∷ 0 ∷ 0 ∷ 0 ∷ 0 ∷ 0 ∷ 0 ∷ 0 ∷ 0 ∷ 0
    ∷ 0 ∷ 0 ∷ 0 ∷ []
a_fresh_frame = refl

pub a_local_past_the_end : local
    (record { bytes = fresh_frame (1 ∷ 3 ∷ 2 ∷ 1 ∷ 0 ∷ 0 ∷ []); frame = 0; limit = 256 }) 7 2
    ≡ Err BadLocal
a_local_past_the_end = refl

pub an_empty_frame_has_no_value : popped
    (record { bytes = fresh_frame (0 ∷ 0 ∷ []); frame = 0; limit = 256 })
    ≡ Err Underflow
an_empty_frame_has_no_value = refl

pub a_full_stack : pushed (record { bytes = fresh_frame (0 ∷ 0 ∷ []); frame = 0; limit = 12 }) 7
    ≡ Err Overflow
a_full_stack = refl

-- a stub for the frame at 0 on a frame of 12 bytes
pub a_stub_is_taken : stub_taken (record {
  bytes = fresh_frame (0 ∷ 0 ∷ []) ++ words (3 ∷ 8 ∷ 77 ∷ 0 ∷ []);
  frame = 0;
  limit = 256;
})
    ≡ Ok (
      record { bytes = fresh_frame (0 ∷ 0 ∷ []); frame = 0; limit = 256 },
      record { kind = 3; at = 8; pc = 77; frame = 0 },
    )
a_stub_is_taken = refl

pub its_end_is_a_token : ends_stub (record {
  bytes = fresh_frame (0 ∷ 0 ∷ []) ++ words (3 ∷ 8 ∷ 77 ∷ 0 ∷ []);
  frame = 0;
  limit = 256;
}) 28
    ≡ true
its_end_is_a_token = refl

pub below_it_is_none : ends_stub (record {
  bytes = fresh_frame (0 ∷ 0 ∷ []) ++ words (3 ∷ 8 ∷ 77 ∷ 0 ∷ []);
  frame = 0;
  limit = 256;
}) 24
    ≡ false
below_it_is_none = refl

-- 1 MiB
pub the_greatest_size : MAX_STACK ≡ 1048576
the_greatest_size = refl

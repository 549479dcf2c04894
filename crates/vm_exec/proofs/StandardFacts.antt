-- Values that the dictionary of opcodes gives, so that a wrong rule in the specs doesn't check.
use Rattle.std.proofs.Common.{arith, ◌≡◌, ◌%◌, refl, ◌∷◌, replicate, ℕ, zero, suc, Err, sym, subst}
use Rattle.vm_memory.specs.declared.fault.Trap.TheVariants.{NoMemory}
use Rattle.vm_operand.specs.Instruction.{dest_at, instruction_at, load_at, modes_at}
use Rattle.vm_operand.specs.Instruction.{opcode_number_at, operand, operands}
use Rattle.vm_operand.specs.Mode.{mode_of, modes}
use Rattle.vm_operand.specs.Opcode.{op_of, opcodes}
use Rattle.vm_operand.specs.declared.opcode.Branch.TheVariants.{Jump}
use Rattle.vm_operand.specs.declared.opcode.Op.TheVariants as op
use Rattle.vm_exec.specs.Rules.{loaded_all}
use Rattle.vm_exec.specs.Run.{RunsTo, RunsWithin, StopsAt}
use Rattle.vm_exec.specs.Want.{WantsMemory}
use Rattle.vm_exec.specs.declared.machine.Machine.{Machine}
use Rattle.vm_exec.specs.declared.text.Text.TheVariants.{Off}
use Rattle.vm_exec.specs.Rows.Array.{byte_with_bit, bit, with_bit, element}
use Rattle.vm_exec.specs.Rows.Moving.{sign_extended}
use Rattle.rand_pcg.specs.Lcg.{state_after}
use Rattle.vm_exec.specs.Random.{random_word, bounded}
use Rattle.vm_exec.specs.Rows.System.{gestalt}

the_bit_before_an_array : byte_with_bit 0x110 0xFFFFFFFF ≡ 0x10F
the_bit_before_an_array = refl

it_is_the_highest_of_its_byte : bit 0x80 (0xFFFFFFFF % 8) ≡ 1
it_is_the_highest_of_its_byte = refl

a_bit_is_set : with_bit 0x10 0 7 ≡ 0x11
a_bit_is_set = refl

a_bit_is_cleared : with_bit 0x11 4 0 ≡ 0x01
a_bit_is_cleared = refl

an_element_wraps : element 4 0x100 0xFFFFFFFF ≡ 0xFC
an_element_wraps = refl

a_short_with_its_sign : sign_extended 2 0x12348000 ≡ 0xFFFF8000
a_short_with_its_sign = refl

a_byte_with_its_sign : sign_extended 1 0x17F ≡ 0x7F
a_byte_with_its_sign = refl

the_version_of_glulx : gestalt 0 0 ≡ 0x00030103
the_version_of_glulx = refl

-- the first words that PCG's reference demonstration prints, for the start 42 and the stream 54
a_reference_word : random_word 42 54 0 ≡ 0xA15C02B7
unfolding state_after
a_reference_word = refl

the_word_after_it : random_word 42 54 1 ≡ 0x7B47F409
unfolding state_after
the_word_after_it = refl

a_word_below_a_negative_bound : bounded 0xFFFFFFFA 0xBA1D3335 ≡ 0xFFFFFFFF
a_word_below_a_negative_bound = refl

-- a jump of three bytes, which a run may not stop before
abbrev jumping : Machine → Machine
jumping m = record m {
  memory = record m.memory { bytes = 0x20 ∷ 0x01 ∷ 0x05 ∷ replicate 29 0; ramstart = 32 };
  pc = 0;
  text = Off;
}

a_run_goes_over_a_jump : (m : Machine) → StopsAt (jumping m) → ⊥
unfolding opcode_number_at op_of opcodes
a_run_goes_over_a_jump m stops =
    stops refl (op.Branch Jump) 1
    (record { opcode = refl; short = omega arith; below = omega arith; quick = tt })

-- an addition of 1 and 2, by the number of its store's mode: 8 pushes, 9 is the local at 0
abbrev adding : ℕ → Machine → Machine
adding mode m = record m {
  memory = record m.memory {
    bytes = 0x10 ∷ 0x11 ∷ mode ∷ 0x01 ∷ 0x02 ∷ 0x00 ∷ replicate 26 0;
    ramstart = 32;
  };
  pc = 0;
  text = Off;
}

an_addition_into_a_local_wants_no_memory : (m : Machine) → WantsMemory (adding 9 m) → ⊥
unfolding op_of opcodes mode_of modes opcode_number_at modes_at load_at dest_at operand operands
    instruction_at loaded_all
an_addition_into_a_local_wants_no_memory m wants = absurd wants.0

an_addition_onto_the_stack_wants_none : (m : Machine) → WantsMemory (adding 8 m) → ⊥
unfolding op_of opcodes mode_of modes opcode_number_at modes_at load_at dest_at operand operands
    instruction_at loaded_all
an_addition_onto_the_stack_wants_none m wants = absurd wants.0

-- so a run of one step that begins there doesn't answer want of memory
nor_does_a_run_of_it : (m n : Machine) → RunsWithin 1 (adding 8 m) n (Err NoMemory) → ⊥
unfolding RunsTo
nor_does_a_run_of_it m n (zero, o, (less, (same, wants))) =
    an_addition_onto_the_stack_wants_none m (subst WantsMemory (sym same) wants)
nor_does_a_run_of_it m n (suc k, o, (less, more)) = absurd (omega (arith, less))

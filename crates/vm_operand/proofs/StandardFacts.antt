-- Rows of the standard and instructions of story files, said of the definitions.
use Rattle.std.proofs.Common.{◌≡◌, refl, ℕ, List, [], ◌∷◌, ◌++◌, ◌-◌, length, replicate, map}
use Rattle.std.proofs.Common.{true, false, Result, Ok, Err}
use Rattle.vm_memory.specs.declared.fault.MemFault.TheVariants.{BadRead}
use Rattle.vm_operand.specs.Opcode.{op_of, opcodes}
use Rattle.vm_operand.specs.Mode.{mode_of, modes}
use Rattle.vm_operand.specs.Instruction.{opcode_number_at, modes_at, load_at}
use Rattle.vm_operand.specs.Instruction.{dest_at, operand, operands, instruction_at}
use Rattle.vm_operand.specs.Arithmetic.{applied}
use Rattle.vm_operand.specs.Branch.{holds}
use Rattle.vm_operand.specs.declared.operand.Load as l
use Rattle.vm_operand.specs.declared.operand.Load.TheVariants.{Value, Pop}
use Rattle.vm_operand.specs.declared.operand.Dest as d
use Rattle.vm_operand.specs.declared.operand.Dest.TheVariants.{Discard, At, Push}
use Rattle.vm_operand.specs.declared.instruction.Instr.{Instr}
use Rattle.vm_operand.specs.declared.opcode.Math.TheVariants.{Div, Mod, Shiftl, Sshiftr, Ushiftr}
use Rattle.vm_operand.specs.declared.opcode.Branch.TheVariants.{Jlt, Jgt, Jltu, Jgeu}
use Rattle.vm_operand.specs.declared.fault.OpFault.{OpFault}
use Rattle.vm_operand.specs.declared.fault.OpFault.TheVariants.{Read, BadOpcode, Unsupported}
use Rattle.vm_operand.specs.declared.fault.OpFault.TheVariants.{BadMode, DivideByZero}
use Rattle.vm_operand.specs.declared.fault.OpFault.TheVariants.{DivideOverflow}
use Rattle.vm_operand.specs.Spelling.{bytes_of_writing}
use Rattle.vm_operand.specs.Spelling.Operand.{Load as OLoad, Store as OStore}
use Rattle.vm_operand.specs.declared.opcode.Op.TheVariants as op
use Rattle.vm_operand.specs.declared.opcode.Flow.TheVariants.{Catch}
use Rattle.vm_operand.specs.declared.opcode.Move.TheVariants.{Copyb}
use Rattle.vm_operand.specs.declared.opcode.System.TheVariants.{Glk}
use Rattle.vm_operand.specs.declared.mode.Mode.TheVariants as mode
use Rattle.vm_operand.specs.declared.mode.Width.TheVariants as width

-- the instruction that begins a memory of these bytes, where RAMSTART is 0x100
abbrev first : List ℕ → Result Instr OpFault
first bytes = instruction_at
    (record { bytes = bytes; ramstart = 0x100; rom = []; endmem = 0x200 }) 0

abbrev of : ℕ → List l.Load → List d.Dest → ℕ → Result Instr OpFault
of number loads stores next = Ok (record {
  op = number;
  loads = record { count = length loads; items = loads ++ replicate (8 - length loads) (Value 0) };
  stores = record {
    count = length stores;
    items = stores ++ replicate
        (2 - length stores) Discard;
  };
  next = next;
})

-- `setiosys 2 0`
pub setiosys : first (0x81 ∷ 0x49 ∷ 0x01 ∷ 0x02 ∷ []) ≡ of 0x149 (Value 2 ∷ Value 0 ∷ []) [] 4
unfolding op_of opcodes mode_of modes opcode_number_at modes_at load_at dest_at operand operands
    instruction_at
setiosys = refl

-- `glk 0x23 5 -> sp`
pub glk : first (0x81 ∷ 0x30 ∷ 0x11 ∷ 0x08 ∷ 0x23 ∷ 0x05 ∷ []) ≡ of 0x130
    (Value 0x23 ∷ Value 5 ∷ []) (Push ∷ []) 6
unfolding op_of opcodes mode_of modes opcode_number_at modes_at load_at dest_at operand operands
    instruction_at
glk = refl

-- `copyb -1 -> sp`, its opcode in four bytes
pub four_byte_opcode : first (0xC0 ∷ 0x00 ∷ 0x00 ∷ 0x42 ∷ 0x81 ∷ 0xFF ∷ []) ≡ of 0x42
    (Value 0xFFFFFFFF ∷ []) (Push ∷ []) 6
unfolding op_of opcodes mode_of modes opcode_number_at modes_at load_at dest_at operand operands
    instruction_at
four_byte_opcode = refl

-- a store stands first in `catch`, and offsets of RAM count from RAMSTART
pub catch_ram : first (0x32 ∷ 0x8D ∷ 0x04 ∷ []) ≡ of 0x32 (Pop ∷ []) (At 0x104 ∷ []) 3
unfolding op_of opcodes mode_of modes opcode_number_at modes_at load_at dest_at operand operands
    instruction_at
catch_ram = refl

-- a bad mode comes before an operand that can't be read, and an unreadable mode before both
pub faults_in_order :
    map first ((0x40 ∷ 0x41 ∷ []) ∷ (0x40 ∷ 0x81 ∷ []) ∷ (0x40 ∷ []) ∷ (0x40 ∷ 0x11 ∷ 0x00 ∷ []) ∷
    (0x17 ∷ []) ∷ (0x81 ∷ 0x90 ∷ []) ∷ [])
    ≡ Err (BadMode 4) ∷ Err (Read (BadRead 2)) ∷ Err (Read (BadRead 1)) ∷ Err (BadMode 1) ∷ Err
    (BadOpcode 0x17) ∷ Err (Unsupported 0x190) ∷ []
unfolding op_of opcodes mode_of modes opcode_number_at modes_at load_at dest_at operand operands
    instruction_at
faults_in_order = refl

-- -7 by 2 and 7 by -2: truncated to zero, the remainder with the dividend's sign
pub divisions :
    applied Div 0xFFFFFFF9 2 ∷ applied Mod 0xFFFFFFF9 2 ∷ applied Div 7 0xFFFFFFFE ∷ applied Mod 7
    0xFFFFFFFE ∷ []
    ≡ Ok 0xFFFFFFFD ∷ Ok 0xFFFFFFFF ∷ Ok 0xFFFFFFFD ∷ Ok 1 ∷ []
unfolding applied
divisions = refl

-- by zero, and of -2^31 by -1
pub division_faults :
    applied Div 1 0 ∷ applied Mod 0 0 ∷ applied Div 0x80000000 0xFFFFFFFF ∷ applied Mod 0x80000000
    0xFFFFFFFF ∷ applied Div 0x80000001 0xFFFFFFFF ∷ []
    ≡ Err DivideByZero ∷ Err DivideByZero ∷ Err DivideOverflow ∷ Err DivideOverflow ∷ Ok 0x7FFFFFFF
    ∷ []
unfolding applied
division_faults = refl

-- shifts by 31, by 32 and by more
pub shifts :
    applied Shiftl 1 31 ∷ applied Shiftl 1 32 ∷ applied Sshiftr 0x80000000 31 ∷ applied Sshiftr
    0x80000000 32 ∷ applied Sshiftr 0x7FFFFFFF 0xFFFFFFFF ∷ applied Ushiftr 0x80000000 32 ∷ []
    ≡ Ok 0x80000000 ∷ Ok 0 ∷ Ok 0xFFFFFFFF ∷ Ok 0xFFFFFFFF ∷ Ok 0 ∷ Ok 0 ∷ []
unfolding applied
shifts = refl

-- -1 and 1: below as signed numbers, above as unsigned ones
pub signed_and_unsigned :
    holds Jlt 0xFFFFFFFF 1 ∷ holds Jgt 0xFFFFFFFF 1 ∷ holds Jltu 0xFFFFFFFF 1 ∷ holds Jgeu
    0xFFFFFFFF 1 ∷ holds Jltu 1 1 ∷ []
    ≡ true ∷ false ∷ false ∷ true ∷ false ∷ []
unfolding holds
signed_and_unsigned = refl

-- the same three instructions in writing: `glk 0x23 5 -> sp`, `copyb -1 -> sp` and `catch`
pub glk_spelled :
    bytes_of_writing (record {
      op = op.System Glk;
      width = width.Two;
      operands =
          OLoad (mode.Constant width.One) 0x23 ∷ OLoad (mode.Constant width.One) 5
          ∷ OStore mode.Stack 0 ∷ [];
      spare = 0;
    })
    ≡ 0x81 ∷ 0x30 ∷ 0x11 ∷ 0x08 ∷ 0x23 ∷ 0x05 ∷ []
glk_spelled = refl

pub copyb_spelled :
    bytes_of_writing (record {
      op = op.Move Copyb;
      width = width.Four;
      operands = OLoad (mode.Constant width.One) 0xFF ∷ OStore mode.Stack 0 ∷ [];
      spare = 0;
    })
    ≡ 0xC0 ∷ 0x00 ∷ 0x00 ∷ 0x42 ∷ 0x81 ∷ 0xFF ∷ []
copyb_spelled = refl

pub catch_spelled :
    bytes_of_writing (record {
      op = op.Flow Catch;
      width = width.One;
      operands = OStore (mode.Ram width.One) 4 ∷ OLoad mode.Stack 0 ∷ [];
      spare = 0;
    })
    ≡ 0x32 ∷ 0x8D ∷ 0x04 ∷ []
catch_spelled = refl

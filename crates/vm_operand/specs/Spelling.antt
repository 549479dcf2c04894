-- An instruction as bytes: its opcode, the modes of its operands, and their own bytes (Glulx 3.1.3,
-- "Instruction Format").
use Rattle.std.specs.Prelude.{ℕ, ◌≡◌, ◌<◌, ◌+◌, ◌-◌, ◌*◌, ◌%◌, ◌^◌, true, List, [], ◌∷◌, ◌++◌}
use Rattle.std.specs.Prelude.{length, map, take, drop, replicate, Ok}
use Rattle.std.specs.List.{All}
use Rattle.byteorder.specs.Endian.{big_bytes}
use Rattle.vm_memory.specs.MemoryMap.{MemoryMap}
use Rattle.vm_operand.specs.Opcode.{kinds_of, opcode_number}
use Rattle.vm_operand.specs.Mode.{allows, mode_number, size}
use Rattle.vm_operand.specs.Instruction.{with_sign_carried, instruction_at}
use Rattle.vm_operand.specs.declared.opcode.Op.{Op}
use Rattle.vm_operand.specs.declared.operand.Kind.{Kind}
use Rattle.vm_operand.specs.declared.operand.Kind.TheVariants as kind
use Rattle.vm_operand.specs.declared.operand.Load as l
use Rattle.vm_operand.specs.declared.operand.Load.TheVariants as load
use Rattle.vm_operand.specs.declared.operand.Dest as d
use Rattle.vm_operand.specs.declared.operand.Dest.TheVariants as dest
use Rattle.vm_operand.specs.declared.mode.Mode.{Mode}
use Rattle.vm_operand.specs.declared.mode.Mode.TheVariants.{Zero, Constant, Address, Stack, Local}
use Rattle.vm_operand.specs.declared.mode.Mode.TheVariants.{Ram}
use Rattle.vm_operand.specs.declared.mode.Width.{Width}
use Rattle.vm_operand.specs.declared.mode.Width.TheVariants.{One, Two, Four}
use Rattle.vm_operand.specs.declared.instruction.Instr.{Instr}

-- a load or a store: its mode, and the number in its bytes
pub data Operand : Type 0 where
  Load : Mode → ℕ → Operand
  Store : Mode → ℕ → Operand

abbrev pub operand_kind : Operand → Kind
operand_kind (Load mode n) = kind.Load
operand_kind (Store mode n) = kind.Store

abbrev pub mode_in : Operand → Mode
mode_in (Load mode n) = mode
mode_in (Store mode n) = mode

abbrev pub number_in : Operand → ℕ
number_in (Load mode n) = n
number_in (Store mode n) = n

-- how many bytes an operand of a mode has
abbrev pub mode_size : Mode → ℕ
mode_size Zero = 0
mode_size (Constant w) = size w
mode_size (Address w) = size w
mode_size Stack = 0
mode_size (Local w) = size w
mode_size (Ram w) = size w

-- the operand may have the mode, and the number fits
pub record IsOperand (o : Operand) : Type 0 where
  pub allowed : allows (operand_kind o) (mode_in o) ≡ true
  pub fits : number_in o < 256 ^ mode_size (mode_in o)

-- an instruction in writing: how many bytes its opcode has, the operands, and what stands in the
-- half of a byte of modes that no operand has
pub record Writing : Type 0 where
  pub op : Op
  pub width : Width
  pub operands : List Operand
  pub spare : ℕ

-- an opcode has one byte below 80; the operands are the opcode's
abbrev pub HasWidth : Width → ℕ → Type 0
HasWidth One n = n < 0x80
HasWidth Two n = n < 0x4000
HasWidth Four n = n < 0x10000000

pub record IsWriting (w : Writing) : Type 0 where
  pub width : HasWidth w.width (opcode_number w.op)
  pub kinds : map operand_kind w.operands ≡ kinds_of w.op
  pub operands : All IsOperand w.operands
  pub spare : w.spare < 16

-- the opcode in one byte, in two with 8000 added, or in four with C0000000 added
abbrev pub opcode_bytes : Width → ℕ → List ℕ
opcode_bytes One n = big_bytes 1 n
opcode_bytes Two n = big_bytes 2 (0x8000 + n)
opcode_bytes Four n = big_bytes 4 (0xC0000000 + n)

-- the modes' numbers, two to a byte, the first in the low half
abbrev pub mode_bytes : List Mode → ℕ → List ℕ
mode_bytes [] spare = []
mode_bytes (first ∷ []) spare = (mode_number first + 16 * spare) ∷ []
mode_bytes (first ∷ second ∷ modes) spare =
    (mode_number first + 16 * mode_number second) ∷ mode_bytes modes spare

-- the operands' bytes
abbrev pub operand_bytes : List Operand → List ℕ
operand_bytes [] = []
operand_bytes (o ∷ os) = big_bytes (mode_size (mode_in o)) (number_in o) ++ operand_bytes os

abbrev pub bytes_of_writing : Writing → List ℕ
bytes_of_writing w =
    opcode_bytes w.width (opcode_number w.op)
    ++ (mode_bytes (map mode_in w.operands) w.spare ++ operand_bytes w.operands)

-- where a load of this mode and number finds its value, and where a store puts it
abbrev pub load_of : MemoryMap → Mode → ℕ → l.Load
load_of m Zero n = load.Value 0
load_of m (Constant w) n = load.Value (with_sign_carried w n)
load_of m (Address w) n = load.At n
load_of m Stack n = load.Pop
load_of m (Local w) n = load.Local n
load_of m (Ram w) n = load.At ((m.ramstart + n) % 2 ^ 32)

abbrev pub dest_of : MemoryMap → Mode → ℕ → d.Dest
dest_of m Zero n = dest.Discard
dest_of m (Constant w) n = dest.Discard
dest_of m (Address w) n = dest.At n
dest_of m Stack n = dest.Push
dest_of m (Local w) n = dest.Local n
dest_of m (Ram w) n = dest.At ((m.ramstart + n) % 2 ^ 32)

-- the loads and the stores among operands
abbrev pub loads_of : MemoryMap → List Operand → List l.Load
loads_of m [] = []
loads_of m (Load mode n ∷ os) = load_of m mode n ∷ loads_of m os
loads_of m (Store mode n ∷ os) = loads_of m os

abbrev pub stores_of : MemoryMap → List Operand → List d.Dest
stores_of m [] = []
stores_of m (Load mode n ∷ os) = stores_of m os
stores_of m (Store mode n ∷ os) = dest_of m mode n ∷ stores_of m os

-- an instruction with these loads and stores, and the next address
abbrev pub instr : ℕ → List l.Load → List d.Dest → ℕ → Instr
instr number loads stores next = record {
  op = number;
  loads = record {
    count = length loads;
    items = loads ++ replicate (8 - length loads) (load.Value 0);
  };
  stores = record {
    count = length stores;
    items = stores ++ replicate (2 - length stores) dest.Discard;
  };
  next = next;
}

-- these bytes stand at an address
abbrev pub Stand : MemoryMap → ℕ → List ℕ → Type 0
Stand m at bytes = take (length bytes) (drop at m.bytes) ≡ bytes

-- the bytes at an address spell an instruction
pub record SpellsInstruction (m : MemoryMap) (at : ℕ) (i : Instr) : Type 0 where
  pub writing : Writing
  pub is : IsWriting writing
  pub bytes : Stand m at (bytes_of_writing writing)
  pub reads :
      i
      ≡ instr (opcode_number writing.op) (loads_of m writing.operands)
      (stores_of m writing.operands)
      (at + length (bytes_of_writing writing))

-- what is spelled is decoded so
abbrev pub DecodesWhatIsSpelled : Type 0
DecodesWhatIsSpelled =
    (m : MemoryMap) (at : ℕ) (i : Instr) → SpellsInstruction m at i → instruction_at m at ≡ Ok i

-- and what is decoded is spelled so
abbrev pub SpellsWhatIsDecoded : Type 0
SpellsWhatIsDecoded =
    (m : MemoryMap) (at : ℕ) (i : Instr) → All (λ byte. byte < 256) m.bytes
    → instruction_at m at ≡ Ok i → SpellsInstruction m at i

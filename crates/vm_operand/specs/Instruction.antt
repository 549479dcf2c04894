-- The instruction at an address (Glulx 3.1.3, "Instruction Format").
use Rattle.std.specs.Prelude.{ℕ, ◌+◌, ◌-◌, ◌*◌, ◌/◌, ◌%◌, ◌^◌, nat_lt}
use Rattle.std.specs.Prelude.{nat_le, ◌&&◌, if◌then◌else◌, List, [], ◌∷◌, length}
use Rattle.std.specs.Prelude.{replicate, slice_set, Option, Some, None, Result, Ok, Err}
use Rattle.vm_memory.specs.Chaining.{◌>>=◌}
use Rattle.vm_memory.specs.MemoryMap.{MemoryMap}
use Rattle.vm_memory.specs.Access.{read}
use Rattle.vm_operand.specs.Opcode.{op_of, kinds_of}
use Rattle.vm_operand.specs.Mode.{size, mode_of}
use Rattle.vm_operand.specs.Reading.{instruction_read}
use Rattle.vm_operand.specs.declared.opcode.Op.{Op}
use Rattle.vm_operand.specs.declared.operand.Kind as k
use Rattle.vm_operand.specs.declared.operand.Kind.TheVariants as kind
use Rattle.vm_operand.specs.declared.fault.OpFault.{OpFault}
use Rattle.vm_operand.specs.declared.fault.OpFault.TheVariants.{BadOpcode, Unsupported}
use Rattle.vm_operand.specs.declared.operand.Load as l
use Rattle.vm_operand.specs.declared.operand.Load.TheVariants as load
use Rattle.vm_operand.specs.declared.operand.Dest as d
use Rattle.vm_operand.specs.declared.operand.Dest.TheVariants as dest
use Rattle.vm_operand.specs.declared.mode.Mode.{Mode}
use Rattle.vm_operand.specs.declared.mode.Mode.TheVariants.{Zero, Constant, Address, Stack, Local}
use Rattle.vm_operand.specs.declared.mode.Mode.TheVariants.{Ram}
use Rattle.vm_operand.specs.declared.instruction.Instr.{Instr}
use Rattle.vm_operand.specs.declared.mode.Width.{Width}
use Rattle.vm_operand.specs.declared.mode.Width.TheVariants.{One, Two, Four}

-- the opcode's number and the place after it: a first byte from 0x80 on has one more byte, from
-- 0xC0 on three more
unfoldable pub opcode_number_at : MemoryMap → ℕ → Result (ℕ × ℕ) OpFault
opcode_number_at m at = do
  first ← instruction_read (read 1 m at)
  if nat_lt first 0x80 then Ok (first, at + 1)
      else (if nat_lt first 0xC0 then (do
        last ← instruction_read (read 1 m (at + 1))
        Ok ((first - 0x80) * 2 ^ 8 + last, at + 2))
      else (do
        second ← instruction_read (read 1 m (at + 1))
        last ← instruction_read (read 2 m (at + 2))
        Ok ((first - 0xC0) * 2 ^ 24 + second * 2 ^ 16 + last, at + 4)))

-- the opcode of a number, or what is wrong with it
abbrev pub known : ℕ → Option Op → Result Op OpFault
known n (Some op) = Ok op
known n None = if nat_le 0x190 n && nat_lt n 0x300 then Err (Unsupported n) else Err (BadOpcode n)

-- the modes of these operands, two to a byte, the low half first; each is looked at as its byte is
-- read
unfoldable pub modes_at : MemoryMap → ℕ → List k.Kind → Result (List Mode) OpFault
modes_at m at [] = Ok []
modes_at m at (kind ∷ []) = do
  byte ← instruction_read (read 1 m at)
  mode ← mode_of kind (byte % 16)
  Ok (mode ∷ [])
modes_at m at (first ∷ second ∷ kinds) = do
  byte ← instruction_read (read 1 m at)
  low ← mode_of first (byte % 16)
  high ← mode_of second (byte / 16)
  modes ← modes_at m (at + 1) kinds
  Ok (low ∷ high ∷ modes)

-- a number of so many bytes with its sign carried to four
abbrev pub with_sign_carried : Width → ℕ → ℕ
with_sign_carried One x = if nat_lt x 0x80 then x else x + 0xFFFFFF00
with_sign_carried Two x = if nat_lt x 0x8000 then x else x + 0xFFFF0000
with_sign_carried Four x = x

-- a load by its mode, and the place after its bytes
unfoldable pub load_at : MemoryMap → Mode → ℕ → Result (l.Load × ℕ) OpFault
load_at m Zero at = Ok (load.Value 0, at)
load_at m (Constant w) at = do
  x ← instruction_read (read (size w) m at)
  Ok (load.Value (with_sign_carried w x), at + size w)
load_at m (Address w) at = do
  x ← instruction_read (read (size w) m at)
  Ok (load.At x, at + size w)
load_at m Stack at = Ok (load.Pop, at)
load_at m (Local w) at = do
  x ← instruction_read (read (size w) m at)
  Ok (load.Local x, at + size w)
load_at m (Ram w) at = do
  x ← instruction_read (read (size w) m at)
  Ok (load.At ((m.ramstart + x) % 2 ^ 32), at + size w)

-- a store by its mode, which is no constant, and the place after its bytes
unfoldable pub dest_at : MemoryMap → Mode → ℕ → Result (d.Dest × ℕ) OpFault
dest_at m Zero at = Ok (dest.Discard, at)
dest_at m (Constant w) at = Ok (dest.Discard, at)
dest_at m (Address w) at = do
  x ← instruction_read (read (size w) m at)
  Ok (dest.At x, at + size w)
dest_at m Stack at = Ok (dest.Push, at)
dest_at m (Local w) at = do
  x ← instruction_read (read (size w) m at)
  Ok (dest.Local x, at + size w)
dest_at m (Ram w) at = do
  x ← instruction_read (read (size w) m at)
  Ok (dest.At ((m.ramstart + x) % 2 ^ 32), at + size w)

-- an instruction with one more load, or store
abbrev pub with_load : Instr → l.Load × ℕ → Instr
with_load i x = record i {
  loads = record {
    count = i.loads.count + 1;
    items = slice_set i.loads.items i.loads.count x.0;
  };
  next = x.1;
}

abbrev pub with_store : Instr → d.Dest × ℕ → Instr
with_store i x = record i {
  stores = record {
    count = i.stores.count + 1;
    items = slice_set i.stores.items i.stores.count x.0;
  };
  next = x.1;
}

-- the instruction with one more operand, whose bytes begin where the instruction ends so far
unfoldable pub operand : MemoryMap → k.Kind → Mode → Instr → Result Instr OpFault
operand m kind.Load mode i = load_at m mode i.next >>= (λ x. Ok (with_load i x))
operand m kind.Store mode i = dest_at m mode i.next >>= (λ x. Ok (with_store i x))

-- the instruction with these operands, in their order
unfoldable pub operands : MemoryMap → List k.Kind → List Mode → Instr → Result Instr OpFault
operands m [] modes i = Ok i
operands m (kind ∷ kinds) [] i = Ok i
operands m (kind ∷ kinds) (mode ∷ modes) i = do
  more ← operand m kind mode i
  operands m kinds modes more

-- an instruction without operands
abbrev pub bare : ℕ → ℕ → Instr
bare number next = record {
  op = number;
  loads = record { count = 0; items = replicate 8 (load.Value 0) };
  stores = record { count = 0; items = replicate 2 dest.Discard };
  next = next;
}

-- the instruction at a place, or the first fault: the opcode, then all modes, then the operands
unfoldable pub instruction_at : MemoryMap → ℕ → Result Instr OpFault
instruction_at m at = do
  number ← opcode_number_at m at
  op ← known number.0 (op_of number.0)
  modes ← modes_at m number.1 (kinds_of op)
  operands m (kinds_of op) modes (bare number.0 (number.1 + (length (kinds_of op) + 1) / 2))

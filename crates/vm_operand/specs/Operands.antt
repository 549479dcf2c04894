-- Operands by the numbers of their modes (own).
use Rattle.std.specs.Prelude.{◌≡◌, ℕ, Ok, Result}
use Rattle.vm_memory.specs.Chaining.{◌>>=◌}
use Rattle.vm_memory.specs.MemoryMap.{MemoryMap}
use Rattle.vm_operand.specs.Opcode.{opcode_number}
use Rattle.vm_operand.specs.Mode.{mode_of}
use Rattle.vm_operand.specs.Instruction.{dest_at, load_at, opcode_number_at}
use Rattle.vm_operand.specs.declared.fault.OpFault.{OpFault}
use Rattle.vm_operand.specs.declared.opcode.Op.{Op}
use Rattle.vm_operand.specs.declared.operand.Kind.TheVariants as kind
use Rattle.vm_operand.specs.declared.operand.Load as l
use Rattle.vm_operand.specs.declared.operand.Dest as d

-- a load by the number of its mode, and the place after its bytes
abbrev pub load_by : MemoryMap → ℕ → ℕ → Result (l.Load × ℕ) OpFault
load_by m n at = mode_of kind.Load n >>= (λ mode. load_at m mode at)

-- a store by the number of its mode, and the place after its bytes
abbrev pub dest_by : MemoryMap → ℕ → ℕ → Result (d.Dest × ℕ) OpFault
dest_by m n at = mode_of kind.Store n >>= (λ mode. dest_at m mode at)

-- this opcode stands at a place, and its operands' modes begin at the other
abbrev pub OpcodeAt : MemoryMap → ℕ → Op → ℕ → Type 0
OpcodeAt m at op place = opcode_number_at m at ≡ Ok (opcode_number op, place)

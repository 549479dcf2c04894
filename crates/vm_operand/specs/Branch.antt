-- When a branch is taken (Glulx 3.1.3, "Branches").
use Rattle.std.specs.Prelude.{ℕ, Bool, true, not, ◌==◌, nat_lt, nat_le, int_lt, int_le}
use Rattle.std.specs.Prelude.{Option, Some, None}
use Rattle.vm_operand.specs.Arithmetic.{signed}
use Rattle.vm_operand.specs.declared.opcode.Op.{Op}
use Rattle.vm_operand.specs.declared.opcode.Op.TheVariants as op
use Rattle.vm_operand.specs.declared.opcode.Branch.{Branch}
use Rattle.vm_operand.specs.declared.opcode.Branch.TheVariants.{Jump, Jz, Jnz, Jeq, Jne, Jlt, Jge}
use Rattle.vm_operand.specs.declared.opcode.Branch.TheVariants.{Jgt, Jle, Jltu, Jgeu, Jgtu, Jleu}
use Rattle.vm_operand.specs.declared.opcode.Branch.TheVariants.{Jumpabs}

-- the condition on two values; jz and jnz look at the first alone, a jump at none
unfoldable pub holds : Branch → ℕ → ℕ → Bool
holds Jump left right = true
holds Jz left right = left == 0
holds Jnz left right = not (left == 0)
holds Jeq left right = left == right
holds Jne left right = not (left == right)
holds Jlt left right = int_lt (signed left) (signed right)
holds Jge left right = int_le (signed right) (signed left)
holds Jgt left right = int_lt (signed right) (signed left)
holds Jle left right = int_le (signed left) (signed right)
holds Jltu left right = nat_lt left right
holds Jgeu left right = nat_le right left
holds Jgtu left right = nat_lt right left
holds Jleu left right = nat_le left right
holds Jumpabs left right = true

-- the branch among opcodes
abbrev pub branch_of : Option Op → Option Branch
branch_of (Some (op.Branch branch)) = Some branch
branch_of other = None

-- Branches (Glulx 3.1.3, "Branches").
use Rattle.std.specs.Prelude.{ℕ}
use Rattle.vm_operand.specs.Branch.{holds}
use Rattle.vm_operand.specs.declared.opcode.Branch.{Branch}
use Rattle.vm_operand.specs.declared.opcode.Branch.TheVariants.{Jump, Jz, Jnz, Jumpabs}
use Rattle.vm_operand.specs.declared.operand.Dest as d
use Rattle.vm_exec.specs.Rows.Work.{Work, Free}
use Rattle.vm_exec.specs.Rules.{goes, branches, when}
use Rattle.vm_exec.specs.declared.machine.Machine.{Machine}

-- a jump by the first load, jz and jnz by the second, jumpabs to the first; the others by the
-- third, where the condition holds of the first two
unfoldable pub branch_work : Branch → Machine → (ℕ → ℕ) → (ℕ → d.Dest) → Work
branch_work Jump m l d = Free (branches m (l 0))
branch_work Jumpabs m l d = Free (goes (record m { pc = l 0 }))
branch_work Jz m l d = Free (when m (holds Jz (l 0) (l 1)) (l 1))
branch_work Jnz m l d = Free (when m (holds Jnz (l 0) (l 1)) (l 1))
branch_work o m l d = Free (when m (holds o (l 0) (l 1)) (l 2))

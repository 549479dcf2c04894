-- Integer math (Glulx 3.1.3, "Integer Math").
use Rattle.std.specs.Prelude.{ℕ}
use Rattle.vm_memory.specs.Chaining.{◌>>=◌}
use Rattle.vm_operand.specs.Fault as operand
use Rattle.vm_operand.specs.Arithmetic.{applied}
use Rattle.vm_operand.specs.declared.opcode.Math.{Math}
use Rattle.vm_operand.specs.declared.operand.Dest as d
use Rattle.vm_exec.specs.Rows.Work.{Work, Free}
use Rattle.vm_exec.specs.declared.machine.Machine.{Machine}
use Rattle.vm_exec.specs.Rules.{puts}

-- the result of the arithmetic is stored, or its fault comes
unfoldable pub math_work : Math → Machine → (ℕ → ℕ) → (ℕ → d.Dest) → Work
math_work o m l d = Free (operand.operation_coded (applied o (l 0) (l 1)) >>= puts m (d 0))

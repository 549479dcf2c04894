-- Moving data (Glulx 3.1.3, "Moving Data").
use Rattle.std.specs.Prelude.{ℕ, ◌+◌, ◌-◌, ◌%◌, ◌^◌, ◌/◌, nat_lt, if◌then◌else◌}
use Rattle.vm_memory.specs.Chaining.{◌>>=◌}
use Rattle.vm_operand.specs.declared.opcode.Move.{Move}
use Rattle.vm_operand.specs.declared.opcode.Move.TheVariants.{Copy, Copys, Copyb, Sexs, Sexb}
use Rattle.vm_operand.specs.declared.operand.Dest as d
use Rattle.vm_exec.specs.Rows.Work.{Work, Free}
use Rattle.vm_exec.specs.declared.machine.Machine.{Machine}
use Rattle.vm_exec.specs.Rules.{Rule, goes, puts, stored_in}

-- the low n bytes of a value, with the sign of the highest carried to four
abbrev pub sign_extended : ℕ → ℕ → ℕ
sign_extended n x =
    if nat_lt (x % 256 ^ n) (256 ^ n / 2) then x % 256 ^ n else x % 256 ^ n + (2 ^ 32 - 256 ^ n)

-- n bytes of a value are stored
abbrev pub puts_in : ℕ → Machine → d.Dest → ℕ → Rule
puts_in n m to x = stored_in n m to x >>= goes

unfoldable pub move_work : Move → Machine → (ℕ → ℕ) → (ℕ → d.Dest) → Work
move_work Copy m l d = Free (puts m (d 0) (l 0))
move_work Copys m l d = Free (puts_in 2 m (d 0) (l 0))
move_work Copyb m l d = Free (puts_in 1 m (d 0) (l 0))
move_work Sexs m l d = Free (puts m (d 0) (sign_extended 2 (l 0)))
move_work Sexb m l d = Free (puts m (d 0) (sign_extended 1 (l 0)))

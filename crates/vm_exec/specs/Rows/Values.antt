-- The values of the current frame (Glulx 3.1.3, "The Stack").
use Rattle.std.specs.Prelude.{ℕ, zero, suc, ◌-◌, ◌/◌, Result, Ok}
use Rattle.vm_memory.specs.Chaining.{◌>>=◌}
use Rattle.vm_operand.specs.declared.opcode.Values.{Values}
use Rattle.vm_operand.specs.declared.opcode.Values.TheVariants.{Stkcount, Stkpeek, Stkswap, Stkroll}
use Rattle.vm_operand.specs.declared.opcode.Values.TheVariants.{Stkcopy}
use Rattle.vm_stack.specs.StackState.{StackState}
use Rattle.vm_stack.specs.declared.fault.StackFault.{StackFault}
use Rattle.vm_stack.specs.Values.{value_count, peeked, pushed, rolled}
use Rattle.vm_operand.specs.declared.operand.Dest as d
use Rattle.vm_exec.specs.Rows.Work.{Work, Free, Costs}
use Rattle.vm_exec.specs.declared.machine.Machine.{Machine}
use Rattle.vm_exec.specs.Fault.{stacked}
use Rattle.vm_exec.specs.Rules.{Rule, goes, puts}

abbrev pub peeks : Machine → ℕ → d.Dest → Rule
peeks m depth to = stacked (peeked m.stack depth) >>= puts m to

abbrev pub rolls : Machine → ℕ → ℕ → Rule
rolls m n by = stacked (rolled m.stack n by) >>= (λ stack. goes (record m { stack = stack }))

-- the value at a depth again, on top
abbrev pub copied_one : StackState → ℕ → Result StackState StackFault
copied_one s depth = peeked s depth >>= pushed s

-- n more values, each the one that then lies n - 1 below the top
unfoldable pub copied_up : StackState → ℕ → ℕ → Result StackState ℕ
copied_up s depth zero = Ok s
copied_up s depth (suc n) =
    stacked (copied_one s depth) >>= (λ t. copied_up t depth n)

abbrev pub copies : Machine → ℕ → Rule
copies m n = copied_up m.stack (n - 1) n >>= (λ stack. goes (record m { stack = stack }))

unfoldable pub values_work : Values → Machine → (ℕ → ℕ) → (ℕ → d.Dest) → Work
values_work Stkcount m l d = Free (puts m (d 0) (value_count m.stack))
values_work Stkpeek m l d = Free (peeks m (l 0) (d 0))
values_work Stkswap m l d = Free (rolls m 2 1)
values_work Stkroll m l d = Costs (l 0 / 16) (rolls m (l 0) (l 1))
values_work Stkcopy m l d = Costs (l 0 / 16) (copies m (l 0))

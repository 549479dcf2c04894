-- What an opcode does, at no cost, or after an addition to the cost of its step (own).
use Rattle.std.specs.Prelude.{ℕ, nat_lt, if◌then◌else◌, Result, Ok, Err, IsOk}
use Rattle.vm_memory.specs.declared.fault.Trap.{Trap}
use Rattle.vm_exec.specs.Answer.{Does}
use Rattle.vm_exec.specs.Rules.{Rule}
use Rattle.vm_memory.specs.declared.faults.TheConstants.{BUDGET_SPENT}
use Rattle.vm_exec.specs.declared.machine.Machine.{Machine}
use Rattle.vm_exec.specs.declared.step.Done.{Done}

-- the work of an opcode: free, or with so many ticks charged before its effect
pub data Work : Type 0 where
  Free : Rule → Work
  Costs : ℕ → Rule → Work

-- work that comes to no fault
abbrev pub IsDone : Work → Type 0
IsDone (Free r) = IsOk r
IsDone (Costs n r) = IsOk r

-- what a rule gives, with what it added to the cost
abbrev pub costing : ℕ → Rule → Result (Machine × Done) ℕ
costing n (Ok x) = Ok (x.0, record { out = x.1; cost = n })
costing n (Err fault) = Err fault

-- when so many ticks may be spent
abbrev pub budgeted : ℕ → Work → Result (Machine × Done) ℕ
budgeted left (Free r) = costing 0 r
budgeted left (Costs n r) = if nat_lt left n then Err BUDGET_SPENT else costing n r

-- The call did what the rule says, at no cost.
abbrev pub DoesAtNoCost : Rule → Machine → Result Done Trap → Type 0
DoesAtNoCost r new result = Does (costing 0 r) new result

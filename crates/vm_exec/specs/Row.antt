-- One step of the machine: its row of the table (Glulx 3.1.3, "Dictionary of Opcodes").
use Rattle.std.specs.Prelude.{ℕ, ◌+◌, ◌≤◌, nat_lt, if◌then◌else◌, length, List, replicate, take}
use Rattle.std.specs.Prelude.{slice_index, slice_index_or, Option, Some, None, Result, Ok, Err}
use Rattle.vm_operand.specs.Fault as operand
use Rattle.vm_operand.specs.Instruction.{instruction_at}
use Rattle.vm_operand.specs.Opcode.{op_of}
use Rattle.vm_operand.specs.declared.opcode.Op.{Op}
use Rattle.vm_operand.specs.declared.opcode.Op.TheVariants as op
use Rattle.vm_operand.specs.declared.opcode.Move.{Move}
use Rattle.vm_operand.specs.declared.opcode.Move.TheVariants.{Copys, Copyb}
use Rattle.vm_operand.specs.declared.operand.Dest as d
use Rattle.vm_operand.specs.declared.operand.Dest.TheVariants as dest
use Rattle.vm_exec.specs.Number.{number_text}
use Rattle.vm_exec.specs.Rules.{Rule, loaded_all}
use Rattle.vm_exec.specs.Rows.Work.{Work, Free, Costs}
use Rattle.vm_exec.specs.Rows.Math.{math_work}
use Rattle.vm_exec.specs.Rows.Branch.{branch_work}
use Rattle.vm_exec.specs.Rows.Function.{flow_work}
use Rattle.vm_exec.specs.Rows.Moving.{move_work}
use Rattle.vm_exec.specs.Rows.Array.{array_work}
use Rattle.vm_exec.specs.Rows.Values.{values_work}
use Rattle.vm_exec.specs.Rows.Output.{streaming_work}
use Rattle.vm_exec.specs.Rows.System.{system_work}
use Rattle.vm_exec.specs.Rows.State.{state_work}
use Rattle.vm_exec.specs.Rows.Search.{search_work}
use Rattle.vm_exec.specs.Rows.Text.{string_rule, number_rule}
use Rattle.vm_exec.specs.TextStub.{number_over}
use Rattle.vm_memory.specs.Chaining.{◌>>=◌}
use Rattle.vm_memory.specs.declared.faults.TheConstants.{BAD_OPCODE, BUDGET_SPENT}
use Rattle.vm_exec.specs.declared.machine.Machine.{Machine}
use Rattle.vm_exec.specs.declared.step.Out.{Out}
use Rattle.vm_exec.specs.declared.step.Out.TheVariants as out
use Rattle.vm_exec.specs.declared.step.Step.{Step}
use Rattle.vm_exec.specs.declared.step.Step.TheVariants as step
use Rattle.vm_exec.specs.declared.text.Text as t
use Rattle.vm_exec.specs.declared.text.Text.TheVariants as text

-- the machine after a step, with what it tells, or a fault; and the ticks charged until then
pub record Charged : Type 0 where
  pub cost : ℕ
  pub gives : Rule

-- what an opcode does, with l 0, l 1 .. its loads and d 0, d 1 its stores
abbrev pub work : Op → Machine → (ℕ → ℕ) → (ℕ → d.Dest) → Work
work (op.Math o) m l d = math_work o m l d
work (op.Branch o) m l d = branch_work o m l d
work (op.Flow o) m l d = flow_work o m l d
work (op.Move o) m l d = move_work o m l d
work (op.Array o) m l d = array_work o m l d
work (op.Values o) m l d = values_work o m l d
work (op.Stream o) m l d = streaming_work o m l d
work (op.System o) m l d = system_work o m l d
work (op.State o) m l d = state_work o m l d
work (op.Search o) m l d = search_work o m l d

-- how many bytes the loads of an opcode have
abbrev pub move_width : Move → ℕ
move_width Copys = 2
move_width Copyb = 1
move_width _ = 4

abbrev pub width_of : Option Op → ℕ
width_of (Some (op.Move o)) = move_width o
width_of _ = 4

-- the i-th store
abbrev pub dest_by_index : List d.Dest → ℕ → d.Dest
dest_by_index ds i = slice_index_or ds i dest.Discard

abbrev pub work_of : Option Op → Machine → List ℕ → List d.Dest → Work
work_of None m args to = Free (Err BAD_OPCODE)
work_of (Some op) m args to = work op m (slice_index args) (dest_by_index to)

-- one tick, and the addition
abbrev pub charged : Result Work ℕ → Charged
charged (Err n) = record { cost = 1; gives = Err n }
charged (Ok (Free r)) = record { cost = 1; gives = r }
charged (Ok (Costs n r)) = record { cost = n + 1; gives = r }

-- an instruction with its loads taken: its opcode, the machine that goes on behind it, the values of
-- the loads, with zeros up to the eighth, and the stores
pub record Prepared : Type 0 where
  pub op : Option Op
  pub machine : Machine
  pub loads : List ℕ
  pub stores : List d.Dest

-- the instruction at the PC with its loads taken, from left to right
abbrev pub prepared : Machine → Result Prepared ℕ
prepared m = do
  i ← operand.operation_coded (instruction_at m.memory m.pc)
  x ← loaded_all (width_of (op_of i.op)) m (take i.loads.count i.loads.items) 0 (replicate 8 0)
  Ok (record {
    op = op_of i.op;
    machine = record x.0 { pc = i.next };
    loads = x.1;
    stores = i.stores.items;
  })

-- what the instruction at the PC does
abbrev pub fetched : Machine → Result Work ℕ
fetched m = prepared m >>= (λ p. Ok (work_of p.op p.machine p.loads p.stores))

-- what is due: the next piece of the text in progress, which is taken, or else the instruction; a
-- number at its end makes way to the instruction
abbrev pub due : Machine → t.Text → Result Work ℕ
due m text.Off = fetched m
due m (text.Pieces cursor held) =
    Ok (Free (string_rule (record m { text = text.Off }) cursor held))
due m (text.Number value place held) =
    if nat_lt place (length (number_text value))
    then Ok (Free (number_rule (record m { text = text.Off }) value place held))
    else number_over (record m { text = text.Off }) held >>= fetched

abbrev pub row : Machine → Charged
row m = charged (due m m.text)

abbrev pub step_of : Out → ℕ → Step
step_of out.Ran cost = step.Ran cost
step_of (out.Char x) cost = step.Out x cost
step_of (out.Glk selector args) cost = step.Glk selector args cost
step_of (out.Save stream) cost = step.Save stream cost
step_of (out.Restore stream) cost = step.Restore stream cost
step_of out.Quit cost = step.Quit

-- a step costs a tick at least, and no more than is left; that which ends the story tells no cost
abbrev pub IsPriced : ℕ → Step → Type 0
IsPriced left (step.Ran cost) = (1 ≤ cost) × (cost ≤ left)
IsPriced left (step.Out code cost) = (1 ≤ cost) × (cost ≤ left)
IsPriced left (step.Glk selector args cost) = (1 ≤ cost) × (cost ≤ left)
IsPriced left (step.Save stream cost) = (1 ≤ cost) × (cost ≤ left)
IsPriced left (step.Restore stream cost) = (1 ≤ cost) × (cost ≤ left)
IsPriced left step.Quit = Unit {0}

-- a step when so many ticks are left
abbrev pub step_within : ℕ → Charged → Result (Machine × Step) ℕ
step_within left c =
    if nat_lt left c.cost then Err BUDGET_SPENT
    else c.gives >>= (λ x. Ok (x.0, step_of x.1 c.cost))

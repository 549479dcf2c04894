-- One tick before an opcode's work.
use Rattle.std.proofs.Common.{◌≡◌, ℕ, ◌+◌, ◌-◌, ◌<◌, Bool, true, false, nat_lt, Result, Ok, Err}
use Rattle.std.proofs.Common.{refl, arith, List, replicate, take, slice_index, Option, Some, ◌∙◌}
use Rattle.std.proofs.Common.{sym, ap, subst, cond}
use Rattle.std.proofs.lemmas.Bool.Decides.{nat_tests}
use Rattle.vm_memory.specs.Chaining.{◌>>=◌}
use Rattle.vm_operand.specs.Instruction.{instruction_at}
use Rattle.vm_operand.specs.Opcode.{op_of}
use Rattle.vm_operand.specs.declared.opcode.Op.{Op}
use Rattle.vm_operand.specs.declared.instruction.Instr.{Instr}
use Rattle.vm_operand.specs.declared.operand.Dest.{Dest}
use Rattle.vm_exec.specs.Rules.{Rule, loaded_all}
use Rattle.vm_exec.specs.Rows.Work.{Work, Free, Costs, budgeted, costing}
use Rattle.vm_exec.specs.Row.{charged, step_within, step_of, work_of, work, width_of, dest_by_index}
use Rattle.vm_exec.specs.Row.{fetched}
use Rattle.vm_exec.specs.declared.machine.Machine.{Machine}
use Rattle.vm_exec.specs.declared.step.Step.{Step}
use Rattle.vm_exec.specs.declared.step.Done.{Done}

later : (left n : ℕ) → 0 < left → nat_lt left (n + 1) ≡ nat_lt (left - 1) n
later left n h = grind (arith, nat_tests)

one : (left : ℕ) → 0 < left → nat_lt left 1 ≡ false
one left h = grind (arith, nat_tests)

-- what work gave, with the first tick
abbrev pub stepped : Result (Machine × Done) ℕ → Result (Machine × Step) ℕ
stepped (Ok x) = Ok (x.0, step_of x.1.out (x.1.cost + 1))
stepped (Err n) = Err n

-- a test on the ticks stands on both sides
over : (b : Bool) (n : ℕ) (r : Rule)
    → cond b (Err 24) (r >>= (λ x. Ok (x.0, step_of x.1 (n + 1))))
    ≡ stepped (cond b (Err 24) (costing n r))
over true n r = refl
over false n (Ok x) = refl
over false n (Err m) = refl

pub told_work : (left : ℕ) (w : Work)
    → 0 < left
    → step_within left (charged (Ok w)) ≡ stepped (budgeted (left - 1) w)
told_work left (Free (Ok x)) h = rw (one left h) refl
told_work left (Free (Err n)) h = rw (one left h) refl
told_work left (Costs n r) h = rw (later left n h) (over (nat_lt (left - 1) n) n r)

-- what the work told is what the step tells
pub told_ok : (left : ℕ) (op : Option Op) (o : Op) (m new : Machine) (args : List ℕ)
    (to : List Dest) (done : Done) (s : Step)
    → op ≡ Some o → 0 < left
    → budgeted (left - 1) (work o m (slice_index args) (dest_by_index to)) ≡ Ok (new, done)
    → s ≡ step_of done.out (done.cost + 1)
    → step_within left (charged (Ok (work_of op m args to))) ≡ Ok (new, s)
told_ok left op o m new args to done s is h worked step =
    ap (λ (p : Option Op). step_within left (charged (Ok (work_of p m args to)))) is
    ∙ (told_work left (work o m (slice_index args) (dest_by_index to)) h
    ∙ (ap stepped worked ∙ ap (λ (t : Step). Ok (new, t)) (sym step)))

-- what an instruction does, once it is decoded and its loads are taken
pub fetched_is : (m : Machine) (i : Instr) (x : Machine × List ℕ) (w : ℕ)
    → w ≡ width_of (op_of i.op)
    → Ok i ≡ instruction_at m.memory m.pc
    → loaded_all w m (take i.loads.count i.loads.items) 0 (replicate 8 0) ≡ Ok x
    → Ok (work_of (op_of i.op) (record x.0 { pc = i.next }) x.1 i.stores.items) ≡ fetched m
fetched_is m i x w width decoded taken =
    let all : loaded_all (width_of (op_of i.op)) m (take i.loads.count i.loads.items) 0
    (replicate 8 0)
    ≡ Ok x =
    subst (λ (n : ℕ). loaded_all n m (take i.loads.count i.loads.items) 0 (replicate 8 0) ≡ Ok x)
    width taken in
    rw (← decoded, all) refl

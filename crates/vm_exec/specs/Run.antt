-- Quick instructions, those of one tick that tell nothing unless the story has quit (own).
use Rattle.std.specs.Prelude.{ℕ, ◌≡◌, ◌≤◌, ◌<◌, ◌+◌, zero, suc, Result, Ok, Err}
use Rattle.vm_memory.specs.declared.fault.Trap.{Trap}
use Rattle.vm_memory.specs.declared.fault.Trap.TheVariants.{Fault, NoMemory}
use Rattle.vm_operand.specs.Operands.{OpcodeAt}
use Rattle.vm_operand.specs.declared.opcode.Flow.TheVariants.{Catch}
use Rattle.vm_operand.specs.declared.opcode.Move.TheVariants.{Copy}
use Rattle.vm_operand.specs.declared.opcode.Op.{Op}
use Rattle.vm_operand.specs.declared.opcode.Op.TheVariants as op
use Rattle.vm_exec.specs.Machine.{IsSoundMachine}
use Rattle.vm_exec.specs.Row.{charged, fetched, row}
use Rattle.vm_exec.specs.Rows.Work.{Work, Free}
use Rattle.vm_exec.specs.Rules.{Rule}
use Rattle.vm_exec.specs.Want.{WantsMemory}
use Rattle.vm_exec.specs.declared.machine.Machine.{Machine}
use Rattle.vm_exec.specs.declared.quick.Run.{Run}
use Rattle.vm_exec.specs.declared.quick.Run.TheVariants as run
use Rattle.vm_exec.specs.declared.quick.Went.{Went}
use Rattle.vm_exec.specs.declared.quick.Went.TheVariants.{On, Quits, Aside}
use Rattle.vm_exec.specs.declared.step.Out.{Out}
use Rattle.vm_exec.specs.declared.step.Out.TheVariants.{Ran, Quit}
use Rattle.vm_exec.specs.declared.text.Text.TheVariants.{Off}

-- arithmetic, arrays, copy, branches, calls and returns
abbrev pub IsQuickOpcode : Op → Type 0
IsQuickOpcode (op.Math o) = Unit {0}
IsQuickOpcode (op.Array o) = Unit {0}
IsQuickOpcode (op.Move Copy) = Unit {0}
IsQuickOpcode (op.Branch o) = Unit {0}
IsQuickOpcode (op.Flow Catch) = ⊥
IsQuickOpcode (op.Flow o) = Unit {0}
IsQuickOpcode _ = ⊥

-- such an opcode, of one byte or two, is at the PC, 32 bytes or more before RAMSTART
pub record IsQuickAt (m : Machine) (o : Op) (place : ℕ) : Type 0 where
  pub opcode : OpcodeAt m.memory m.pc o place
  pub short : place ≤ m.pc + 2
  pub below : m.pc + 32 ≤ m.memory.ramstart
  pub quick : IsQuickOpcode o

-- none is there
abbrev pub IsUnready : Machine → Type 0
IsUnready m = (o : Op) (place : ℕ) → IsQuickAt m o place → ⊥

-- a run ends there: a text is in progress, or no quick instruction is at the PC
abbrev pub StopsAt : Machine → Type 0
StopsAt m = m.text ≡ Off → IsUnready m

-- one tick, and this rule
abbrev pub Tells : Machine → Rule → Type 0
Tells m r = charged (fetched m) ≡ record { cost = 1; gives = r }

-- what a quick step came to
abbrev pub GoesBy : Machine → Machine → Result Went Trap → Type 0
GoesBy m n (Ok On) = Tells m (Ok (n, Ran))
GoesBy m n (Ok Quits) = Tells m (Ok (n, Quit))
GoesBy m n (Ok Aside) = (n ≡ m) × IsUnready m
GoesBy m n (Err (Fault k)) = Tells m (Err k)
GoesBy m n (Err NoMemory) = WantsMemory m

-- what the work of a quick opcode came to
abbrev pub WorkGives : Work → Machine → Result Went Trap → Type 0
WorkGives w n (Ok On) = w ≡ Free (Ok (n, Ran))
WorkGives w n (Ok Quits) = w ≡ Free (Ok (n, Quit))
WorkGives w n (Ok Aside) = ⊥
WorkGives w n (Err (Fault k)) = w ≡ Free (Err k)
WorkGives w n (Err NoMemory) = Unit {0}

abbrev pub went_of : Out → Went
went_of Quit = Quits
went_of _ = On

-- the machine is sound where the story goes on
abbrev pub StaysOn : Machine → Went → Type 0
StaysOn n On = IsSoundMachine n
StaysOn n _ = Unit {0}

-- so many steps that each take one tick and tell nothing lead from one machine to the other
unfoldable pub RunsTo : ℕ → Machine → Machine → Type 0
RunsTo zero m n = m ≡ n
RunsTo (suc k) m n =
    (o : Machine) × (RunsTo k m o × (row o ≡ record { cost = 1; gives = Ok (n, Ran) }))

-- behind fewer than so many such steps one gives this
abbrev pub EndsBy : ℕ → Machine → Rule → Type 0
EndsBy most m r =
    (k : ℕ) × (o : Machine)
    × ((k < most) × (RunsTo k m o × (row o ≡ record { cost = 1; gives = r })))

-- behind fewer than so many such steps memory may be wanting
abbrev pub EndsWanting : ℕ → Machine → Type 0
EndsWanting most m =
    (k : ℕ) × (o : Machine) × ((k < most) × (RunsTo k m o × WantsMemory o))

-- a run of at most so many steps
abbrev pub RunsWithin : ℕ → Machine → Machine → Result Run Trap → Type 0
RunsWithin most m n (Ok (run.Did k)) = (k ≤ most) × RunsTo k m n
RunsWithin most m n (Ok run.Quits) = EndsBy most m (Ok (n, Quit))
RunsWithin most m n (Err (Fault f)) = EndsBy most m (Err f)
RunsWithin most m n (Err NoMemory) = EndsWanting most m

-- where so many instructions were done
abbrev pub IfDid : Result Run Trap → (ℕ → Type 0) → Type 0
IfDid (Ok (run.Did k)) P = P k
IfDid _ P = Unit {0}

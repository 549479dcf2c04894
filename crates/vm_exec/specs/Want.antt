-- Where the host's memory may be wanting as a quick instruction is done (own).
use Rattle.std.specs.Prelude.{ℕ, ◌≡◌, ◌<◌, Bool, true, IsOkAnd, IsSomeAnd, slice_index}
use Rattle.vm_flow.specs.Function.{IsInFront}
use Rattle.vm_flow.specs.Return.{given_back}
use Rattle.vm_operand.specs.Branch.{holds}
use Rattle.vm_operand.specs.declared.opcode.Array.{Array}
use Rattle.vm_operand.specs.declared.opcode.Array.TheVariants.{Aload, Aloads, Aloadb, Aloadbit}
use Rattle.vm_operand.specs.declared.opcode.Branch.{Branch}
use Rattle.vm_operand.specs.declared.opcode.Branch.TheVariants.{Jump, Jumpabs, Jz, Jnz}
use Rattle.vm_operand.specs.declared.opcode.Flow.{Flow}
use Rattle.vm_operand.specs.declared.opcode.Flow.TheVariants.{Call, Return, Catch, Throw, Tailcall}
use Rattle.vm_operand.specs.declared.opcode.Flow.TheVariants.{Callf, Callfi, Callfii, Callfiii}
use Rattle.vm_operand.specs.declared.opcode.Move.TheVariants.{Copy}
use Rattle.vm_operand.specs.declared.opcode.Op.{Op}
use Rattle.vm_operand.specs.declared.opcode.Op.TheVariants as op
use Rattle.vm_operand.specs.declared.operand.Dest as d
use Rattle.vm_operand.specs.declared.operand.Dest.TheVariants as dest
use Rattle.vm_exec.specs.Row.{Prepared, dest_by_index, prepared, work}
use Rattle.vm_exec.specs.Rows.Work.{Work, IsDone}
use Rattle.vm_exec.specs.declared.machine.Machine.{Machine}

-- a store to memory, whose page may have to be copied
abbrev pub IsInMemory : d.Dest → Type 0
IsInMemory (dest.At a) = Unit {0}
IsInMemory _ = ⊥

-- a write of an array, or a read that is stored to memory
abbrev pub ArrayMayWant : Array → d.Dest → Type 0
ArrayMayWant Aload to = IsInMemory to
ArrayMayWant Aloads to = IsInMemory to
ArrayMayWant Aloadb to = IsInMemory to
ArrayMayWant Aloadbit to = IsInMemory to
ArrayMayWant _ to = Unit {0}

-- a return to a stub that stores to memory
abbrev pub ReturnMayWant : Machine → Type 0
ReturnMayWant m = IsOkAnd (given_back m.stack) (λ x. IsSomeAnd x.1 (λ s. s.kind ≡ 1))

-- a branch that is taken, by an offset of 0 or 1, which returns that value
abbrev pub Returns : Bool → ℕ → Type 0
Returns taken offset = (taken ≡ true) × (offset < 2)

abbrev pub IsReturn : Branch → (ℕ → ℕ) → Type 0
IsReturn Jump l = l 0 < 2
IsReturn Jumpabs l = ⊥
IsReturn Jz l = Returns (holds Jz (l 0) (l 1)) (l 1)
IsReturn Jnz l = Returns (holds Jnz (l 0) (l 1)) (l 1)
IsReturn o l = Returns (holds o (l 0) (l 1)) (l 2)

-- a call of a function whose list of locals doesn't stand below RAMSTART
abbrev pub CallMayWant : Machine → ℕ → Type 0
CallMayWant m at = IsInFront m.memory at → ⊥

-- a call or a return that may want memory; of arguments off the stack, and of a throw, nothing
-- more is said
abbrev pub FlowMayWant : Flow → Machine → ℕ → Type 0
FlowMayWant Return m x = ReturnMayWant m
FlowMayWant Callf m at = CallMayWant m at
FlowMayWant Callfi m at = CallMayWant m at
FlowMayWant Callfii m at = CallMayWant m at
FlowMayWant Callfiii m at = CallMayWant m at
FlowMayWant Call m at = Unit {0}
FlowMayWant Tailcall m at = Unit {0}
FlowMayWant Throw m x = Unit {0}
FlowMayWant Catch m x = ⊥

-- what of a quick opcode may want memory, with l 0, l 1 .. its loads and d 0 its store: a store to
-- memory, a call or a return
abbrev pub MayWant : Op → Machine → (ℕ → ℕ) → (ℕ → d.Dest) → Type 0
MayWant (op.Math o) m l d = IsInMemory (d 0)
MayWant (op.Array o) m l d = ArrayMayWant o (d 0)
MayWant (op.Move Copy) m l d = IsInMemory (d 0)
MayWant (op.Branch o) m l d = IsReturn o l × ReturnMayWant m
MayWant (op.Flow o) m l d = FlowMayWant o m (l 0)
MayWant _ m l d = ⊥

-- its work comes to no fault; of a call, which may want memory before its fault is met, and of a
-- throw nothing is said
abbrev pub HasNoFault : Op → Work → Type 0
HasNoFault (op.Flow Return) w = IsDone w
HasNoFault (op.Flow o) w = Unit {0}
HasNoFault _ w = IsDone w

-- of an opcode in this machine, with these loads and stores
abbrev pub OpcodeMayWant : Op → Machine → (ℕ → ℕ) → (ℕ → d.Dest) → Type 0
OpcodeMayWant o m l d = MayWant o m l d × HasNoFault o (work o m l d)

-- of an instruction with its loads taken
abbrev pub InstructionMayWant : Prepared → Type 0
InstructionMayWant p = IsSomeAnd p.op
    (λ o. OpcodeMayWant o p.machine (slice_index p.loads) (dest_by_index p.stores))

-- the instruction at the PC can be read, its loads can be taken, and with these it is one that may
-- want memory, and comes to no fault
abbrev pub WantsMemory : Machine → Type 0
WantsMemory m = IsOkAnd (prepared m) InstructionMayWant

-- Instructions below RAMSTART, whose loads are taken as they are decoded (own).
use Rattle.std.specs.Prelude.{ℕ, ◌≡◌, ◌≤◌, ◌+◌, List, [], ◌∷◌, replicate}
use Rattle.std.specs.Prelude.{slice_index, Result, Ok, Err, Some, IsErr}
use Rattle.vm_memory.specs.Code.{IsCode}
use Rattle.vm_memory.specs.declared.fault.Trap.{Trap}
use Rattle.vm_memory.specs.declared.fault.Trap.TheVariants.{Fault, NoMemory}
use Rattle.vm_operand.specs.Fault.{operation_fault_code}
use Rattle.vm_operand.specs.Instruction.{instruction_at}
use Rattle.vm_operand.specs.Operands.{OpcodeAt, dest_by, load_by}
use Rattle.vm_operand.specs.declared.fault.OpFault.{OpFault}
use Rattle.vm_operand.specs.declared.instruction.Instr.{Instr}
use Rattle.vm_operand.specs.declared.opcode.Op.{Op}
use Rattle.vm_operand.specs.declared.operand.Dest as d
use Rattle.vm_operand.specs.declared.operand.Dest.TheVariants as dest
use Rattle.vm_operand.specs.declared.operand.Load as l
use Rattle.vm_exec.specs.Row.{Prepared, dest_by_index, prepared, work}
use Rattle.vm_exec.specs.Rows.Work.{Work}
use Rattle.vm_exec.specs.Rules.{operand_loaded}
use Rattle.vm_exec.specs.declared.fetch.Fetched.{Fetched}
use Rattle.vm_exec.specs.declared.fetch.Taken.{Taken}
use Rattle.vm_exec.specs.declared.machine.Machine.{Machine}

-- the opcode at the PC and the place of its operands' modes, with the 32 bytes from the PC on
pub record IsAtHand (m : Machine) (o : Op) (place : ℕ) (code : List ℕ) : Type 0 where
  pub opcode : OpcodeAt m.memory m.pc o place
  pub bytes : IsCode m.memory m.pc code
  pub limit : m.pc + 32 ≤ 16777216
  pub above : m.pc ≤ place
  pub below : place ≤ m.pc + 2

-- the instruction at the PC can't be read, for this fault, or else this holds of the fault
pub record IsRefused (m : Machine) (fault : ℕ) (P : Type 0) : Type 0 where
  pub unread : (f : OpFault) → instruction_at m.memory m.pc ≡ Err f → fault ≡ operation_fault_code f
  pub read : (i : Instr) → instruction_at m.memory m.pc ≡ Ok i → P

-- a load by the number of its mode was taken, or refused; no memory is wanted
abbrev pub Takes : Machine → ℕ → ℕ → Machine → Result Taken Trap → Type 0
Takes m number at n (Ok t) =
    (x : l.Load)
    × ((load_by m.memory number at ≡ Ok (x, t.next)) × (operand_loaded 4 m x ≡ Ok (n, t.value)))
Takes m number at n (Err (Fault k)) =
    IsRefused m k
    ((x : l.Load × ℕ) → load_by m.memory number at ≡ Ok x → operand_loaded 4 m x.0 ≡ Err k)
Takes m number at n (Err NoMemory) = ⊥

-- a store by the number of its mode was found, or there is none
abbrev pub Reads : Machine → ℕ → ℕ → Result (d.Dest × ℕ) Trap → Type 0
Reads m number at (Ok x) = dest_by m.memory number at ≡ Ok x
Reads m number at (Err (Fault k)) = IsRefused m k (IsErr (dest_by m.memory number at))
Reads m number at (Err NoMemory) = ⊥

-- the values of the loads, with zeros up to the eighth
abbrev pub loads_of : Fetched → List ℕ
loads_of q = q.first ∷ q.second ∷ q.third ∷ q.fourth ∷ replicate 4 0

-- an instruction of this opcode with these loads and this store, which goes on in this machine
abbrev pub prepared_by : Op → Machine → Fetched → Prepared
prepared_by o n q = record {
  op = Some o;
  machine = n;
  loads = loads_of q;
  stores = q.to ∷ dest.Discard ∷ [];
}

-- the instruction at the PC, which has this opcode, was fetched: its loads are these, in a machine
-- that goes on behind it; or the fault
abbrev pub Fetches : Machine → Op → Machine → Result Fetched Trap → Type 0
Fetches m o n (Ok q) = prepared m ≡ Ok (prepared_by o n q)
Fetches m o n (Err (Fault k)) = prepared m ≡ Err k
Fetches m o n (Err NoMemory) = ⊥

-- the work of an opcode that was fetched
abbrev pub work_for : Op → Machine → Fetched → Work
work_for o m q =
    work o m (slice_index (loads_of q)) (dest_by_index (q.to ∷ dest.Discard ∷ []))

-- Instructions below RAMSTART: what is fetched, load by load, is what the definition fetches.
use Rattle.std.proofs.Common.{IsErrAnd, ◌≡◌, ◌≢◌, refl, sym, ◌∙◌, ap, ℕ, ◌+◌, ◌/◌, List, [], ◌∷◌}
use Rattle.std.proofs.Common.{◌++◌, ◌-◌, Result, Ok, Err, Some, replicate, subst, slice_set, length}
use Rattle.std.proofs.Math.Seq.{take-append_seam}
use Rattle.vm_memory.specs.Chaining.{◌>>=◌}
use Rattle.vm_memory.specs.MemoryMap.{MemoryMap}
use Rattle.vm_memory.specs.declared.fault.Trap.{Trap}
use Rattle.vm_memory.specs.declared.fault.Trap.TheVariants.{Fault, NoMemory}
use Rattle.vm_operand.specs.Fault.{operation_fault_code}
use Rattle.vm_operand.specs.Instruction.{instruction_at}
use Rattle.vm_operand.specs.Opcode.{kinds_of}
use Rattle.vm_operand.specs.Operands.{dest_by, load_by}
use Rattle.vm_operand.specs.declared.fault.OpFault.{OpFault}
use Rattle.vm_operand.specs.declared.instruction.Instr.{Instr}
use Rattle.vm_operand.specs.declared.opcode.Op.{Op}
use Rattle.vm_operand.specs.declared.operand.Dest as d
use Rattle.vm_operand.specs.declared.operand.Dest.TheVariants as dest
use Rattle.vm_operand.specs.declared.operand.Kind.{Kind}
use Rattle.vm_operand.specs.declared.operand.Kind.TheVariants.{Load as L, Store as S}
use Rattle.vm_operand.specs.declared.operand.Load as l
use Rattle.vm_operand.specs.declared.operand.Load.TheVariants as load
use Rattle.vm_operand.proofs.OpcodeBytesLemmas.{bound, ok_is}
use Rattle.vm_operand.proofs.OpcodeLemmas.{op_of-number_of}
use Rattle.vm_operand.proofs.OperandsLemmas.{BytesAt, Rest, contrary, either, halves}
use Rattle.vm_operand.proofs.OperandsLemmas.{instruction_left, left, left-load, left-none}
use Rattle.vm_operand.proofs.OperandsLemmas.{left-store, load_first, store_first}
use Rattle.vm_memory.specs.Access.{read}
use Rattle.vm_memory.specs.Fault.{coded}
use Rattle.vm_stack.specs.Locals.{local}
use Rattle.vm_stack.specs.Values.{popped}
use Rattle.vm_exec.specs.Fault.{stacked}
use Rattle.vm_exec.proofs.KeepingLemmas.{Gives, ok-done, ok-then}
use Rattle.vm_exec.specs.Answer.{Does}
use Rattle.vm_exec.specs.Fetch.{Fetches, IsAtHand, IsRefused, Reads, Takes}
use Rattle.vm_exec.specs.Row.{Prepared, prepared, width_of}
use Rattle.vm_exec.specs.Rules.{loaded_all, operand_loaded}
use Rattle.vm_exec.specs.declared.fetch.Fetched.{Fetched}
use Rattle.vm_exec.specs.declared.machine.Machine.{Machine}

same_instruction : (m n : Machine) → n.memory ≡ m.memory → n.pc ≡ m.pc
    → instruction_at n.memory n.pc ≡ instruction_at m.memory m.pc
same_instruction m n memory pc = rw (memory, pc) refl

-- an instruction of this opcode with these loads and stores, which goes on in this machine
abbrev made : Op → Machine → List ℕ → List d.Dest → Prepared
made o n args to = record { op = Some o; machine = n; loads = args; stores = to }

-- an instruction once what is left is loaded into places from i on
abbrev loading : Machine → Op → ℕ → List ℕ → Rest → Result Prepared ℕ
loading n o i args r =
    loaded_all 4 n r.loads i args
    >>= (λ x. Ok (made o (record x.0 { pc = r.next }) x.1 (r.stores
    ++ replicate (2 - length r.stores) dest.Discard)))

-- a fetch under way: the loads so far led to this machine and these values, and what is left of the
-- instruction has these kinds and numbers of modes, from a place on
pub record Begun (m n : Machine) (o : Op) (ks : List Kind) (ns : List ℕ) (at i : ℕ) (args : List
    ℕ) : Type 0 where
  pub memory : n.memory ≡ m.memory
  pub pc : n.pc ≡ m.pc
  pub reads : (j : Instr) → instruction_at m.memory m.pc ≡ Ok j
      → (r : Rest) × (left m.memory ks ns at ≡ Ok r)
  pub fetches : (r : Rest) → left m.memory ks ns at ≡ Ok r → prepared m ≡ loading n o i args r

-- a fetch of which the bytes of the modes were read, at a place
abbrev pub Begins : Machine → Op → ℕ → List Kind → List ℕ → Type 0
Begins m o p ks bs = Begun m m o ks (halves bs) (p + (length ks + 1) / 2) 0 (replicate 8 0)

-- nothing is loaded yet
pub begun : {m : Machine} {o : Op} {p : ℕ} {code : List ℕ} {ks : List Kind} (bs : List ℕ)
    → IsAtHand m o p code → kinds_of o ≡ ks → width_of (Some o) ≡ 4 → BytesAt m.memory p ks bs
    → Begins m o p ks bs
begun {m} {o} {p} {ks = ks} bs here kinds words bytes =
    let is = instruction_left m.memory m.pc o p ks bs here.opcode kinds bytes in
    record {
      memory = refl;
      pc = refl;
      reads = λ j there.
          let r =
          bound (left m.memory ks (halves bs) (p + (length ks + 1) / 2)) _ j (sym is ∙ there)
          in (r.0, r.1);
      fetches = λ r e.
          rw (
            is,
            e,
            op_of-number_of o,
            words,
            take-append_seam r.loads (replicate
                (8 - length r.loads) (load.Value 0)),
          ) refl;
    }

-- a load changes no more than the stack
load_keeps : (m : Machine) (x : l.Load)
    → Gives (operand_loaded 4 m x) (λ a. (a.0.memory ≡ m.memory) × (a.0.pc ≡ m.pc))
load_keeps m (load.Value x) = ok-done (refl, refl)
load_keeps m (load.At a) = ok-then (coded (read 4 m.memory a)) (λ x. ok-done (refl, refl))
load_keeps m (load.Local at) = ok-then (stacked (local m.stack at 4)) (λ x. ok-done (refl, refl))
load_keeps m load.Pop = ok-then (stacked (popped m.stack)) (λ p. ok-done (refl, refl))

-- a load was taken
pub taken : {m n next : Machine} {o : Op} {ks : List Kind} {number at i value after : ℕ}
    {ns args : List ℕ} → Begun m n o (L ∷ ks) (number ∷ ns) at i args
    → ((x : l.Load) × ((load_by n.memory number at ≡ Ok (x, after))
    × (operand_loaded 4 n x ≡ Ok (next, value))))
    → Begun m next o ks ns after (i + 1) (slice_set args i value)
unfolding loaded_all
taken {m} {n} {next} {o} {ks} {number} {at} {i} {value} {after} {ns} {args} b (x, (reads, loads)) =
    let there : load_by m.memory number at ≡ Ok (x, after) = rw b.memory at reads in
    let kept = rw loads at (load_keeps n x).holds in
    record {
      memory = kept.0 ∙ b.memory;
      pc = kept.1 ∙ b.pc;
      reads = λ j is.
          let y = b.reads j is in
          let f = load_first m.memory ks number ns at y.0 y.1 in
          (f.rest, rw (ok_is (sym f.is ∙ there)) at f.behind);
      fetches = λ r e.
          b.fetches _ (left-load m.memory ks number ns at (x, after) r there e) ∙ rw loads refl;
    }

-- a fetch that is refused
refused : {m n : Machine} {o : Op} {ks : List Kind} {at i : ℕ} {ns args : List ℕ} {P : Type 0}
    (k : ℕ) → Begun m n o ks ns at i args → IsRefused n k P
    → ((r : Rest) → left m.memory ks ns at ≡ Ok r → P → prepared m ≡ Err k) → prepared m ≡ Err k
refused {m} {n} k b why reads =
    let same = same_instruction m n b.memory b.pc in
    either (instruction_at m.memory m.pc)
    (λ f e. rw e (ap Err (sym (why.unread f (same ∙ e)))))
    (λ i e. let y = b.reads i e in reads y.0 y.1 (why.read i (same ∙ e)))

-- a load was refused
pub stopped : {m n : Machine} {o : Op} {ks : List Kind} {number at i : ℕ} {ns args : List ℕ} (next :
    Machine) (e : Trap) (r : Result Fetched Trap) → Begun m n o (L ∷ ks) (number ∷ ns) at i args
    → Takes n number at next (Err e) → IsErrAnd r (λ f. f ≡ e) → Fetches m o next r
unfolding loaded_all
stopped next e (Ok q) b why same = absurd same
stopped next NoMemory (Err f) b why same = absurd why
stopped {m} {n} {o} {ks} {number} {at} {i} {ns} {args} next (Fault k) (Err f) b why same =
    subst (λ (g : Trap). Fetches m o next (Err g)) (sym same)
    (refused k b why (λ r whole bad.
    let f = load_first m.memory ks number ns at r whole in
    let there : load_by n.memory number at ≡ Ok f.load =
    subst (λ (mem : MemoryMap). load_by mem number at ≡ Ok f.load) (sym b.memory) f.is in
    b.fetches _ (left-load m.memory ks number ns at f.load f.rest f.is f.behind)
    ∙ rw (bad f.load there) refl))

-- all was loaded, and there is no store
pub ended : {m n : Machine} {o : Op} {at i : ℕ} {ns args : List ℕ} → Begun m n o [] ns at i args
    → prepared m ≡ Ok (made o (record n { pc = at }) args (dest.Discard ∷ dest.Discard ∷ []))
unfolding loaded_all
ended {m} {n} {o} {at} {i} {ns} {args} b = b.fetches _ (left-none m.memory ns at)

-- all was loaded, and the store was found
pub ended_by : {m n : Machine} {o : Op} {number at i : ℕ} {ns args : List ℕ} (to : d.Dest × ℕ)
    → Begun m n o (S ∷ []) (number ∷ ns) at i args → Reads n number at (Ok to)
    → prepared m ≡ Ok (made o (record n { pc = to.1 }) args (to.0 ∷ dest.Discard ∷ []))
unfolding loaded_all
ended_by {m} {n} {o} {number} {at} {i} {ns} {args} to b found =
    b.fetches _ (left-store m.memory [] number ns at to _ (rw b.memory at found)
    (left-none m.memory ns to.1))

-- the store was refused
pub stopped_by : {m n : Machine} {o : Op} {ks : List Kind} {number at i : ℕ} {ns args : List ℕ}
    (e : Trap) (r : Result Fetched Trap) → Begun m n o (S ∷ ks) (number ∷ ns) at i args
    → Reads n number at (Err e) → IsErrAnd r (λ f. f ≡ e) → Fetches m o n r
stopped_by e (Ok q) b why same = absurd same
stopped_by NoMemory (Err f) b why same = absurd why
stopped_by {m} {n} {o} {ks} {number} {at} {ns = ns} (Fault k) (Err f) b why same =
    subst (λ (g : Trap). Fetches m o n (Err g)) (sym same)
    (refused k b why (λ r whole bad.
    let x = store_first m.memory ks number ns at r whole in
    contrary (dest_by m.memory number at) x.0 x.1 (rw b.memory at bad)))

fault_is : (j k : ℕ) → ◌≡◌ {A = Trap} (Fault j) (Fault k) → j ≡ k
fault_is j k e = cc

-- a load that was refused, by what it is told of the refusal
pub take_refused : (m n : Machine) (number at : ℕ) (x : l.Load × ℕ) (why result : Trap)
    → n.memory ≡ m.memory → n.pc ≡ m.pc → load_by m.memory number at ≡ Ok x
    → Does {A = ℕ} (operand_loaded 4 m x.0) n (Err why)
    → ◌≢◌ {A = Result ℕ Trap} (Err why) (Err NoMemory)
    → ((f : OpFault) → instruction_at n.memory n.pc ≡ Err f
    → result ≡ Fault (operation_fault_code f))
    → ((i : Instr) → instruction_at n.memory n.pc ≡ Ok i → result ≡ why)
    → (result ≡ NoMemory → why ≡ NoMemory) → Takes m number at n (Err result)
take_refused m n number at x why (Fault k) memory pc is does some bad good want =
    let same = same_instruction m n memory pc in
    record {
      unread = λ f e. fault_is k (operation_fault_code f) (bad f (same ∙ e));
      read = λ i e y g.
          subst (λ (z : l.Load × ℕ). operand_loaded 4 m z.0 ≡ Err k) (ok_is (sym is ∙ g))
          (subst (λ (t : Trap). Does {A = ℕ} (operand_loaded 4 m x.0) n (Err t))
          (sym (good i (same ∙ e))) does);
    }
take_refused m n number at x why NoMemory memory pc is does some bad good want =
    some (ap Err (want refl))

-- Operands read by the numbers of their modes.
use Rattle.std.proofs.Common.{arith, ◌≡◌, ◌≤◌, refl, sym, ap, ℕ, ◌+◌, ◌%◌, ◌/◌, List, [], ◌∷◌, ◌++◌}
use Rattle.std.proofs.Common.{length, Result, Ok, Err, subst, append_assoc, append-nil}
use Rattle.std.proofs.Common.{length-append}
use Rattle.std.specs.Prelude.{IsErr}
use Rattle.vm_memory.specs.Chaining.{◌>>=◌}
use Rattle.vm_memory.specs.MemoryMap.{MemoryMap}
use Rattle.vm_memory.specs.Access.{read}
use Rattle.vm_operand.specs.Operands.{OpcodeAt, dest_by, load_by}
use Rattle.vm_operand.specs.Instruction.{modes_at, operand, operands, load_at, dest_at}
use Rattle.vm_operand.specs.Instruction.{instruction_at}
use Rattle.vm_operand.specs.Mode.{mode_of}
use Rattle.vm_operand.specs.Opcode.{kinds_of, loads_in, opcode_number, stores_in}
use Rattle.vm_operand.specs.Spelling.{instr}
use Rattle.vm_operand.specs.declared.opcode.Op.{Op}
use Rattle.vm_operand.specs.declared.mode.Mode.{Mode}
use Rattle.vm_operand.specs.declared.fault.OpFault.{OpFault}
use Rattle.vm_operand.specs.declared.operand.Kind.{Kind}
use Rattle.vm_operand.specs.declared.operand.Kind.TheVariants.{Load as L, Store as S}
use Rattle.vm_operand.specs.declared.operand.Load as l
use Rattle.vm_operand.specs.declared.operand.Dest as d
use Rattle.vm_operand.proofs.OpcodeBytesLemmas.{bound, ok_is}
use Rattle.vm_operand.proofs.OpcodeLemmas.{op_of-number_of}
use Rattle.vm_operand.proofs.OperandBytesLemmas.{loaded, stored}
use Rattle.vm_operand.proofs.SpellingLemmas.{is_small}

-- a result that is an error, or a value
pub either : {A E : Type 0} {P : Type 0} (r : Result A E) → ((e : E) → r ≡ Err e → P)
    → ((x : A) → r ≡ Ok x → P) → P
either (Ok x) bad good = good x refl
either (Err e) bad good = bad e refl

-- no result is a value and an error
pub contrary : {A E : Type 0} {P : Type 0} (r : Result A E) (x : A) → r ≡ Ok x → IsErr r → P
contrary (Ok y) x is bad = absurd cc
contrary (Err e) x is bad = absurd cc

-- the numbers in bytes of modes, the low half first
abbrev pub halves : List ℕ → List ℕ
halves [] = []
halves (b ∷ bs) = b % 16 ∷ b / 16 ∷ halves bs

-- these are the bytes of the modes of such operands
abbrev pub BytesAt : MemoryMap → ℕ → List Kind → List ℕ → Type 0
BytesAt m p [] bs = Unit {0}
BytesAt m p (kind ∷ kinds) [] = ⊥
BytesAt m p (kind ∷ []) (b ∷ bs) = read 1 m p ≡ Ok b
BytesAt m p (first ∷ second ∷ kinds) (b ∷ bs) = (read 1 m p ≡ Ok b) × BytesAt m (p + 1) kinds bs

-- the modes of these numbers
unfoldable pub modes_by : List Kind → List ℕ → Result (List Mode) OpFault
modes_by [] ns = Ok []
modes_by (kind ∷ kinds) [] = Ok []
modes_by (kind ∷ kinds) (n ∷ ns) = do
  mode ← mode_of kind n
  modes ← modes_by kinds ns
  Ok (mode ∷ modes)

-- the modes that are read are those of the numbers in their bytes
modes_at-by : (m : MemoryMap) (p : ℕ) (ks : List Kind) (bs : List ℕ) → BytesAt m p ks bs
    → modes_at m p ks ≡ modes_by ks (halves bs)
unfolding modes_at modes_by
modes_at-by m p [] bs bytes = refl
modes_at-by m p (kind ∷ kinds) [] bytes = absurd bytes
modes_at-by m p (kind ∷ []) (b ∷ bs) bytes = rw bytes refl
modes_at-by m p (first ∷ second ∷ kinds) (b ∷ bs) bytes =
    rw (bytes.0, modes_at-by m (p + 1) kinds bs bytes.1)
    (either (mode_of first (b % 16)) (λ e h. rw h refl) (λ low h.
    rw h (either (mode_of second (b / 16)) (λ e g. rw g refl) (λ high g.
    rw g (either (modes_by kinds (halves bs)) (λ e f. rw f refl) (λ modes f. rw f refl))))))

-- what is left of an instruction
pub record Rest : Type 0 where
  pub loads : List l.Load
  pub stores : List d.Dest
  pub next : ℕ

-- operands of these modes, whose bytes begin at a place
unfoldable pub operands_at : MemoryMap → List Kind → List Mode → ℕ → Result Rest OpFault
operands_at m [] modes at = Ok (record { loads = []; stores = []; next = at })
operands_at m (kind ∷ kinds) [] at = Ok (record { loads = []; stores = []; next = at })
operands_at m (L ∷ kinds) (mode ∷ modes) at = do
  x ← load_at m mode at
  r ← operands_at m kinds modes x.1
  Ok (record r { loads = x.0 ∷ r.loads })
operands_at m (S ∷ kinds) (mode ∷ modes) at = do
  x ← dest_at m mode at
  r ← operands_at m kinds modes x.1
  Ok (record r { stores = x.0 ∷ r.stores })

-- the operands that are read are added to an instruction with these loads and stores
operands_added : (m : MemoryMap) (number : ℕ) (ks : List Kind) (modes : List Mode)
    (xs : List l.Load) (ys : List d.Dest) (at : ℕ)
    → length xs + loads_in ks ≤ 8 → length ys + stores_in ks ≤ 2
    → operands m ks modes (instr number xs ys at) ≡ (operands_at m ks modes at >>= (λ r. Ok (instr
    number (xs ++ r.loads) (ys ++ r.stores) r.next)))
unfolding operands operand operands_at
operands_added m number [] modes xs ys at a b = rw (append-nil xs, append-nil ys) refl
operands_added m number (kind ∷ kinds) [] xs ys at a b = rw (append-nil xs, append-nil ys) refl
operands_added m number (L ∷ kinds) (mode ∷ modes) xs ys at a b =
    either (load_at m mode at) (λ e h. rw h refl) (λ x h.
    let n = length-append xs (x.0 ∷ []) in
    rw (
      h,
      loaded number xs ys at x.1 x.0 (omega (arith, a)),
      operands_added m number kinds modes
          (xs ++ x.0 ∷ []) ys x.1 (omega (arith, a, n)) b,
    )
    (either (operands_at m kinds modes x.1) (λ e g. rw g refl) (λ r g.
    rw (g, append_assoc xs (x.0 ∷ []) r.loads) refl)))
operands_added m number (S ∷ kinds) (mode ∷ modes) xs ys at a b =
    either (dest_at m mode at) (λ e h. rw h refl) (λ x h.
    let n = length-append ys (x.0 ∷ []) in
    rw (
      h,
      stored number xs ys at x.1 x.0 (omega (arith, b)),
      operands_added m number kinds modes
          xs (ys ++ x.0 ∷ []) x.1 a (omega (arith, b, n)),
    )
    (either (operands_at m kinds modes x.1) (λ e g. rw g refl) (λ r g.
    rw (g, append_assoc ys (x.0 ∷ []) r.stores) refl)))

-- what is left of an instruction from a place on, by the kinds and the numbers of the modes
unfoldable pub left : MemoryMap → List Kind → List ℕ → ℕ → Result Rest OpFault
left m ks ns at = modes_by ks ns >>= (λ modes. operands_at m ks modes at)

-- the instruction of an opcode that stands there, whose bytes of modes are these
pub instruction_left : (m : MemoryMap) (at : ℕ) (o : Op) (p : ℕ) (ks : List Kind) (bs : List ℕ)
    → OpcodeAt m at o p → kinds_of o ≡ ks → BytesAt m p ks bs
    → instruction_at m at ≡ (left m ks (halves bs) (p + (length ks + 1) / 2) >>= (λ r. Ok (instr
    (opcode_number o) r.loads r.stores r.next)))
unfolding instruction_at left
instruction_left m at o p ks bs here kinds bytes =
    let few = is_small o in
    let loads = few.loads in
    let stores = few.stores in
    rw (here, op_of-number_of o, kinds, modes_at-by m p ks bs bytes)
    (either (modes_by ks (halves bs)) (λ e h. rw h refl) (λ modes h.
    rw (
      h,
      operands_added m (opcode_number o) ks modes [] [] (p + (length ks + 1) / 2)
          (omega (arith, loads, ap loads_in kinds)) (omega (arith, stores, ap stores_in kinds)),
    ) refl))

-- nothing is left
pub left-none : (m : MemoryMap) (ns : List ℕ) (at : ℕ)
    → left m [] ns at ≡ Ok (record { loads = []; stores = []; next = at })
unfolding left modes_by operands_at
left-none m ns at = refl

-- a load, and the rest behind it
pub left-load : (m : MemoryMap) (ks : List Kind) (n : ℕ) (ns : List ℕ) (at : ℕ) (x : l.Load × ℕ)
    (r : Rest) → load_by m n at ≡ Ok x → left m ks ns x.1 ≡ Ok r
    → left m (L ∷ ks) (n ∷ ns) at ≡ Ok (record r { loads = x.0 ∷ r.loads })
unfolding left modes_by operands_at
left-load m ks n ns at x r reads behind =
    let a = bound (mode_of L n) _ x reads in
    let b = bound (modes_by ks ns) _ r behind in
    rw (a.1, b.1, a.2, b.2) refl

-- a store, and the rest behind it
pub left-store : (m : MemoryMap) (ks : List Kind) (n : ℕ) (ns : List ℕ) (at : ℕ) (x : d.Dest × ℕ)
    (r : Rest) → dest_by m n at ≡ Ok x → left m ks ns x.1 ≡ Ok r
    → left m (S ∷ ks) (n ∷ ns) at ≡ Ok (record r { stores = x.0 ∷ r.stores })
unfolding left modes_by operands_at
left-store m ks n ns at x r reads behind =
    let a = bound (mode_of S n) _ x reads in
    let b = bound (modes_by ks ns) _ r behind in
    rw (a.1, b.1, a.2, b.2) refl

-- the first mode, and those of the rest
record Split (m : MemoryMap) (kind : Kind) (ks : List Kind) (n : ℕ) (ns : List ℕ) (at : ℕ) (r :
    Rest) : Type 0 where
  mode : Mode
  modes : List Mode
  first : mode_of kind n ≡ Ok mode
  others : modes_by ks ns ≡ Ok modes
  is : operands_at m (kind ∷ ks) (mode ∷ modes) at ≡ Ok r

-- what can be read is read operand by operand
split : (m : MemoryMap) (kind : Kind) (ks : List Kind) (n : ℕ) (ns : List ℕ) (at : ℕ) (r : Rest)
    → left m (kind ∷ ks) (n ∷ ns) at ≡ Ok r → Split m kind ks n ns at r
unfolding left modes_by
split m kind ks n ns at r whole =
    let a = bound (modes_by (kind ∷ ks) (n ∷ ns)) _ r whole in
    let b = bound (mode_of kind n) _ a.0 a.1 in
    let c = bound (modes_by ks ns) _ a.0 b.2 in
    record {
      mode = b.0;
      modes = c.0;
      first = b.1;
      others = c.1;
      is = subst (λ modes. operands_at m (kind ∷ ks) modes at ≡ Ok r) (sym (ok_is c.2)) a.2;
    }

-- a load that can be read, and what is left behind it
pub record LoadFirst (m : MemoryMap) (ks : List Kind) (n : ℕ) (ns : List ℕ) (at : ℕ) : Type 0 where
  pub load : l.Load × ℕ
  pub rest : Rest
  pub is : load_by m n at ≡ Ok load
  pub behind : left m ks ns load.1 ≡ Ok rest

pub load_first : (m : MemoryMap) (ks : List Kind) (n : ℕ) (ns : List ℕ) (at : ℕ) (r : Rest)
    → left m (L ∷ ks) (n ∷ ns) at ≡ Ok r → LoadFirst m ks n ns at
unfolding left operands_at
load_first m ks n ns at r whole =
    let s = split m L ks n ns at r whole in
    let a = bound (load_at m s.mode at) _ r s.is in
    let b = bound (operands_at m ks s.modes a.0.1) _ r a.2 in
    record { load = a.0; rest = b.0; is = rw s.first a.1; behind = rw s.others b.1 }

-- a store that can be read is there
pub store_first : (m : MemoryMap) (ks : List Kind) (n : ℕ) (ns : List ℕ) (at : ℕ) (r : Rest)
    → left m (S ∷ ks) (n ∷ ns) at ≡ Ok r → (x : d.Dest × ℕ) × (dest_by m n at ≡ Ok x)
unfolding left operands_at
store_first m ks n ns at r whole =
    let s = split m S ks n ns at r whole in
    let a = bound (dest_at m s.mode at) _ r s.is in (a.0, rw s.first a.1)

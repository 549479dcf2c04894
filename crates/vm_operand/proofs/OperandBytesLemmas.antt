-- The bytes of operands, and what is read there.
use Rattle.std.proofs.Common.{arith, ◌≡◌, ◌∙◌, refl, sym, ap, subst, ℕ, suc, ◌+◌, ◌-◌, ◌^◌, ◌<◌}
use Rattle.std.proofs.Common.{◌≤◌, true, List, [], ◌∷◌, ◌++◌, length, map, replicate, set, Result}
use Rattle.std.proofs.Common.{Ok, append_assoc, append-nil, length-append}
use Rattle.std.proofs.lemmas.List.Elements.{All-head, All-tail, All-cons, All-nil}
use Rattle.std.proofs.Math.Seq.{set-append_seam}
use Rattle.std.specs.List.{All}
use Rattle.byteorder.specs.Endian.{big_bytes}
use Rattle.byteorder.specs.Numbers.{length-bytes_high_first}
use Rattle.vm_memory.specs.Chaining.{◌>>=◌}
use Rattle.vm_memory.specs.MemoryMap.{MemoryMap}
use Rattle.vm_memory.specs.Access.{read}
use Rattle.vm_operand.specs.Opcode.{loads_in, stores_in}
use Rattle.vm_operand.specs.Mode.{allows, size}
use Rattle.vm_operand.specs.Reading.{instruction_read}
use Rattle.vm_operand.specs.Instruction.{dest_at, load_at, operand, operands, with_load, with_store}
use Rattle.vm_operand.specs.Spelling.{Operand, operand_kind, mode_in, number_in}
use Rattle.vm_operand.specs.Spelling.{mode_size, IsOperand, operand_bytes, load_of}
use Rattle.vm_operand.specs.Spelling.{dest_of, loads_of, stores_of, instr, Stand}
use Rattle.vm_operand.specs.Spelling.Operand.{Load, Store}
use Rattle.vm_operand.specs.declared.operand.Kind.{Kind}
use Rattle.vm_operand.specs.declared.operand.Kind.TheVariants as kind
use Rattle.vm_operand.specs.declared.operand.Load as l
use Rattle.vm_operand.specs.declared.operand.Load.TheVariants as load
use Rattle.vm_operand.specs.declared.operand.Dest as d
use Rattle.vm_operand.specs.declared.operand.Dest.TheVariants as dest
use Rattle.vm_operand.specs.declared.instruction.Instr.{Instr}
use Rattle.vm_operand.specs.declared.fault.OpFault.{OpFault}
use Rattle.vm_operand.specs.declared.mode.Mode.{Mode}
use Rattle.vm_operand.specs.declared.mode.Mode.TheVariants.{Zero, Constant, Address, Stack, Local}
use Rattle.vm_operand.specs.declared.mode.Mode.TheVariants.{Ram}
use Rattle.vm_operand.specs.declared.mode.Width.{Width}
use Rattle.vm_operand.specs.declared.mode.Width.TheVariants.{One, Two, Four}
use Rattle.vm_operand.proofs.InstructionLemmas.{first_operand}
use Rattle.vm_operand.proofs.OpcodeBytesLemmas.{Bytes, bound, ok_is, was_read}
use Rattle.vm_operand.proofs.StandLemmas.{Number, read_stands, stand_both, stand_first, stand_read}
use Rattle.vm_operand.proofs.StandLemmas.{stand_then}
use Rattle.vm_operand.proofs.ModeBytesLemmas.{Allowed}

-- ---- one operand

some_bytes : (w : Width) → 0 < size w
some_bytes One = omega arith
some_bytes Two = omega arith
some_bytes Four = omega arith

here : {A : Type 0} (x : A) (p : ℕ) → ◌≡◌ {A = Result (A × ℕ) OpFault} (Ok (x, p)) (Ok (x, p + 0))
here x p = let z : p ≡ p + 0 = omega arith in ap (λ (n : ℕ). Ok (x, n)) z

load_read : (m : MemoryMap) (mode : Mode) (p n : ℕ) → n < 256 ^ mode_size mode
    → Stand m p (big_bytes (mode_size mode) n)
    → load_at m mode p ≡ Ok (load_of m mode n, p + mode_size mode)
unfolding load_at
load_read m Zero p n h s = here (load.Value 0) p
load_read m (Constant w) p n h s = rw (stand_read (size w) m p n (some_bytes w) h s) refl
load_read m (Address w) p n h s = rw (stand_read (size w) m p n (some_bytes w) h s) refl
load_read m Stack p n h s = here load.Pop p
load_read m (Local w) p n h s = rw (stand_read (size w) m p n (some_bytes w) h s) refl
load_read m (Ram w) p n h s = rw (stand_read (size w) m p n (some_bytes w) h s) refl

dest_read : (m : MemoryMap) (mode : Mode) (p n : ℕ) → allows kind.Store mode ≡ true
    → n < 256 ^ mode_size mode → Stand m p (big_bytes (mode_size mode) n)
    → dest_at m mode p ≡ Ok (dest_of m mode n, p + mode_size mode)
unfolding dest_at
dest_read m Zero p n a h s = here dest.Discard p
dest_read m (Constant w) p n a h s = absurd cc
dest_read m (Address w) p n a h s = rw (stand_read (size w) m p n (some_bytes w) h s) refl
dest_read m Stack p n a h s = here dest.Push p
dest_read m (Local w) p n a h s = rw (stand_read (size w) m p n (some_bytes w) h s) refl
dest_read m (Ram w) p n a h s = rw (stand_read (size w) m p n (some_bytes w) h s) refl

-- the number in an operand's bytes
record InBytes (m : MemoryMap) (mode : Mode) (p : ℕ) : Type 0 where
  number : ℕ
  fits : number < 256 ^ mode_size mode
  bytes : Stand m p (big_bytes (mode_size mode) number)

found : (m : MemoryMap) (w : Width) (p : ℕ) {A : Type 0} (f : ℕ → Result A OpFault) (x : A)
    → Bytes m → (instruction_read (read (size w) m p) >>= f) ≡ Ok x
    → (n : ℕ) × Number w m p n
found m w p f x z e =
    let r = bound (instruction_read (read (size w) m p)) f x e in
    (r.0, read_stands w m p r.0 z (was_read (read (size w) m p) r.0 r.1))

load_stands : (m : MemoryMap) (mode : Mode) (p : ℕ) (x : l.Load × ℕ) → Bytes m
    → load_at m mode p ≡ Ok x → InBytes m mode p
unfolding load_at
load_stands m Zero p x z e = record { number = 0; fits = omega arith; bytes = refl }
load_stands m (Constant w) p x z e = let r =
    found m w p _ x z e in record { number = r.0; fits = r.1.fits; bytes = r.1.bytes }
load_stands m (Address w) p x z e = let r =
    found m w p _ x z e in record { number = r.0; fits = r.1.fits; bytes = r.1.bytes }
load_stands m Stack p x z e = record { number = 0; fits = omega arith; bytes = refl }
load_stands m (Local w) p x z e = let r =
    found m w p _ x z e in record { number = r.0; fits = r.1.fits; bytes = r.1.bytes }
load_stands m (Ram w) p x z e = let r =
    found m w p _ x z e in record { number = r.0; fits = r.1.fits; bytes = r.1.bytes }

dest_stands : (m : MemoryMap) (mode : Mode) (p : ℕ) (x : d.Dest × ℕ) → allows kind.Store mode ≡ true
    → Bytes m → dest_at m mode p ≡ Ok x → InBytes m mode p
unfolding dest_at
dest_stands m Zero p x a z e = record { number = 0; fits = omega arith; bytes = refl }
dest_stands m (Constant w) p x a z e = absurd cc
dest_stands m (Address w) p x a z e = let r =
    found m w p _ x z e in record { number = r.0; fits = r.1.fits; bytes = r.1.bytes }
dest_stands m Stack p x a z e = record { number = 0; fits = omega arith; bytes = refl }
dest_stands m (Local w) p x a z e = let r =
    found m w p _ x z e in record { number = r.0; fits = r.1.fits; bytes = r.1.bytes }
dest_stands m (Ram w) p x a z e = let r =
    found m w p _ x z e in record { number = r.0; fits = r.1.fits; bytes = r.1.bytes }

-- ---- operands one after the other

filled : {A : Type 0} (xs : List A) (n : ℕ) (v x : A) → length xs < n
    → set (xs ++ replicate (n - length xs) v) (length xs) x ≡ (xs ++ x ∷ []) ++ replicate
    (n - length (xs ++ x ∷ [])) v
filled xs n v x h =
    let k : ℕ = n - (length xs + 1) in
    let a : n - length xs ≡ suc (n - (length xs + 1)) = omega (arith, h) in
    let l = length-append xs (x ∷ []) in
    let b : n - (length xs + 1) ≡ n - length (xs ++ x ∷ []) = omega (arith, l) in
    ap (λ (i : ℕ). set (xs ++ replicate i v) (length xs) x) a
    ∙ (set-append_seam xs v (replicate k v) x
    ∙ (sym (append_assoc xs (x ∷ []) (replicate k v))
    ∙ ap (λ (i : ℕ). (xs ++ x ∷ []) ++ replicate i v) b))

one_more : {A : Type 0} (xs : List A) (x : A) → length xs + 1 ≡ length (xs ++ x ∷ [])
one_more xs x = let l = length-append xs (x ∷ []) in omega (arith, l)

-- one more load
pub loaded : (number : ℕ) (ls : List l.Load) (ss : List d.Dest) (p q : ℕ) (x : l.Load)
    → length ls < 8 → with_load (instr number ls ss p) (x, q) ≡ instr number (ls ++ x ∷ []) ss q
loaded number ls ss p q x h =
    ap (λ (c : ℕ). record
    (instr number ls ss q) {
      loads = record {
        count = c;
        items = set (ls ++ replicate (8 - length ls) (load.Value 0))
            (length ls) x;
      };
    }) (one_more ls x)
    ∙ ap (λ (xs : List l.Load). record
    (instr number ls ss q) { loads = record { count = length (ls ++ x ∷ []); items = xs } })
    (filled ls 8 (load.Value 0) x h)

-- one more store
pub stored : (number : ℕ) (ls : List l.Load) (ss : List d.Dest) (p q : ℕ) (x : d.Dest)
    → length ss < 2 → with_store (instr number ls ss p) (x, q) ≡ instr number ls (ss ++ x ∷ []) q
stored number ls ss p q x h =
    ap (λ (c : ℕ). record
    (instr number ls ss q) {
      stores = record {
        count = c;
        items = set (ss ++ replicate (2 - length ss) dest.Discard)
            (length ss) x;
      };
    }) (one_more ss x)
    ∙ ap (λ (xs : List d.Dest). record
    (instr number ls ss q) { stores = record { count = length (ss ++ x ∷ []); items = xs } })
    (filled ss 2 dest.Discard x h)

one_load : (m : MemoryMap) (mode : Mode) (i more : Instr) (x : l.Load × ℕ)
    → load_at m mode i.next ≡ Ok x → with_load i x ≡ more → operand m kind.Load mode i ≡ Ok more
unfolding operand
one_load m mode i more x e f = rw e (ap Ok f)

one_store : (m : MemoryMap) (mode : Mode) (i more : Instr) (x : d.Dest × ℕ)
    → dest_at m mode i.next ≡ Ok x → with_store i x ≡ more → operand m kind.Store mode i ≡ Ok more
unfolding operand
one_store m mode i more x e f = rw e (ap Ok f)

same_instr : {number : ℕ} {ls ls' : List l.Load} {ss ss' : List d.Dest} {p p' : ℕ} → ls ≡ ls'
    → ss ≡ ss' → p ≡ p' → instr number ls ss p ≡ instr number ls' ss' p'
same_instr e f g = rw (e, f, g) refl

further : (p k n : ℕ) (rest : List ℕ) → p + k + length rest ≡ p + length (big_bytes k n ++ rest)
further p k n rest =
    let a = length-append (big_bytes k n) rest in
    let b = length-bytes_high_first k n in
    omega (arith, a, b)

-- the bytes of the first operand, and of those after it
bytes_then : (m : MemoryMap) (p k n : ℕ) (rest : List ℕ) → Stand m p (big_bytes k n ++ rest)
    → Stand m (p + k) rest
bytes_then m p k n rest s =
    subst (λ (i : ℕ). Stand m (p + i) rest) (length-bytes_high_first k n)
    (stand_then m p (big_bytes k n) rest s)

pub operands_read : (m : MemoryMap) (number : ℕ) (os : List Operand) (ls : List l.Load)
    (ss : List d.Dest) (p : ℕ)
    → length ls + loads_in (map operand_kind os) ≤ 8
    → length ss + stores_in (map operand_kind os) ≤ 2
    → All IsOperand os → Stand m p (operand_bytes os)
    → operands m (map operand_kind os) (map mode_in os) (instr number ls ss p)
    ≡ Ok (instr number (ls ++ loads_of m os) (ss ++ stores_of m os) (p + length (operand_bytes os)))
unfolding operands
operands_read m number [] ls ss p a b are s =
    let z : p ≡ p + 0 = omega arith in
    ap Ok (same_instr (sym (append-nil ls)) (sym (append-nil ss)) z)
operands_read m number (Load mode n ∷ os) ls ss p a b are s =
    let k : ℕ = mode_size mode in
    let o = All-head IsOperand (Load mode n) os are in
    let x : l.Load = load_of m mode n in
    let c = length-append ls (x ∷ []) in
    first_operand m kind.Load (map operand_kind os) mode (map mode_in os) (instr number ls ss p)
    (instr number (ls ++ x ∷ []) ss (p + k))
    (one_load m mode (instr number ls ss p) (instr number (ls ++ x ∷ []) ss (p + k)) (x, p + k)
    (load_read m mode p n o.fits (stand_first m p (big_bytes k n) (operand_bytes os) s))
    (loaded number ls ss p (p + k) x (omega (arith, a))))
    ∙ (operands_read m number os (ls ++ x ∷ []) ss (p + k) (omega (arith, a, c)) b
    (All-tail IsOperand (Load mode n) os are) (bytes_then m p k n (operand_bytes os) s)
    ∙ ap Ok (same_instr (append_assoc ls (x ∷ []) (loads_of m os)) refl
    (further p k n (operand_bytes os))))
operands_read m number (Store mode n ∷ os) ls ss p a b are s =
    let k : ℕ = mode_size mode in
    let o = All-head IsOperand (Store mode n) os are in
    let x : d.Dest = dest_of m mode n in
    let c = length-append ss (x ∷ []) in
    first_operand m kind.Store (map operand_kind os) mode (map mode_in os) (instr number ls ss p)
    (instr number ls (ss ++ x ∷ []) (p + k))
    (one_store m mode (instr number ls ss p) (instr number ls (ss ++ x ∷ []) (p + k)) (x, p + k)
    (dest_read m mode p n o.allowed o.fits (stand_first m p (big_bytes k n) (operand_bytes os) s))
    (stored number ls ss p (p + k) x (omega (arith, b))))
    ∙ (operands_read m number os ls (ss ++ x ∷ []) (p + k) a (omega (arith, b, c))
    (All-tail IsOperand (Store mode n) os are) (bytes_then m p k n (operand_bytes os) s)
    ∙ ap Ok (same_instr refl (append_assoc ss (x ∷ []) (stores_of m os))
    (further p k n (operand_bytes os))))

-- operands that were read, of these kinds and modes
pub record Operands (m : MemoryMap) (p : ℕ) (ks : List Kind) (ms : List Mode) : Type 0 where
  pub operands : List Operand
  pub kinds : map operand_kind operands ≡ ks
  pub modes : map mode_in operands ≡ ms
  pub are : All IsOperand operands
  pub bytes : Stand m p (operand_bytes operands)

with_first : (m : MemoryMap) (p : ℕ) (o : Operand) (ks : List Kind) (ms : List Mode) → IsOperand o
    → Stand m p (big_bytes (mode_size (mode_in o)) (number_in o))
    → Operands m (p + mode_size (mode_in o)) ks ms
    → Operands m p (operand_kind o ∷ ks) (mode_in o ∷ ms)
with_first m p o ks ms is s rest = record {
  operands = o ∷ rest.operands;
  kinds = ap (λ (js : List Kind). operand_kind o ∷ js) rest.kinds;
  modes = ap (λ (js : List Mode). mode_in o ∷ js) rest.modes;
  are = All-cons IsOperand o rest.operands is rest.are;
  bytes = stand_both m p (big_bytes (mode_size (mode_in o)) (number_in o))
      (operand_bytes rest.operands) s
      (subst (λ (i : ℕ). Stand m (p + i) (operand_bytes rest.operands))
      (sym (length-bytes_high_first (mode_size (mode_in o)) (number_in o))) rest.bytes);
}

pub operands_stand : (m : MemoryMap) (ks : List Kind) (ms : List Mode) (i j : Instr) → Bytes m
    → Allowed ks ms → operands m ks ms i ≡ Ok j → Operands m i.next ks ms
unfolding operands operand
operands_stand m [] [] i j z a e =
    record { operands = []; kinds = refl; modes = refl; are = All-nil IsOperand; bytes = refl }
operands_stand m [] (b ∷ ms) i j z a e = absurd a
operands_stand m (k ∷ ks) [] i j z a e = absurd a
operands_stand m (kind.Load ∷ ks) (b ∷ ms) i j z a e =
    let r = bound (operand m kind.Load b i) _ j e in
    let x = bound (load_at m b i.next) (λ (y : l.Load × ℕ). Ok (with_load i y)) r.0 r.1 in
    let n : InBytes m b i.next = load_stands m b i.next x.0 z x.1 in
    let there = ok_is (sym x.1 ∙ load_read m b i.next n.number n.fits n.bytes) in
    let next : r.0.next ≡ i.next + mode_size b = ap (λ (y : Instr). y.next) (sym (ok_is x.2))
    ∙ ap (λ (y : l.Load × ℕ). y.1) there in
    with_first m i.next (Load b n.number) ks ms (record { allowed = a.0; fits = n.fits }) n.bytes
    (subst (λ (q : ℕ). Operands m q ks ms) next (operands_stand m ks ms r.0 j z a.1 r.2))
operands_stand m (kind.Store ∷ ks) (b ∷ ms) i j z a e =
    let r = bound (operand m kind.Store b i) _ j e in
    let x = bound (dest_at m b i.next) (λ (y : d.Dest × ℕ). Ok (with_store i y)) r.0 r.1 in
    let n : InBytes m b i.next = dest_stands m b i.next x.0 a.0 z x.1 in
    let there = ok_is (sym x.1 ∙ dest_read m b i.next n.number a.0 n.fits n.bytes) in
    let next : r.0.next ≡ i.next + mode_size b = ap (λ (y : Instr). y.next) (sym (ok_is x.2))
    ∙ ap (λ (y : d.Dest × ℕ). y.1) there in
    with_first m i.next (Store b n.number) ks ms (record { allowed = a.0; fits = n.fits }) n.bytes
    (subst (λ (q : ℕ). Operands m q ks ms) next (operands_stand m ks ms r.0 j z a.1 r.2))

-- What is spelled is decoded, and what is decoded is spelled.
use Rattle.std.proofs.Common.{arith, ◌≡◌, ◌∙◌, refl, sym, ap, subst, ℕ, ◌+◌, ◌/◌, ◌<◌, ◌≤◌, Bool}
use Rattle.std.proofs.Common.{true, false, cond, nat_le, nat_lt, List, [], ◌∷◌, ◌++◌, length, map}
use Rattle.std.proofs.Common.{Option, Some, None, Ok, Err, length-append}
use Rattle.std.specs.Prelude.{IfSome, ◌&&◌}
use Rattle.std.proofs.lemmas.Bool.{leb-true}
use Rattle.std.proofs.lemmas.List.{length-map}
use Rattle.byteorder.specs.Numbers.{length-bytes_high_first}
use Rattle.vm_memory.specs.MemoryMap.{MemoryMap}
use Rattle.vm_operand.specs.Opcode.{kinds_of, loads_in, opcode_number, op_of, stores_in}
use Rattle.vm_operand.specs.Mode.{size}
use Rattle.vm_operand.specs.Instruction.{bare, instruction_at, known}
use Rattle.vm_operand.specs.Instruction.{modes_at, opcode_number_at, operands}
use Rattle.vm_operand.specs.Spelling.{operand_kind, mode_in, HasWidth, Writing, IsWriting}
use Rattle.vm_operand.specs.Spelling.{opcode_bytes, mode_bytes, operand_bytes, bytes_of_writing}
use Rattle.vm_operand.specs.Spelling.{loads_of, stores_of, instr, Stand, SpellsInstruction}
use Rattle.vm_operand.specs.Spelling.{DecodesWhatIsSpelled, SpellsWhatIsDecoded}
use Rattle.vm_operand.specs.declared.opcode.Op.{Op}
use Rattle.vm_operand.specs.declared.opcode.Op.TheVariants as op
use Rattle.vm_operand.specs.declared.opcode.Math.TheVariants.{Add}
use Rattle.vm_operand.specs.declared.opcode.Branch.TheVariants.{Jump}
use Rattle.vm_operand.specs.declared.opcode.Flow.TheVariants.{Call}
use Rattle.vm_operand.specs.declared.opcode.Move.TheVariants.{Copy}
use Rattle.vm_operand.specs.declared.opcode.Array.TheVariants.{Aload}
use Rattle.vm_operand.specs.declared.opcode.Values.TheVariants.{Stkcount}
use Rattle.vm_operand.specs.declared.opcode.Stream.TheVariants.{Streamchar}
use Rattle.vm_operand.specs.declared.opcode.State.TheVariants.{Quit}
use Rattle.vm_operand.specs.declared.opcode.System.TheVariants.{Nop}
use Rattle.vm_operand.specs.declared.opcode.Search.TheVariants.{Linearsearch}
use Rattle.vm_operand.specs.declared.operand.Kind.{Kind}
use Rattle.vm_operand.specs.declared.instruction.Instr.{Instr}
use Rattle.vm_operand.specs.declared.fault.OpFault.{OpFault}
use Rattle.vm_operand.specs.declared.mode.Mode.{Mode}
use Rattle.vm_operand.specs.declared.mode.Width.{Width}
use Rattle.vm_operand.specs.declared.mode.Width.TheVariants.{One, Two, Four}
use Rattle.vm_operand.proofs.OpcodeLemmas.{number_of-op_of, op_of-number_of}
use Rattle.vm_operand.proofs.OpcodeBytesLemmas.{Opcode, bound, ok_is, opcode_read, opcode_stands}
use Rattle.vm_operand.proofs.ModeBytesLemmas.{Modes, modes_read, modes_stand}
use Rattle.vm_operand.proofs.OperandBytesLemmas.{Operands, operands_read, operands_stand}
use Rattle.vm_operand.proofs.StandLemmas.{stand_both, stand_first, stand_then}

-- ---- the table: low numbers, few operands

abbrev Small : Op → Bool
Small o = nat_lt (opcode_number o) 0x200 && nat_le (loads_in (kinds_of o)) 8 && nat_le
    (stores_in (kinds_of o)) 2

small : (o : Op) → Small o ≡ true
small (op.Math Add) = refl
small (op.Math o) = refl
small (op.Branch Jump) = refl
small (op.Branch o) = refl
small (op.Flow Call) = refl
small (op.Flow o) = refl
small (op.Move Copy) = refl
small (op.Move o) = refl
small (op.Array Aload) = refl
small (op.Array o) = refl
small (op.Values Stkcount) = refl
small (op.Values o) = refl
small (op.Stream Streamchar) = refl
small (op.Stream o) = refl
small (op.State Quit) = refl
small (op.State o) = refl
small (op.System Nop) = refl
small (op.System o) = refl
small (op.Search Linearsearch) = refl
small (op.Search o) = refl

pub record IsSmall (o : Op) : Type 0 where
  pub number : opcode_number o < 0x200
  pub loads : loads_in (kinds_of o) ≤ 8
  pub stores : stores_in (kinds_of o) ≤ 2

three : (a b c : Bool) → (a && b && c) ≡ true → (a ≡ true) × (b ≡ true) × (c ≡ true)
three true true true h = (refl, refl, refl)
three true true false h = cc
three true false c h = cc
three false b c h = cc

pub is_small : (o : Op) → IsSmall o
is_small o =
    let t = three (nat_lt (opcode_number o) 0x200) (nat_le (loads_in (kinds_of o)) 8)
    (nat_le (stores_in (kinds_of o)) 2) (small o) in
    record {
      number = leb-true _ _ t.0;
      loads = leb-true _ _ t.1;
      stores = leb-true _ _ t.2;
    }

-- ---- lengths

opcode_len : (w : Width) (n : ℕ) → length (opcode_bytes w n) ≡ size w
opcode_len One n = length-bytes_high_first 1 n
opcode_len Two n = length-bytes_high_first 2 (0x8000 + n)
opcode_len Four n = length-bytes_high_first 4 (0xC0000000 + n)

mode_len : (ms : List Mode) (spare : ℕ) → length (mode_bytes ms spare) ≡ (length ms + 1) / 2
mode_len [] spare = omega arith
mode_len (a ∷ []) spare = omega arith
mode_len (a ∷ b ∷ ms) spare = let e = mode_len ms spare in omega (arith, e)

-- ---- the law

decoded : (m : MemoryMap) (at n p : ℕ) (o : Op) (ms : List Mode) (i : Instr)
    → opcode_number_at m at ≡ Ok (n, p)
    → known n (op_of n) ≡ Ok o
    → modes_at m p (kinds_of o) ≡ Ok ms
    → operands m (kinds_of o) ms (bare n (p + (length (kinds_of o) + 1) / 2)) ≡ Ok i
    → instruction_at m at ≡ Ok i
unfolding instruction_at
decoded m at n p o ms i e f g h = rw e (rw f (rw g h))

pub decodes_what_is_spelled : DecodesWhatIsSpelled
decodes_what_is_spelled m at i s =
    let w : Writing = s.writing in
    let n : ℕ = opcode_number w.op in
    let p : ℕ = at + size w.width in
    let ms : List Mode = map mode_in w.operands in
    let front : List ℕ = opcode_bytes w.width n in
    let middle : List ℕ = mode_bytes ms w.spare in
    let rest : List ℕ = operand_bytes w.operands in
    let few : IsSmall w.op = is_small w.op in
    let loads = few.loads in
    let stores = few.stores in
    let a = opcode_len w.width n in
    let b = mode_len ms w.spare in
    let c = ap length s.is.kinds in
    let d = length-map w.operands operand_kind in
    let e = length-map w.operands mode_in in
    let whole = length-append front (middle ++ rest) in
    let half = length-append middle rest in
    let q : ℕ = p + (length (kinds_of w.op) + 1) / 2 in
    let behind : Stand m p (middle ++ rest) =
    subst (λ (k : ℕ). Stand m (at + k) (middle ++ rest)) a
    (stand_then m at front (middle ++ rest) s.bytes) in
    let place : p + length middle ≡ q = omega (arith, b, c, d, e) in
    let last : Stand m q rest =
    subst (λ (k : ℕ). Stand m k rest) place (stand_then m p middle rest behind) in
    let next : q + length rest ≡ at + length (bytes_of_writing w) =
    omega (arith, place, whole, half, a) in
    decoded m at n p w.op ms i
    (opcode_read m at n w.width s.is.width (stand_first m at front (middle ++ rest) s.bytes))
    (ap (known n) (op_of-number_of w.op))
    (subst (λ (ks : List Kind). modes_at m p ks ≡ Ok ms) s.is.kinds
    (modes_read m p w.operands w.spare s.is.spare s.is.operands
    (stand_first m p middle rest behind)))
    (subst (λ (ks : List Kind). operands m ks ms (bare n q) ≡ Ok
    (instr n (loads_of m w.operands) (stores_of m w.operands) (q + length rest))) s.is.kinds
    (operands_read m n w.operands [] [] q
    (subst (λ (ks : List Kind). 0 + loads_in ks ≤ 8) (sym s.is.kinds) (omega (arith, loads)))
    (subst (λ (ks : List Kind). 0 + stores_in ks ≤ 2) (sym s.is.kinds) (omega (arith, stores)))
    s.is.operands last)
    ∙ ap Ok (ap (instr n (loads_of m w.operands) (stores_of m w.operands)) next ∙ sym s.reads))

was_known : (n : ℕ) (o : Option Op) (x : Op)
    → IfSome o (λ y. opcode_number y ≡ n) → known n o ≡ Ok x
    → (o ≡ Some x) × (opcode_number x ≡ n)
was_known n (Some y) x h e =
    subst (λ (z : Op). (Some y ≡ Some z) × (opcode_number z ≡ n)) (ok_is e) (refl, h)
was_known n None x h e = absurd (unknown _ _ (nat_le 0x190 n && nat_lt n 0x300) e)
  where
    unknown : (f g : OpFault) (b : Bool) → cond b (Err f) (Err g) ≡ Ok x → ⊥
    unknown f g true k = cc
    unknown f g false k = cc

has_width : (w : Width) (n : ℕ) → (w ≡ One → n < 0x80) → n < 0x200 → HasWidth w n
has_width One n low h = low refl
has_width Two n low h = omega (arith, h)
has_width Four n low h = omega (arith, h)

spelled_so : (m : MemoryMap) (at n p : ℕ) (o : Op) (ms : List Mode) (i : Instr) → Opcode m at (n, p)
    → opcode_number o ≡ n → Modes m p (kinds_of o) ms
    → Operands m (p + (length (kinds_of o) + 1) / 2) (kinds_of o) ms → instruction_at m at ≡ Ok i
    → SpellsInstruction m at i
spelled_so m at n p o ms i c same f g e =
    let w : Writing = record { op = o; width = c.width; operands = g.operands; spare = f.spare } in
    let is : IsWriting w = record {
      width = has_width c.width (opcode_number o)
          (λ one. subst (λ (k : ℕ). k < 0x80) (sym same) (c.low one)) (is_small o).number;
      kinds = g.kinds;
      operands = g.are;
      spare = f.low;
    } in
    let front : List ℕ = opcode_bytes c.width (opcode_number o) in
    let middle : List ℕ = mode_bytes (map mode_in g.operands) f.spare in
    let rest : List ℕ = operand_bytes g.operands in
    let a = opcode_len c.width (opcode_number o) in
    let b = mode_len (map mode_in g.operands) f.spare in
    let k = ap length g.kinds in
    let x = length-map g.operands operand_kind in
    let y = length-map g.operands mode_in in
    let next = c.next in
    let second : p ≡ at + length front = omega (arith, a, next) in
    let third : p + (length (kinds_of o) + 1) / 2 ≡ p + length middle = omega (arith, b, k, x, y) in
    let bytes : Stand m at (bytes_of_writing w) =
    stand_both m at front (middle ++ rest)
    (subst (λ (j : ℕ). Stand m at (opcode_bytes c.width j)) (sym same) c.bytes)
    (subst (λ (j : ℕ). Stand m j (middle ++ rest)) second
    (stand_both m p middle rest
    (subst (λ (js : List Mode). Stand m p (mode_bytes js f.spare)) (sym g.modes) f.bytes)
    (subst (λ (j : ℕ). Stand m j rest) third g.bytes))) in
    let j : Instr = instr (opcode_number o) (loads_of m g.operands) (stores_of m g.operands)
    (at + length (bytes_of_writing w)) in
    record {
      writing = w;
      is = is;
      bytes = bytes;
      reads = ok_is (sym e
          ∙ decodes_what_is_spelled m at j
          (record { writing = w; is = is; bytes = bytes; reads = refl }));
    }

pub spells_what_is_decoded : SpellsWhatIsDecoded
unfolding instruction_at
spells_what_is_decoded m at i z e =
    let x = bound (opcode_number_at m at) _ i e in
    let k = bound (known x.0.0 (op_of x.0.0)) _ i x.2 in
    let v = bound (modes_at m x.0.1 (kinds_of k.0)) _ i k.2 in
    let w = was_known x.0.0 (op_of x.0.0) k.0 (number_of-op_of x.0.0) k.1 in
    let f : Modes m x.0.1 (kinds_of k.0) v.0 = modes_stand m x.0.1 (kinds_of k.0) v.0 z v.1 in
    spelled_so m at x.0.0 x.0.1 k.0 v.0 i (opcode_stands m at x.0 z x.1) w.1 f
    (operands_stand m (kinds_of k.0) v.0
    (bare x.0.0 (x.0.1 + (length (kinds_of k.0) + 1) / 2)) i z f.allowed v.2) e

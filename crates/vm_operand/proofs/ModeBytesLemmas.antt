-- The bytes of modes, and what is read there.
use Rattle.std.proofs.Common.{arith, ◌≡◌, ◌∙◌, refl, ap, subst, ℕ, ◌+◌, ◌*◌, ◌/◌}
use Rattle.std.proofs.Common.{◌%◌, ◌<◌, Bool, true, false, cond, List, [], ◌∷◌}
use Rattle.std.proofs.Common.{map, Option, Some, None, Result, Ok, Err}
use Rattle.std.specs.Prelude.{IfSome}
use Rattle.std.proofs.lemmas.List.Elements.{All-head, All-tail}
use Rattle.std.specs.List.{All}
use Rattle.vm_memory.specs.MemoryMap.{MemoryMap}
use Rattle.vm_memory.specs.Access.{read}
use Rattle.vm_operand.specs.Opcode.{first_with}
use Rattle.vm_operand.specs.Mode.{allowed, allows, mode_number, mode_of, modes}
use Rattle.vm_operand.specs.Reading.{instruction_read}
use Rattle.vm_operand.specs.Instruction.{modes_at}
use Rattle.vm_operand.specs.Spelling.{Operand, operand_kind, mode_in, IsOperand, mode_bytes, Stand}
use Rattle.vm_operand.specs.declared.operand.Kind.{Kind}
use Rattle.vm_operand.specs.declared.fault.OpFault.{OpFault}
use Rattle.vm_operand.specs.declared.fault.OpFault.TheVariants.{BadMode}
use Rattle.vm_operand.specs.declared.mode.Mode.{Mode}
use Rattle.vm_operand.specs.declared.mode.Mode.TheVariants.{Zero, Constant, Address, Stack, Local}
use Rattle.vm_operand.specs.declared.mode.Mode.TheVariants.{Ram}
use Rattle.vm_operand.specs.declared.mode.Width.TheVariants.{One, Two, Four}
use Rattle.vm_operand.proofs.InstructionLemmas.{after, last_mode, two_modes}
use Rattle.vm_operand.proofs.OpcodeLemmas.{first_with-number}
use Rattle.vm_operand.proofs.OpcodeBytesLemmas.{Bytes, bound, byte_read, byte_stands, ok_is}
use Rattle.vm_operand.proofs.OpcodeBytesLemmas.{was_read}
use Rattle.vm_operand.proofs.StandLemmas.{stand_both, stand_first, stand_then}

mode_found : (a : Mode) → first_with mode_number modes (mode_number a) ≡ Some a
unfolding modes
mode_found Zero = refl
mode_found (Constant One) = refl
mode_found (Constant w) = refl
mode_found (Address One) = refl
mode_found (Address w) = refl
mode_found Stack = refl
mode_found (Local One) = refl
mode_found (Local w) = refl
mode_found (Ram One) = refl
mode_found (Ram w) = refl

mode_low : (a : Mode) → mode_number a < 16
mode_low Zero = omega arith
mode_low (Constant One) = omega arith
mode_low (Constant Two) = omega arith
mode_low (Constant Four) = omega arith
mode_low (Address One) = omega arith
mode_low (Address Two) = omega arith
mode_low (Address Four) = omega arith
mode_low Stack = omega arith
mode_low (Local One) = omega arith
mode_low (Local Two) = omega arith
mode_low (Local Four) = omega arith
mode_low (Ram One) = omega arith
mode_low (Ram Two) = omega arith
mode_low (Ram Four) = omega arith

mode_is : (k : Kind) (a : Mode) (n : ℕ) → n ≡ mode_number a → allows k a ≡ true → mode_of k n ≡ Ok a
unfolding mode_of
mode_is k a n e h = rw e (rw (mode_found a) (rw h refl))

allowed_in : (k : Kind) (n : ℕ) (o : Option Mode) (a : Mode) → IfSome o (λ x. mode_number x ≡ n)
    → allowed k n o ≡ Ok a → (mode_number a ≡ n) × (allows k a ≡ true)
allowed_in k n None a h e = absurd cc
allowed_in k n (Some b) a h e = chosen (allows k b) refl e
  where
    chosen : (t : Bool) → allows k b ≡ t
        → ◌≡◌ {A = Result Mode OpFault} (cond t (Ok b) (Err (BadMode n))) (Ok a)
        → (mode_number a ≡ n) × (allows k a ≡ true)
    chosen true t f = subst (λ (x : Mode). (mode_number x ≡ n) × (allows k x ≡ true)) (ok_is f)
        (h, t)
    chosen false t f = absurd cc

mode_was : (k : Kind) (n : ℕ) (a : Mode) → mode_of k n ≡ Ok a
    → (mode_number a ≡ n) × (allows k a ≡ true)
unfolding mode_of
mode_was k n a e = allowed_in k n (first_with mode_number modes n) a
    (first_with-number mode_number modes n) e

pub modes_read : (m : MemoryMap) (p : ℕ) (os : List Operand) (spare : ℕ) → spare < 16
    → All IsOperand os → Stand m p (mode_bytes (map mode_in os) spare)
    → modes_at m p (map operand_kind os) ≡ Ok (map mode_in os)
unfolding modes_at
modes_read m p [] spare low are s = refl
modes_read m p (o ∷ []) spare low are s =
    let n = mode_low (mode_in o) in
    let byte : ℕ = mode_number (mode_in o) + 16 * spare in
    last_mode m p byte (operand_kind o) (mode_in o) (byte_read m p byte (omega (arith, n, low)) s)
    (mode_is (operand_kind o) (mode_in o) (byte % 16) (omega (arith, n, low))
    (All-head IsOperand o [] are).allowed)
modes_read m p (o ∷ q ∷ os) spare low are s =
    let n = mode_low (mode_in o) in
    let k = mode_low (mode_in q) in
    let byte : ℕ = mode_number (mode_in o) + 16 * mode_number (mode_in q) in
    let rest : List ℕ = mode_bytes (map mode_in os) spare in
    let others : All IsOperand (q ∷ os) = All-tail IsOperand o (q ∷ os) are in
    two_modes m p byte (operand_kind o) (operand_kind q) (map operand_kind os)
    (mode_in o) (mode_in q)
    (byte_read m p byte (omega (arith, n, k)) (stand_first m p (byte ∷ []) rest s))
    (mode_is (operand_kind o) (mode_in o) (byte % 16) (omega (arith, n, k))
    (All-head IsOperand o (q ∷ os) are).allowed)
    (mode_is (operand_kind q) (mode_in q) (byte / 16) (omega (arith, n, k))
    (All-head IsOperand q os others).allowed)
    ∙ ap (after (mode_in o ∷ mode_in q ∷ []))
    (modes_read m (p + 1) os spare low (All-tail IsOperand q os others)
    (stand_then m p (byte ∷ []) rest s))

-- each operand may have its mode
abbrev pub Allowed : List Kind → List Mode → Type 0
Allowed [] [] = Unit {0}
Allowed [] (a ∷ ms) = ⊥
Allowed (k ∷ ks) [] = ⊥
Allowed (k ∷ ks) (a ∷ ms) = (allows k a ≡ true) × Allowed ks ms

pub record Modes (m : MemoryMap) (p : ℕ) (ks : List Kind) (ms : List Mode) : Type 0 where
  pub spare : ℕ
  pub low : spare < 16
  pub bytes : Stand m p (mode_bytes ms spare)
  pub allowed : Allowed ks ms

pub modes_stand : (m : MemoryMap) (p : ℕ) (ks : List Kind) (ms : List Mode) → Bytes m
    → modes_at m p ks ≡ Ok ms → Modes m p ks ms
unfolding modes_at
modes_stand m p [] ms z e =
    subst (Modes m p []) (ok_is e)
    (record { spare = 0; low = omega arith; bytes = refl; allowed = tt })
modes_stand m p (k ∷ []) ms z e =
    let r = bound (instruction_read (read 1 m p)) _ ms e in
    let s = byte_stands m p r.0 z (was_read (read 1 m p) r.0 r.1) in
    let a = bound (mode_of k (r.0 % 16)) _ ms r.2 in
    let w = mode_was k (r.0 % 16) a.0 a.1 in
    let whole : r.0 ≡ mode_number a.0 + 16 * (r.0 / 16) = omega (arith, w.0) in
    subst (Modes m p (k ∷ [])) (ok_is a.2) (record {
      spare = r.0 / 16;
      low = omega (arith, s.1);
      bytes = subst (λ (x : ℕ). Stand m p (x ∷ [])) whole s.0;
      allowed = (w.1, tt);
    })
modes_stand m p (k ∷ j ∷ ks) ms z e =
    let r = bound (instruction_read (read 1 m p)) _ ms e in
    let s = byte_stands m p r.0 z (was_read (read 1 m p) r.0 r.1) in
    let a = bound (mode_of k (r.0 % 16)) _ ms r.2 in
    let b = bound (mode_of j (r.0 / 16)) _ ms a.2 in
    let c = bound (modes_at m (p + 1) ks) _ ms b.2 in
    let w = mode_was k (r.0 % 16) a.0 a.1 in
    let x = mode_was j (r.0 / 16) b.0 b.1 in
    let whole : r.0 ≡ mode_number a.0 + 16 * mode_number b.0 = omega (arith, w.0, x.0) in
    let rest : Modes m (p + 1) ks c.0 = modes_stand m (p + 1) ks c.0 z c.1 in
    subst (Modes m p (k ∷ j ∷ ks)) (ok_is c.2) (record {
      spare = rest.spare;
      low = rest.low;
      bytes = stand_both m p ((mode_number a.0 + 16 * mode_number b.0) ∷ [])
          (mode_bytes c.0 rest.spare)
          (subst (λ (x : ℕ). Stand m p (x ∷ [])) whole s.0) rest.bytes;
      allowed = (w.1, (x.1, rest.allowed));
    })

-- The bytes of an opcode, and what is read there.
use Rattle.std.proofs.Common.{arith, ◌≡◌, ◌∙◌, refl, sym, ap, subst, ℕ, ◌+◌, ◌-◌, ◌*◌, ◌/◌, ◌%◌}
use Rattle.std.proofs.Common.{◌^◌, ◌<◌, ◌≤◌, Bool, true, false, nat_lt, [], ◌∷◌, Result, Ok, Err}
use Rattle.std.specs.List.{All}
use Rattle.std.proofs.lemmas.Bool.{le-ltb, lt-ltb}
use Rattle.byteorder.specs.Endian.{big_bytes}
use Rattle.vm_memory.specs.Chaining.{◌>>=◌}
use Rattle.vm_memory.specs.MemoryMap.{MemoryMap}
use Rattle.vm_memory.specs.Access.{read}
use Rattle.vm_memory.specs.declared.fault.MemFault.{MemFault}
use Rattle.vm_operand.specs.Mode.{size}
use Rattle.vm_operand.specs.Reading.{instruction_read}
use Rattle.vm_operand.specs.Instruction.{opcode_number_at}
use Rattle.vm_operand.specs.Spelling.{HasWidth, opcode_bytes, Stand}
use Rattle.vm_operand.specs.declared.fault.OpFault.{OpFault}
use Rattle.vm_operand.specs.declared.fault.OpFault.TheVariants.{Read}
use Rattle.vm_operand.specs.declared.mode.Width.{Width}
use Rattle.vm_operand.specs.declared.mode.Width.TheVariants.{One, Two, Four}
use Rattle.vm_operand.proofs.StandLemmas.{Number, read_stands, stand_both, stand_first, stand_read}
use Rattle.vm_operand.proofs.StandLemmas.{stand_then}

-- ---- steps that went well

pub ok_is : {A E : Type 0} {x y : A} → ◌≡◌ {A = Result A E} (Ok x) (Ok y) → x ≡ y
ok_is h = cc

pub bound : {A B E : Type 0} (r : Result A E) (f : A → Result B E) (y : B) → (r >>= f) ≡ Ok y
    → (x : A) × (r ≡ Ok x) × (f x ≡ Ok y)
bound (Ok x) f y h = (x, refl, h)
bound (Err e) f y h = absurd cc

pub was_read : {A : Type 0} (r : Result A MemFault) (x : A) → instruction_read r ≡ Ok x → r ≡ Ok x
was_read (Ok y) x h = cc
was_read (Err f) x h = absurd cc

-- ---- a byte

abbrev pub Bytes : MemoryMap → Type 0
Bytes m = All (λ byte. byte < 256) m.bytes

byte_is : (x : ℕ) → x < 256 → x ∷ [] ≡ big_bytes 1 x
byte_is x h = let e : x ≡ x % 256 = omega (arith, h) in ap (λ (y : ℕ). y ∷ []) e

pub byte_read : (m : MemoryMap) (at x : ℕ) → x < 256 → Stand m at (x ∷ []) → read 1 m at ≡ Ok x
byte_read m at x h s =
    stand_read 1 m at x (omega arith) (omega (arith, h)) (subst (Stand m at) (byte_is x h) s)

pub byte_stands : (m : MemoryMap) (at x : ℕ) → Bytes m → read 1 m at ≡ Ok x
    → Stand m at (x ∷ []) × (x < 256)
byte_stands m at x b e =
    let n : Number One m at x = read_stands One m at x b e in
    let f : x < 256 = n.fits in
    (subst (Stand m at) (sym (byte_is x f)) n.bytes, f)

-- ---- opcodes

in_one : (m : MemoryMap) (at a : ℕ) → read 1 m at ≡ Ok a → a < 0x80
    → opcode_number_at m at ≡ Ok (a, at + 1)
unfolding opcode_number_at
in_one m at a e h = rw e (rw (lt-ltb a 0x80 h) refl)

in_two : (m : MemoryMap) (at a b : ℕ) → read 1 m at ≡ Ok a → read 1 m (at + 1) ≡ Ok b → 0x80 ≤ a
    → a < 0xC0
    → opcode_number_at m at ≡ Ok ((a - 0x80) * 2 ^ 8 + b, at + 2)
unfolding opcode_number_at
in_two m at a b e f g h = rw e (rw (le-ltb a 0x80 g) (rw (lt-ltb a 0xC0 h) (rw f refl)))

in_four : (m : MemoryMap) (at a b c : ℕ) → read 1 m at ≡ Ok a → read 1 m (at + 1) ≡ Ok b
    → read 2 m (at + 2) ≡ Ok c → 0xC0 ≤ a
    → opcode_number_at m at ≡ Ok ((a - 0xC0) * 2 ^ 24 + b * 2 ^ 16 + c, at + 4)
unfolding opcode_number_at
in_four m at a b c e f g h =
    let k : 0x80 ≤ a = omega (arith, h) in
    rw e (rw (le-ltb a 0x80 k) (rw (le-ltb a 0xC0 h) (rw f (rw g refl))))

no_first : (m : MemoryMap) (at : ℕ) (f : MemFault) → read 1 m at ≡ Err f
    → opcode_number_at m at ≡ Err (Read f)
unfolding opcode_number_at
no_first m at f e = rw e refl

no_second : (m : MemoryMap) (at a : ℕ) (f : MemFault) (b : Bool) → read 1 m at ≡ Ok a
    → read 1 m (at + 1) ≡ Err f → 0x80 ≤ a → nat_lt a 0xC0 ≡ b
    → opcode_number_at m at ≡ Err (Read f)
unfolding opcode_number_at
no_second m at a f true e g h t = rw e (rw (le-ltb a 0x80 h) (rw t (rw g refl)))
no_second m at a f false e g h t = rw e (rw (le-ltb a 0x80 h) (rw t (rw g refl)))

no_third : (m : MemoryMap) (at a b : ℕ) (f : MemFault) → read 1 m at ≡ Ok a
    → read 1 m (at + 1) ≡ Ok b → read 2 m (at + 2) ≡ Err f → 0xC0 ≤ a
    → opcode_number_at m at ≡ Err (Read f)
unfolding opcode_number_at
no_third m at a b f e g k h =
    let l : 0x80 ≤ a = omega (arith, h) in
    rw e (rw (le-ltb a 0x80 l) (rw (le-ltb a 0xC0 h) (rw g (rw k refl))))

numbered : (n k p : ℕ) → n ≡ k → ◌≡◌ {A = Result (ℕ × ℕ) OpFault} (Ok (n, p)) (Ok (k, p))
numbered n k p e = rw e refl

pub opcode_read : (m : MemoryMap) (at n : ℕ) (w : Width) → HasWidth w n
    → Stand m at (opcode_bytes w n) → opcode_number_at m at ≡ Ok (n, at + size w)
opcode_read m at n One h s =
    in_one m at n (stand_read 1 m at n (omega arith) (omega (arith, h)) s) h
opcode_read m at n Two h s =
    let a : ℕ = (0x8000 + n) / 256 % 256 in
    let b : ℕ = (0x8000 + n) % 256 in
    in_two m at a b
    (byte_read m at a (omega arith) (stand_first m at (a ∷ []) (b ∷ []) s))
    (byte_read m (at + 1) b (omega arith) (stand_then m at (a ∷ []) (b ∷ []) s))
    (omega (arith, h)) (omega (arith, h))
    ∙ numbered ((a - 0x80) * 256 + b) n (at + 2) (omega (arith, h))
opcode_read m at n Four h s =
    let a : ℕ = (0xC0000000 + n) / 16777216 % 256 in
    let b : ℕ = (0xC0000000 + n) / 65536 % 256 in
    let c : ℕ = (0xC0000000 + n) / 256 % 256 in
    let d : ℕ = (0xC0000000 + n) % 256 in
    let t : Stand m (at + 1) (b ∷ c ∷ d ∷ []) = stand_then m at (a ∷ []) (b ∷ c ∷ d ∷ []) s in
    let u : Stand m (at + 1 + 1) (c ∷ d ∷ []) = stand_then m (at + 1) (b ∷ []) (c ∷ d ∷ []) t in
    let two : at + 1 + 1 ≡ at + 2 = omega arith in
    let e : c ≡ n % 65536 / 256 % 256 = omega (arith, h) in
    let f : d ≡ n % 65536 % 256 = omega (arith, h) in
    in_four m at a b (n % 65536)
    (byte_read m at a (omega arith) (stand_first m at (a ∷ []) (b ∷ c ∷ d ∷ []) s))
    (byte_read m (at + 1) b (omega arith) (stand_first m (at + 1) (b ∷ []) (c ∷ d ∷ []) t))
    (stand_read 2 m (at + 2) (n % 65536) (omega arith) (omega arith)
    (subst (λ (p : ℕ). Stand m p (big_bytes 2 (n % 65536))) two
    (subst (Stand m (at + 1 + 1)) (pair_is e f) u)))
    (omega (arith, h))
    ∙ numbered ((a - 0xC0) * 16777216 + b * 65536 + n % 65536) n (at + 4) (omega (arith, h))
  where
    pair_is : {a b c d : ℕ} → a ≡ b → c ≡ d → a ∷ c ∷ [] ≡ b ∷ d ∷ []
    pair_is e f = rw (e, f) refl

-- an opcode that was read, in so many bytes
pub record Opcode (m : MemoryMap) (at : ℕ) (x : ℕ × ℕ) : Type 0 where
  pub width : Width
  pub low : width ≡ One → x.0 < 0x80
  pub bytes : Stand m at (opcode_bytes width x.0)
  pub next : x.1 ≡ at + size width

from_one : (m : MemoryMap) (at a : ℕ) → Bytes m → read 1 m at ≡ Ok a → a < 0x80
    → Opcode m at (a, at + 1)
from_one m at a z e h = let n : Number One m at a =
    read_stands One m at a z e in record { width = One; low = λ _. h; bytes = n.bytes; next = refl }

from_two : (m : MemoryMap) (at a b : ℕ) → Bytes m → read 1 m at ≡ Ok a → read 1 m (at + 1) ≡ Ok b
    → 0x80 ≤ a → a < 0xC0
    → Opcode m at ((a - 0x80) * 2 ^ 8 + b, at + 2)
from_two m at a b z e f g h =
    let s = byte_stands m at a z e in
    let t = byte_stands m (at + 1) b z f in
    let n : ℕ = (a - 0x80) * 256 + b in
    let i : a ≡ (0x8000 + ((a - 0x80) * 256 + b)) / 256 % 256 = omega (arith, g, h, t.1) in
    let j : b ≡ (0x8000 + ((a - 0x80) * 256 + b)) % 256 = omega (arith, g, h, t.1) in
    record {
      width = Two;
      low = λ e. cc;
      bytes = subst (Stand m at) (pair_is i j)
          (stand_both m at (a ∷ []) (b ∷ []) s.0 t.0);
      next = refl;
    }
  where
    pair_is : {a b c d : ℕ} → a ≡ b → c ≡ d → a ∷ c ∷ [] ≡ b ∷ d ∷ []
    pair_is e f = rw (e, f) refl

from_four : (m : MemoryMap) (at a b c : ℕ) → Bytes m → read 1 m at ≡ Ok a → read 1 m (at + 1) ≡ Ok b
    → read 2 m (at + 2) ≡ Ok c → 0xC0 ≤ a
    → Opcode m at ((a - 0xC0) * 2 ^ 24 + b * 2 ^ 16 + c, at + 4)
from_four m at a b c z e f g h =
    let s = byte_stands m at a z e in
    let t = byte_stands m (at + 1) b z f in
    let n : Number Two m (at + 2) c = read_stands Two m (at + 2) c z g in
    let k : c < 65536 = n.fits in
    let i : a ≡ (0xC0000000 + ((a - 0xC0) * 16777216 + b * 65536 + c)) / 16777216 % 256 =
    omega (arith, h, k, s.1, t.1) in
    let j : b ≡ (0xC0000000 + ((a - 0xC0) * 16777216 + b * 65536 + c)) / 65536 % 256 =
    omega (arith, h, k, s.1, t.1) in
    let u : c / 256 % 256 ≡ (0xC0000000 + ((a - 0xC0) * 16777216 + b * 65536 + c)) / 256 % 256 =
    omega (arith, h, k, s.1, t.1) in
    let v : c % 256 ≡ (0xC0000000 + ((a - 0xC0) * 16777216 + b * 65536 + c)) % 256 =
    omega (arith, h, k, s.1, t.1) in
    let two : at + 2 ≡ at + 1 + 1 = omega arith in
    record {
      width = Four;
      low = λ e. cc;
      bytes = subst (Stand m at) (four_are i j u v)
          (stand_both m at (a ∷ []) (b ∷ big_bytes 2 c) s.0
          (stand_both m (at + 1) (b ∷ []) (big_bytes 2 c) t.0
          (subst (λ (p : ℕ). Stand m p (big_bytes 2 c)) two n.bytes)));
      next = refl;
    }
  where
    four_are : {a b c d e f g h : ℕ} → a ≡ b → c ≡ d → e ≡ f → g ≡ h
        → a ∷ c ∷ e ∷ g ∷ [] ≡ b ∷ d ∷ f ∷ h ∷ []
    four_are i j k l = rw (i, j, k, l) refl

pub opcode_stands : (m : MemoryMap) (at : ℕ) (x : ℕ × ℕ) → Bytes m → opcode_number_at m at ≡ Ok x
    → Opcode m at x
opcode_stands m at x z h = first (read 1 m at) refl
  where
    is : {y : ℕ × ℕ} → Opcode m at y → opcode_number_at m at ≡ Ok y → Opcode m at x
    is o e = subst (Opcode m at) (ok_is (sym e ∙ h)) o

    gone : {f : OpFault} → opcode_number_at m at ≡ Err f → Opcode m at x
    gone e = absurd (clash (opcode_number_at m at) e h)
      where
        clash : {f : OpFault} (r : Result (ℕ × ℕ) OpFault) → r ≡ Err f → r ≡ Ok x → ⊥
        clash r e f = cc

    last : (a b : ℕ) (r : Result ℕ MemFault) → read 1 m at ≡ Ok a → read 1 m (at + 1) ≡ Ok b
        → read 2 m (at + 2) ≡ r → 0xC0 ≤ a → Opcode m at x
    last a b (Ok c) e f g l = is (from_four m at a b c z e f g l) (in_four m at a b c e f g l)
    last a b (Err g) e f k l = gone (no_third m at a b g e f k l)

    second : (a : ℕ) (r : Result ℕ MemFault) (b : Bool) → read 1 m at ≡ Ok a → read 1 m (at + 1) ≡ r
        → 0x80 ≤ a → nat_lt a 0xC0 ≡ b → Opcode m at x
    second a (Ok b) true e f l t =
        is (from_two m at a b z e f l (grind (arith, t))) (in_two m at a b e f l (grind (arith, t)))
    second a (Ok b) false e f l t = last a b (read 2 m (at + 2)) e f refl (grind (arith, t))
    second a (Err g) b e f l t = gone (no_second m at a g b e f l t)

    high : (a : ℕ) (b : Bool) → read 1 m at ≡ Ok a → nat_lt a 0x80 ≡ b → Opcode m at x
    high a true e t = is (from_one m at a z e (grind (arith, t)))
        (in_one m at a e (grind (arith, t)))
    high a false e t = second a (read 1 m (at + 1)) (nat_lt a 0xC0) e refl (grind (arith, t)) refl

    first : (r : Result ℕ MemFault) → read 1 m at ≡ r → Opcode m at x
    first (Ok a) e = high a (nat_lt a 0x80) e refl
    first (Err f) e = gone (no_first m at f e)

-- Bytes that stand in memory, and the numbers that are read there.
use Rattle.std.proofs.Common.{arith, ◌≡◌, ◌∙◌, refl, sym, ap, subst, ℕ, ◌+◌, ◌*◌, ◌/◌, ◌%◌, ◌^◌}
use Rattle.std.proofs.Common.{◌<◌, ◌≤◌, Bool, true, false, cond, nat_le, List, [], ◌∷◌, ◌++◌}
use Rattle.std.proofs.Common.{length, take, drop, Ok, Err, append_assoc, length-append}
use Rattle.std.proofs.lemmas.List.{take-append-drop, drop-drop, length-drop}
use Rattle.std.proofs.lemmas.List.Elements.{All-head, All-tail, All-drop}
use Rattle.std.proofs.Math.Seq.{take-add, take-append_seam, drop-append_seam}
use Rattle.std.proofs.lemmas.Bool.{leb-true, le-leb}
use Rattle.std.specs.List.{All}
use Rattle.byteorder.specs.Endian.{big_bytes, big_number}
use Rattle.byteorder.specs.Numbers.{big_number-reads_back, length-bytes_high_first}
use Rattle.vm_memory.specs.MemoryMap.{MemoryMap, number_at}
use Rattle.vm_memory.specs.Access.{read}
use Rattle.vm_memory.specs.declared.fault.MemFault.{MemFault}
use Rattle.vm_memory.specs.declared.fault.MemFault.TheVariants.{BadRead}
use Rattle.vm_operand.specs.Mode.{size}
use Rattle.vm_operand.specs.Spelling.{Stand}
use Rattle.vm_operand.specs.declared.mode.Width.{Width}
use Rattle.vm_operand.specs.declared.mode.Width.TheVariants.{One, Two, Four}

rest_of : MemoryMap → ℕ → List ℕ → List ℕ
rest_of m at xs = drop (length xs) (drop at m.bytes)

from_there : (m : MemoryMap) (at : ℕ) (xs : List ℕ) → Stand m at xs
    → drop at m.bytes ≡ xs ++ rest_of m at xs
unfolding rest_of
from_there m at xs h = sym (take-append-drop (length xs) (drop at m.bytes))
    ∙ ap (λ (ys : List ℕ). ys ++ drop (length xs) (drop at m.bytes)) h

-- the one list and then the other
pub stand_first : (m : MemoryMap) (at : ℕ) (xs ys : List ℕ) → Stand m at (xs ++ ys) → Stand m at xs
stand_first m at xs ys h =
    ap (take (length xs))
    (from_there m at (xs ++ ys) h ∙ append_assoc xs ys (rest_of m at (xs ++ ys)))
    ∙ take-append_seam xs (ys ++ rest_of m at (xs ++ ys))

pub stand_then : (m : MemoryMap) (at : ℕ) (xs ys : List ℕ) → Stand m at (xs ++ ys)
    → Stand m (at + length xs) ys
stand_then m at xs ys h =
    ap (take (length ys))
    (sym (drop-drop (length xs) at m.bytes)
    ∙ (ap (drop (length xs))
    (from_there m at (xs ++ ys) h ∙ append_assoc xs ys (rest_of m at (xs ++ ys)))
    ∙ drop-append_seam xs (ys ++ rest_of m at (xs ++ ys))))
    ∙ take-append_seam ys (rest_of m at (xs ++ ys))

pub stand_both : (m : MemoryMap) (at : ℕ) (xs ys : List ℕ) → Stand m at xs
    → Stand m (at + length xs) ys → Stand m at (xs ++ ys)
stand_both m at xs ys h k =
    ap (λ (n : ℕ). take n (drop at m.bytes)) (length-append xs ys)
    ∙ (take-add (length xs) (length ys) (drop at m.bytes)
    ∙ (ap (λ (zs : List ℕ). zs ++ take (length ys) (drop (length xs) (drop at m.bytes))) h
    ∙ ap (λ (zs : List ℕ). xs ++ zs) (ap (take (length ys)) (drop-drop (length xs) at m.bytes)
    ∙ k)))

inside : (m : MemoryMap) (at : ℕ) (xs : List ℕ) → 0 < length xs → Stand m at xs
    → at + length xs ≤ length m.bytes
inside m at xs some h =
    let e = ap length (from_there m at xs h) in
    let a = length-append xs (rest_of m at xs) in
    let d = length-drop at m.bytes in
    omega (arith, e, a, d, some)

can_read : (n : ℕ) (m : MemoryMap) (at : ℕ) → at + n ≤ length m.bytes
    → read n m at ≡ Ok (number_at n m.bytes at)
can_read n m at h = let e : nat_le (at + n) (length m.bytes) ≡ true =
    le-leb (at + n) (length m.bytes) h in rw e refl

-- the number in bytes that stand
pub stand_read : (n : ℕ) (m : MemoryMap) (at x : ℕ) → 0 < n → x < 256 ^ n
    → Stand m at (big_bytes n x) → read n m at ≡ Ok x
stand_read n m at x some fits h =
    let l = length-bytes_high_first n x in
    let i = inside m at (big_bytes n x) (omega (arith, l, some)) h in
    can_read n m at (omega (arith, l, i))
    ∙ ap Ok (ap (big_number n) (from_there m at (big_bytes n x) h)
    ∙ big_number-reads_back n x (rest_of m at (big_bytes n x)) fits)

-- ---- and the bytes of a number that was read

single : {a b : ℕ} → a ≡ b → a ∷ [] ≡ b ∷ []
single e = rw e refl

double : {a b c d : ℕ} → a ≡ b → c ≡ d → a ∷ c ∷ [] ≡ b ∷ d ∷ []
double e f = rw (e, f) refl

abbrev Front : ℕ → List ℕ → Type 0
Front n xs = (take n xs ≡ big_bytes n (big_number n xs)) × (big_number n xs < 256 ^ n)

one : (x : ℕ) (xs : List ℕ) → x < 256 → Front 1 (x ∷ xs)
one x xs a =
    let e : x ≡ (x * 1 + 0) % 256 = omega (arith, a) in
    let f : x * 1 + 0 < 256 = omega (arith, a) in
    (single e, f)

two : (x y : ℕ) (xs : List ℕ) → x < 256 → y < 256 → Front 2 (x ∷ y ∷ xs)
two x y xs a b =
    let v : ℕ = x * 256 + (y * 1 + 0) in
    let e : x ≡ (x * 256 + (y * 1 + 0)) / 256 % 256 = omega (arith, a, b) in
    let f : y ≡ (x * 256 + (y * 1 + 0)) % 256 = omega (arith, a, b) in
    let g : x * 256 + (y * 1 + 0) < 65536 = omega (arith, a, b) in
    (double e f, g)

four : (x y z t : ℕ) (xs : List ℕ) → x < 256 → y < 256 → z < 256 → t < 256
    → Front 4 (x ∷ y ∷ z ∷ t ∷ xs)
four x y z t xs a b c d =
    let e : x ≡ (x * 16777216 + (y * 65536 + (z * 256 + (t * 1 + 0)))) / 16777216 % 256 =
    omega (arith, a, b, c, d) in
    let f : y ≡ (x * 16777216 + (y * 65536 + (z * 256 + (t * 1 + 0)))) / 65536 % 256 =
    omega (arith, a, b, c, d) in
    let g : z ≡ (x * 16777216 + (y * 65536 + (z * 256 + (t * 1 + 0)))) / 256 % 256 =
    omega (arith, a, b, c, d) in
    let h : t ≡ (x * 16777216 + (y * 65536 + (z * 256 + (t * 1 + 0)))) % 256 =
    omega (arith, a, b, c, d) in
    let i : x * 16777216 + (y * 65536 + (z * 256 + (t * 1 + 0))) < 4294967296 =
    omega (arith, a, b, c, d) in
    (quadruple e f g h, i)
  where
    quadruple : {a b c d e f g h : ℕ} → a ≡ b → c ≡ d → e ≡ f → g ≡ h
        → a ∷ c ∷ e ∷ g ∷ [] ≡ b ∷ d ∷ f ∷ h ∷ []
    quadruple i j k l = rw (i, j, k, l) refl

front : (w : Width) (xs : List ℕ) → size w ≤ length xs → All (λ x. x < 256) xs → Front (size w) xs
front One [] l a = absurd (omega (arith, l))
front One (x ∷ xs) l a = one x xs (All-head (λ x. x < 256) x xs a)
front Two [] l a = absurd (omega (arith, l))
front Two (x ∷ []) l a = absurd (omega (arith, l))
front Two (x ∷ y ∷ xs) l a =
    let b = All-tail (λ x. x < 256) x (y ∷ xs) a in
    two x y xs (All-head (λ x. x < 256) x (y ∷ xs) a) (All-head (λ x. x < 256) y xs b)
front Four [] l a = absurd (omega (arith, l))
front Four (x ∷ []) l a = absurd (omega (arith, l))
front Four (x ∷ y ∷ []) l a = absurd (omega (arith, l))
front Four (x ∷ y ∷ z ∷ []) l a = absurd (omega (arith, l))
front Four (x ∷ y ∷ z ∷ t ∷ xs) l a =
    let b = All-tail (λ x. x < 256) x (y ∷ z ∷ t ∷ xs) a in
    let c = All-tail (λ x. x < 256) y (z ∷ t ∷ xs) b in
    let d = All-tail (λ x. x < 256) z (t ∷ xs) c in
    four x y z t xs (All-head (λ x. x < 256) x (y ∷ z ∷ t ∷ xs) a)
    (All-head (λ x. x < 256) y (z ∷ t ∷ xs) b)
    (All-head (λ x. x < 256) z (t ∷ xs) c) (All-head (λ x. x < 256) t xs d)

could_read : (b : Bool) (x y : ℕ) (f : MemFault) → cond b (Ok y) (Err f) ≡ Ok x
    → (b ≡ true) × (y ≡ x)
could_read true x y f h = (refl, cc)
could_read false x y f h = absurd cc

-- a number that was read, and its bytes
pub record Number (w : Width) (m : MemoryMap) (at x : ℕ) : Type 0 where
  pub bytes : Stand m at (big_bytes (size w) x)
  pub fits : x < 256 ^ size w

pub read_stands : (w : Width) (m : MemoryMap) (at x : ℕ) → All (λ byte. byte < 256) m.bytes
    → read (size w) m at ≡ Ok x → Number w m at x
read_stands w m at x bytes h =
    let r = could_read (nat_le (at + size w) (length m.bytes)) x (number_at (size w) m.bytes at)
    (BadRead at) h in
    let i = leb-true (at + size w) (length m.bytes) r.0 in
    let d = length-drop at m.bytes in
    let f = front w (drop at m.bytes) (omega (arith, i, d))
    (All-drop (λ x. x < 256) at m.bytes bytes) in
    let l = length-bytes_high_first (size w) x in
    record {
      bytes = ap (λ (n : ℕ). take n (drop at m.bytes)) l ∙ (f.0 ∙ ap (big_bytes (size w)) r.1);
      fits = subst (λ (n : ℕ). n < 256 ^ size w) r.1 f.1;
    }

-- Numbers of many bytes, byte by byte.
use Rattle.std.proofs.Common.{arith, suc, ◌≡◌, ◌≢◌, ◌∙◌, refl, sym, ap, subst, ℕ, ◌+◌, ◌-◌, ◌*◌}
use Rattle.std.proofs.Common.{◌^◌, ◌<◌, ◌≤◌, true, false, nat_eq, nat_lt, List, drop}
use Rattle.std.specs.Prelude.{slice_index}
use Rattle.std.specs.Ordering.{nat_cmp}
use Rattle.std.specs.declared.cmp.Ordering.TheVariants.{Less, Equal, Greater}
use Rattle.std.proofs.lemmas.Grind.{common_steps, pow_more}
use Rattle.std.proofs.lemmas.Nat.{mul-le, mul-add-lt}
use Rattle.std.proofs.Math.Nat.{one-le-pow, zero-mul}
use Rattle.byteorder.specs.Endian.{big_from}

-- the number in the bytes from place i to place n
abbrev pub tail : ℕ → ℕ → List ℕ → ℕ
tail i n xs = big_from i (n - i) xs

-- a place more in front
pub tail-front : (i n : ℕ) (xs : List ℕ) → 0 < i → i ≤ n
    → tail (i - 1) n xs ≡ slice_index xs (i - 1) * 256 ^ (n - i) + tail i n xs
tail-front i n xs p l =
    let more : n - (i - 1) ≡ suc (n - i) = omega arith in
    let next : suc (i - 1) ≡ i = omega arith in
    ap (λ k. big_from (i - 1) k xs) more
    ∙ ap (λ j. slice_index xs (i - 1) * 256 ^ (n - i) + big_from j (n - i) xs) next

-- it has a digit more
pub tail-below : (i n : ℕ) (xs : List ℕ) → 0 < i → i ≤ n → slice_index xs (i - 1) < 256
    → tail i n xs < 256 ^ (n - i) → tail (i - 1) n xs < 256 ^ (n - (i - 1))
tail-below i n xs p l b h =
    let more : n - (i - 1) ≡ n - i + 1 = omega arith in
    let power : 256 ^ (n - (i - 1)) ≡ 256 ^ (n - i) * 256 =
    ap (λ k. 256 ^ k) more ∙ pow_more 256 (n - i) in
    let below : slice_index xs (i - 1) * 256 ^ (n - i) + tail i n xs < 256 ^ (n - i) * 256 =
    mul-add-lt _ _ _ _ b h in
    omega (arith, tail-front i n xs p l, power, below)

-- numbers by their order
less : (u v : ℕ) → u < v → nat_cmp u v ≡ Less
less u v l = let e : nat_lt u v ≡ true = grind (arith, common_steps) in rw e refl

greater : (u v : ℕ) → v < u → nat_cmp u v ≡ Greater
greater u v l =
    let e : nat_lt u v ≡ false = grind (arith, common_steps) in
    let f : nat_eq u v ≡ false = grind (arith, common_steps) in rw e (rw f refl)

same : (u v : ℕ) → u ≡ v → nat_cmp u v ≡ Equal
same u v s =
    let e : nat_lt u v ≡ false = grind (arith, common_steps) in
    let f : nat_eq u v ≡ true = grind (arith, common_steps) in rw e (rw f refl)

-- a digit in front decides where it differs
front_less : (a b x y p : ℕ) → x < p → a < b → a * p + x < b * p + y
front_less a b x y p l h =
    let m : (a + 1) * p ≤ b * p = mul-le (a + 1) p b p (omega arith) (omega arith) in
    let d : (a + 1) * p ≡ a * p + p = omega arith in
    omega arith

pub front_decides : (a b x y p : ℕ) → x < p → y < p → a ≢ b
    → nat_cmp a b ≡ nat_cmp (a * p + x) (b * p + y)
front_decides a b x y p l g d =
    elim (nat_lt a b) as (λ t. nat_lt a b ≡ t → nat_cmp a b ≡ nat_cmp (a * p + x) (b * p + y)) [
      | true ↦ (λ e. let h : a < b = grind (arith, common_steps) in less a b h
          ∙ sym (less (a * p + x) (b * p + y) (front_less a b x y p l h)))
      | false ↦ (λ e. let h : b < a = grind (arith, common_steps) in greater a b h
          ∙ sym (greater (a * p + x) (b * p + y) (front_less b a y x p g h)))
    ] refl

-- and else what stands behind
pub behind_decides : (a b x y p : ℕ) → a ≡ b → nat_cmp x y ≡ nat_cmp (a * p + x) (b * p + y)
behind_decides a b x y p s =
    let q : a * p ≡ b * p = ap (λ k. k * p) s in
    elim (nat_lt x y) as (λ t. nat_lt x y ≡ t → nat_cmp x y ≡ nat_cmp (a * p + x) (b * p + y)) [
      | true ↦ (λ e. let h : x < y = grind (arith, common_steps) in less x y h
          ∙ sym (less (a * p + x) (b * p + y) (omega arith)))
      | false ↦ (λ e. elim (nat_lt y x) as (λ t. nat_lt y x ≡ t
          → nat_cmp x y ≡ nat_cmp (a * p + x) (b * p + y)) [
            | true ↦ (λ f. let h : y < x = grind (arith, common_steps) in greater x y h
                ∙ sym (greater (a * p + x) (b * p + y) (omega arith)))
            | false ↦ (λ f. let h : x ≡ y = grind (arith, common_steps) in same x y h
                ∙ sym (same (a * p + x) (b * p + y) (omega arith)))
          ] refl)
    ] refl

-- a byte of what is left from a place on
pub byte_behind : (xs : List ℕ) (at i : ℕ) → slice_index (drop at xs) i ≡ slice_index xs (at + i)
byte_behind xs at i = grind (arith, common_steps)

-- the same for a byte that was read
pub tail-byte : (i n at b : ℕ) (bytes : List ℕ) → 0 < i → i ≤ n
    → b ≡ slice_index bytes (at + (i - 1))
    → tail (i - 1) n (drop at bytes) ≡ b * 256 ^ (n - i) + tail i n (drop at bytes)
tail-byte i n at b bytes p l e =
    tail-front i n (drop at bytes) p l
    ∙ ap (λ d. d * 256 ^ (n - i) + tail i n (drop at bytes)) (byte_behind bytes at (i - 1) ∙ sym e)

pub tail-byte_below : (i n at b : ℕ) (bytes : List ℕ) → 0 < i → i ≤ n
    → b ≡ slice_index bytes (at + (i - 1)) → b < 256 → tail i n (drop at bytes) < 256 ^ (n - i)
    → tail (i - 1) n (drop at bytes) < 256 ^ (n - (i - 1))
tail-byte_below i n at b bytes p l e g h =
    tail-below i n (drop at bytes) p l
    (subst (λ d. d < 256) (e ∙ sym (byte_behind bytes at (i - 1))) g) h

pub ap2 : {A B : Type 0} (f : A → A → B) {x x' y y' : A} → x ≡ x' → y ≡ y' → f x y ≡ f x' y'
ap2 f {x = x} {y' = y'} e g = ap (f x) g ∙ ap (λ z. f z y') e

pub tail-next : (i n at b : ℕ) (bytes : List ℕ) → i < n → b ≡ slice_index bytes (at + i)
    → tail i n (drop at bytes) ≡ b * 256 ^ (n - (i + 1)) + tail (i + 1) n (drop at bytes)
tail-next i n at b bytes l e =
    let back : i + 1 - 1 ≡ i = omega arith in
    let byte : b ≡ slice_index bytes (at + (i + 1 - 1)) =
    e ∙ ap (λ j. slice_index bytes (at + j)) (sym back) in
    ap (λ j. tail j n (drop at bytes)) (sym back) ∙ tail-byte (i + 1) n at b bytes (omega arith)
    (omega arith) byte

-- a number with a digit that isn't 0 isn't 0
pub not_zero : (i n at b number : ℕ) (bytes : List ℕ) → i < n → b ≡ slice_index bytes (at + i)
    → b ≢ 0 → number ≡ tail i n (drop at bytes) → false ≡ nat_eq number 0
not_zero i n at b number bytes l e d s =
    let power : 1 ≤ 256 ^ (n - (i + 1)) = one-le-pow (n - (i + 1)) 256 (omega arith) in
    let product : 1 * 1 ≤ b * 256 ^ (n - (i + 1)) =
    mul-le 1 1 b (256 ^ (n - (i + 1))) (omega arith) power in
    let digits : number ≡ b * 256 ^ (n - (i + 1)) + tail (i + 1) n (drop at bytes) =
    s ∙ tail-next i n at b bytes l e in
    let above : 0 < number = omega arith in
    grind (arith, common_steps)

-- a digit 0 counts for nothing
pub zero_digit : (i n at b number : ℕ) (bytes : List ℕ) → i < n → b ≡ slice_index bytes (at + i)
    → b ≡ 0 → number ≡ tail i n (drop at bytes) → number ≡ tail (i + 1) n (drop at bytes)
zero_digit i n at b number bytes l e z s =
    let nothing : b * 256 ^ (n - (i + 1)) ≡ 0 =
    ap (λ d. d * 256 ^ (n - (i + 1))) z ∙ zero-mul (256 ^ (n - (i + 1))) in
    let digits : number ≡ b * 256 ^ (n - (i + 1)) + tail (i + 1) n (drop at bytes) =
    s ∙ tail-next i n at b bytes l e in
    omega arith

-- Bit p of memory is the p-th of its list of bits.
use Rattle.std.proofs.Common.{◌≡◌, ℕ, ◌+◌, ◌*◌, ◌/◌, ◌%◌, ◌^◌, ◌<◌, ◌≤◌, zero, suc}
use Rattle.std.proofs.Common.{List, [], ◌∷◌, length, drop, refl, arith, ◌∙◌, sym, ap}
use Rattle.std.proofs.Math.Seq.{drop-nil}
use Rattle.byteorder.specs.Endian.{big_number}
use Rattle.vm_string.specs.Meaning.{bits}

-- eight bits more are a byte more
eight : (k j b : ℕ) (bytes : List ℕ)
    → drop (8 * suc k + j) (bits (b ∷ bytes)) ≡ drop (8 * k + j) (bits bytes)
unfolding bits
eight k j b bytes =
    ap (λ (i : ℕ).
    drop i (bits (b ∷ bytes))) (let e : 8 * suc k + j
    ≡ suc (suc (suc (suc (suc (suc (suc (suc (8 * k + j)))))))) = omega arith in
    e)

no_bytes : (i : ℕ) → ◌≡◌ {A = List ℕ} (drop i (bits [])) []
unfolding bits
no_bytes i = drop-nil i

one_byte : (b : ℕ) (bytes : List ℕ) → big_number 1 (b ∷ bytes) ≡ b
one_byte b bytes = omega arith

-- a bit of the first byte
pub bit_first : (j b : ℕ) (bytes : List ℕ)
    → j < 8
    → drop j (bits (b ∷ bytes)) ≡ b / 2 ^ j % 2 ∷ drop (j + 1) (bits (b ∷ bytes))
unfolding bits
bit_first zero b bytes h = refl
bit_first (suc zero) b bytes h = refl
bit_first (suc (suc zero)) b bytes h = refl
bit_first (suc (suc (suc zero))) b bytes h = refl
bit_first (suc (suc (suc (suc zero)))) b bytes h = refl
bit_first (suc (suc (suc (suc (suc zero))))) b bytes h = refl
bit_first (suc (suc (suc (suc (suc (suc zero)))))) b bytes h = refl
bit_first (suc (suc (suc (suc (suc (suc (suc zero))))))) b bytes h = refl
bit_first (suc (suc (suc (suc (suc (suc (suc (suc j)))))))) b bytes h = absurd (omega arith)

at : (i j : ℕ) (bytes : List ℕ) → i ≡ j → drop i (bits bytes) ≡ drop j (bits bytes)
at i j bytes e = ap (λ (n : ℕ). drop n (bits bytes)) e

bit_of : (k j : ℕ) (bytes : List ℕ)
    → j < 8 → k < length bytes
    → drop (8 * k + j) (bits bytes)
    ≡ big_number 1 (drop k bytes) / 2 ^ j % 2 ∷ drop (8 * k + (j + 1)) (bits bytes)
bit_of k j [] h below = absurd (omega arith)
bit_of zero j (b ∷ bytes) h below =
    at (8 * 0 + j) j (b ∷ bytes) (omega arith)
    ∙ (bit_first j b bytes h
    ∙ (ap (λ (x : ℕ). x / 2 ^ j % 2 ∷ drop (j + 1) (bits (b ∷ bytes))) (sym (one_byte b bytes))
    ∙ ap (λ (l : List ℕ). big_number 1 (b ∷ bytes) / 2 ^ j % 2 ∷ l)
    (at (j + 1) (8 * 0 + (j + 1)) (b ∷ bytes) (omega arith))))
bit_of (suc k) j (b ∷ bytes) h below =
    eight k j b bytes
    ∙ (bit_of k j bytes h (omega arith)
    ∙ ap (λ (l : List ℕ). big_number 1 (drop k bytes) / 2 ^ j % 2 ∷ l)
    (sym (eight k (j + 1) b bytes)))

bit_none : (k j : ℕ) (bytes : List ℕ)
    → length bytes ≤ k
    → ◌≡◌ {A = List ℕ} (drop (8 * k + j) (bits bytes)) []
bit_none k j [] h = no_bytes (8 * k + j)
bit_none zero j (b ∷ bytes) h = absurd (omega arith)
bit_none (suc k) j (b ∷ bytes) h = eight k j b bytes ∙ bit_none k j bytes (omega arith)

-- the bits from p on begin with bit p
pub bit_here : (p : ℕ) (bytes : List ℕ)
    → p / 8 < length bytes
    → drop p (bits bytes)
    ≡ big_number 1 (drop (p / 8) bytes) / 2 ^ (p % 8) % 2 ∷ drop (p + 1) (bits bytes)
bit_here p bytes below =
    at p (8 * (p / 8) + p % 8) bytes (omega arith)
    ∙ (bit_of (p / 8) (p % 8) bytes (omega arith) below
    ∙ ap (λ (l : List ℕ). big_number 1 (drop (p / 8) bytes) / 2 ^ (p % 8) % 2 ∷ l)
    (at (8 * (p / 8) + (p % 8 + 1)) (p + 1) bytes (omega arith)))

pub bit_past : (p : ℕ) (bytes : List ℕ)
    → length bytes ≤ p / 8
    → ◌≡◌ {A = List ℕ} (drop p (bits bytes)) []
bit_past p bytes past =
    at p (8 * (p / 8) + p % 8) bytes (omega arith) ∙ bit_none (p / 8) (p % 8) bytes past

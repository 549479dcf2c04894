-- A sum of words, word by word.
use Rattle.std.proofs.Common.{◌≡◌, ℕ, ◌+◌, ◌%◌, ◌^◌, List, suc, refl, arith, ap, sym, ◌∙◌}
use native.Mathlib.Numerals.{unary_clauses}
use Rattle.glulx_image.specs.Checksum.{sum_of_words, summand}

sum_of_words-suc : (file : List ℕ) (k n : ℕ)
    → n ≡ suc k
    → sum_of_words file n ≡ sum_of_words file k + summand file k
unfolding sum_of_words
sum_of_words-suc file k n e = rw e refl

wrapped : (whole sum x : ℕ) → sum ≡ whole % 2 ^ 32 → (sum + x) % 2 ^ 32 ≡ (whole + x) % 2 ^ 32
wrapped whole sum x e = omega arith

-- a sum modulo 2^32 with one word more
pub sum_of_words-next : (file : List ℕ) (k sum : ℕ) → sum ≡ sum_of_words file k % 2 ^ 32
    → (sum + summand file k) % 2 ^ 32 ≡ sum_of_words file (k + 1) % 2 ^ 32
sum_of_words-next file k sum e =
    wrapped (sum_of_words file k) sum (summand file k) e
    ∙ ap (λ (n : ℕ). n % 2 ^ 32) (sym (sum_of_words-suc file k (k + 1) (simp unary_clauses refl)))

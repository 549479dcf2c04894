-- The digits of a number, by powers of ten.
use Rattle.std.proofs.Common.{◌≡◌, ℕ, ◌+◌, ◌-◌, ◌/◌, ◌%◌, ◌^◌, ◌<◌, ◌≤◌, zero, suc, List, [], ◌∷◌}
use Rattle.std.proofs.Common.{◌++◌, length, get_or, nat_lt, true, false, refl, arith, ◌∙◌, sym, ap}
use Rattle.std.proofs.Common.{length-append, slice_index, if◌then◌else◌}
use Rattle.std.proofs.lemmas.Bool.Decides.{nat_tests}
use Rattle.std.proofs.lemmas.Fmt.{decimal_by_steps}
use Rattle.std.proofs.lemmas.List.{get_or_append_left, get_or_push}
use Rattle.std.specs.Fmt.{decimal, signed_decimal}
use Rattle.std.specs.Int.{cast_signed, w32}
use Rattle.std.proofs.Math.Facts.{to_z_pos, to_z-neg}
use Rattle.vm_exec.specs.Number.{number_text}
use native.Mathlib.Nat.{pow-suc, mul_comm, div-div-eq-div-mul, div-one}

-- how many digits a number below 2^32 has
abbrev pub count : ℕ → ℕ
count n =
    if nat_lt n 10 then 1
    else (if nat_lt n 100 then 2
    else (if nat_lt n 1000 then 3
    else (if nat_lt n 10000 then 4
    else (if nat_lt n 100000 then 5
    else (if nat_lt n 1000000 then 6
    else (if nat_lt n 10000000 then 7
    else (if nat_lt n 100000000 then 8
    else (if nat_lt n 1000000000 then 9
    else 10))))))))

count_step : (n : ℕ) → 10 ≤ n → n < 2 ^ 32 → count (n / 10) + 1 ≡ count n
count_step n h small = grind (arith, nat_tests)

count_one : (n : ℕ) → n < 10 → 1 ≡ count n
count_one n h = grind (arith, nat_tests)

abbrev Counts : ℕ → List ℕ → Type 0
Counts n ds = n < 2 ^ 32 → length ds ≡ count n

pub length_is : (n : ℕ) → n < 2 ^ 32 → length (decimal n) ≡ count n
length_is n small =
    decimal_by_steps Counts (λ k h less. count_one k h)
    (λ k ds h ih less. length-append ds ((48 + k % 10) ∷ [])
    ∙ (ap (λ (l : ℕ). l + 1) (ih (omega arith)) ∙ count_step k h less))
    n (omega arith) small

in_it : (i n : ℕ) → nat_lt i n ≡ true → i < n
in_it i n e = grind (arith, nat_tests)

past_it : (i n : ℕ) → nat_lt i n ≡ false → n ≤ i
past_it i n e = grind (arith, nat_tests)

abbrev Digits : ℕ → List ℕ → Type 0
Digits n ds = (i : ℕ) → i < length ds → get_or ds i 0 ≡ n / 10 ^ (length ds - 1 - i) % 10 + 48

shift : (n k j : ℕ) → j ≡ k + 1 → n / 10 / 10 ^ k % 10 + 48 ≡ n / 10 ^ j % 10 + 48
shift n k j e =
    ap (λ (x : ℕ). x % 10 + 48) (div-div-eq-div-mul n 10 (10 ^ k)
    ∙ (ap (λ (x : ℕ). n / x) (mul_comm 10 (10 ^ k) ∙ sym (pow-suc 10 k))
    ∙ ap (λ (x : ℕ). n / 10 ^ x) (let f : suc k ≡ j = omega arith in f)))

last : (n k : ℕ) → k ≡ 0 → 48 + n % 10 ≡ n / 10 ^ k % 10 + 48
last n k e = rw e (omega (arith, div-one n))

at_last : (n : ℕ) (ds : List ℕ) (i : ℕ)
    → i ≡ length ds
    → get_or (ds ++ ((48 + n % 10) ∷ [])) i 0
    ≡ n / 10 ^ (length (ds ++ ((48 + n % 10) ∷ [])) - 1 - i) % 10 + 48
at_last n ds i e =
    get_or_push ds (48 + n % 10) 0 i (sym e)
    ∙ last n (length (ds ++ ((48 + n % 10) ∷ [])) - 1 - i)
    (omega (arith, length-append ds ((48 + n % 10) ∷ [])))

before : (n : ℕ) (ds : List ℕ) (i : ℕ)
    → i < length ds
    → get_or ds i 0 ≡ n / 10 / 10 ^ (length ds - 1 - i) % 10 + 48
    → get_or (ds ++ ((48 + n % 10) ∷ [])) i 0
    ≡ n / 10 ^ (length (ds ++ ((48 + n % 10) ∷ [])) - 1 - i) % 10 + 48
before n ds i h ih =
    get_or_append_left ds ((48 + n % 10) ∷ []) 0 i h
    ∙ (ih
    ∙ shift n (length ds - 1 - i) (length (ds ++ ((48 + n % 10) ∷ [])) - 1 - i)
    (omega (arith, length-append ds ((48 + n % 10) ∷ []))))

more : (n : ℕ) (ds : List ℕ) → 10 ≤ n → Digits (n / 10) ds → Digits n (ds ++ ((48 + n % 10) ∷ []))
more n ds h ih i below =
    elim (nat_lt i (length ds)) as (λ b. (b ≡ true → i < length ds)
    → (b ≡ false → length ds ≤ i)
    → get_or (ds ++ ((48 + n % 10) ∷ [])) i 0
    ≡ n / 10 ^ (length (ds ++ ((48 + n % 10) ∷ [])) - 1 - i) % 10 + 48) [
      | true ↦ (λ here past. before n ds i (here refl) (ih i (here refl)))
      | false ↦
          (λ here past.
          at_last n ds i (omega (arith, length-append ds ((48 + n % 10) ∷ []), past refl)))
    ] (in_it i (length ds)) (past_it i (length ds))

one : (n : ℕ) → n < 10 → Digits n ((48 + n) ∷ [])
one n h zero below = omega (arith, div-one n)
one n h (suc i) below = absurd (omega arith)

-- a digit by its power of ten
pub digit_is : (n i : ℕ)
    → n < 2 ^ 32 → i < length (decimal n)
    → slice_index (decimal n) i ≡ n / 10 ^ (length (decimal n) - 1 - i) % 10 + 48
digit_is n i small below = decimal_by_steps Digits one more n (omega arith) i below

-- so many digits
pub digits_are : (n k : ℕ) → n < 2 ^ 32 → count n ≡ k → k ≡ length (decimal n)
digits_are n k small e = sym (length_is n small ∙ e)

-- the text of a number that isn't negative
pub text_of_natural : (v : ℕ) → v < 2 ^ 31 → number_text v ≡ decimal v
unfolding number_text
text_of_natural v small = ap signed_decimal (to_z_pos w32 small)

negative : (v k : ℕ) → k < 2 ^ 31 → 2 ^ 32 - suc k ≡ v → number_text v ≡ 45 ∷ decimal (suc k)
unfolding number_text
negative v k small e =
    ap (λ (n : ℕ). signed_decimal (cast_signed w32 n)) (sym e)
    ∙ ap signed_decimal (to_z-neg w32 k small)

-- the text of a negative one
pub text_of_negative : (v w : ℕ)
    → 2 ^ 31 ≤ v → v < 2 ^ 32 → w ≡ 2 ^ 32 - v
    → number_text v ≡ 45 ∷ decimal w
text_of_negative v w low high e =
    negative v (2 ^ 32 - v - 1) (omega (arith, low, high))
    (let h : 2 ^ 32 - suc (2 ^ 32 - v - 1) ≡ v = omega (arith, low, high) in h)
    ∙ ap (λ (n : ℕ). 45 ∷ decimal n)
    (let h : suc (2 ^ 32 - v - 1) ≡ w = omega (arith, low, high, e) in h)

pub natural_character : (v i : ℕ)
    → v < 2 ^ 31
    → slice_index (number_text v) i ≡ slice_index (decimal v) i
natural_character v i small = rw (text_of_natural v small) refl

pub minus_character : (v i : ℕ)
    → 2 ^ 31 ≤ v → v < 2 ^ 32 → i ≡ 0
    → 45 ≡ slice_index (number_text v) i
minus_character v i low high e = rw (e, text_of_negative v (2 ^ 32 - v) low high refl) refl

pub negative_character : (v w i j : ℕ) → 2 ^ 31 ≤ v → v < 2 ^ 32 → w ≡ 2 ^ 32 - v → i ≡ suc j
    → slice_index (number_text v) i ≡ slice_index (decimal w) j
negative_character v w i j low high e next = rw (next, text_of_negative v w low high e) refl

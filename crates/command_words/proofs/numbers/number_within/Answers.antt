use Rattle.std.proofs.Common.{◌≡◌, ◌≢◌, ◌<◌, ◌≤◌, ◌^◌, ℕ, inl, inr, refl, subst, sym, List}
use Rattle.std.proofs.Common.{[], ◌∷◌, Bool, true, false, cond, ◌&&◌, ◌||◌, ◌==◌, nat_le}
use Rattle.std.proofs.Common.{nat_lt, length, get_or, arith, Result, Ok, Err, Some, None}
use Rattle.std.proofs.lemmas.Bool.{cases_lt}
use Rattle.std.proofs.lemmas.Bool.Decides.{nat_tests}
use Rattle.std.proofs.lemmas.Str.Parse.{IsNumeralModel, numerals_by_value}
use Rattle.std.proofs.lemmas.Str.Parse.{tells_all_ascii_digits, parse_plain}
use Rattle.std.specs.Result.{OkIff}
use Rattle.std.specs.Str.{all_ascii_digits}
use Rattle.std.specs.Str.Parse.{digits_value, ParsesUnsigned}
use Rattle.command_words.specs.Numbers.{begins_number}
use Rattle.command_words.proofs.numbers.number_within.Goals as goal

own : IsNumeralModel (λ ds. all_ascii_digits ds ≡ true) (digits_value 10)
own = numerals_by_value _ tells_all_ascii_digits

abbrev IsRead : List ℕ → Type 0
IsRead word = (all_ascii_digits word ≡ true) × (0 < length word) × (digits_value 10 word < 2 ^ 64)

-- a word that begins as a number has no sign, and isn't empty
no_sign : (first long : ℕ)
    → (nat_lt 48 first && nat_lt first 58) || (first == 48 && long == 1) ≡ true
    → first ≢ 43
no_sign first long e = λ is. grind (arith, nat_tests, e, is)

some : (word : List ℕ) → begins_number word ≡ true → 0 < length word
some [] e = grind (arith, nat_tests, e)
some (c ∷ word) e = omega arith

-- what a parse gives of a word that has no sign
reads : {E : Type 0} (word : List ℕ) (r s : Result ℕ E)
    → ParsesUnsigned 64 10 word r → begins_number word ≡ true
    → r ≡ s
    → OkIff s (IsRead word) (digits_value 10 word)
reads {E} word r s h e is =
    subst (λ (s : Result ℕ E). OkIff s (IsRead word) (digits_value 10 word)) is
    (parse_plain own 64 word r h (no_sign (get_or word 0 0) (length word) e))

-- the tests of a number, over what they read
within : (begins digits : Bool) (least most value n : ℕ)
    → begins ≡ true → digits ≡ true → n ≡ value → least ≤ n
    → n ≤ most
    → Some n
    ≡ cond (begins && digits && (nat_le least value && nat_le value most)) (Some value) None
within begins digits least most value n b d same many few = grind (arith, nat_tests)

without : (begins digits : Bool) (least most value : ℕ) → (digits ≡ true → most < value)
    → None ≡ cond (begins && digits && (nat_le least value && nat_le value most)) (Some value) None
without begins true least most value many = let m = many refl in grind (arith, nat_tests)
without true false least most value many = refl
without false false least most value many = refl

too_large : (P : Type 0) (long value most : ℕ)
    → ¬ (P × (0 < long) × (value < 2 ^ 64)) → P → 0 < long
    → most < 2 ^ 64 → most < value
too_large P long value most none p some fits =
    elim (cases_lt value (2 ^ 64)) [ inl lt ↦ absurd (none (p, some, lt)) | inr ge ↦ omega arith ]

pub returns-in-Ok-clause-value : goal.returns-in-Ok-clause-value
returns-in-Ok-clause-value c =
    let begins = sym (c.if-not-begins_number.ensures) in
    let plain =
    reads c.args.word.now c.parse.result
    (Ok c.in-Ok.number) c.parse.ensures.value.0 begins c.in-Ok.is in
    within _ _ _ _ _ _ begins plain.0.0 plain.1 c.if-least-number.true c.if-number-most.true

pub returns-in-Err-clause-value : goal.returns-in-Err-clause-value
returns-in-Err-clause-value c =
    let begins = sym (c.if-not-begins_number.ensures) in
    let plain =
    reads c.args.word.now c.parse.result
    (Err c.in-Err.field-0) c.parse.ensures.value.0 begins c.in-Err.is in
    without _ _ _ _ _ (λ digits.
    too_large _ _ _ _ plain digits (some c.args.word.now begins)
    (omega (arith, c.ranges.most.fits)))

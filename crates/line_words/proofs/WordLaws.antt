-- The words and numbers of a line: what is read stands there, and what stands there is read.
use Rattle.std.proofs.Common.{◌≡◌, ℕ, zero, suc, ◌+◌, ◌-◌, ◌*◌, ◌^◌, ◌<◌, ◌≤◌, Bool, true}
use Rattle.std.proofs.Common.{false, ◌&&◌, ◌==◌, cond, nat_le, List, [], ◌∷◌, ◌++◌, length}
use Rattle.std.proofs.Common.{get_or, Option, Some, None, refl, ap, sym, subst, ◌∙◌, arith}
use Rattle.std.specs.Fmt.{decimal}
use Rattle.std.specs.Int.{IsInRange}
use Rattle.std.proofs.lemmas.Bool.{and_parts}
use Rattle.std.proofs.lemmas.Bool.Decides.{nat_tests}
use Rattle.std.proofs.lemmas.Fmt.{decimal_digit, decimal_nonempty, first_decimal}
use Rattle.std.proofs.lemmas.Fmt.{digits_decimal, digits_value-decimal, decimal-digits_value}
use Rattle.std.proofs.lemmas.Str.Parse.{IsDigitsTest, FoldsDigits, IsNumeralModel, numerals_by_fold}
use Rattle.story_text.specs.Laws.{AreVisible}
use Rattle.line_words.specs.Field.{word_of, rest_from_space, word_at, is_digit}
use Rattle.line_words.specs.Field.{number_from, number_spelled}
use Rattle.line_words.specs.Reading.{◌>>=◌}

pub bind_some : {A B : Type 0} (r : Option A) (f : A → Option B) (y : B)
    → (r >>= f) ≡ Some y
    → (x : A) × (r ≡ Some x) × (f x ≡ Some y)
bind_some (Some x) f y e = (x, refl, e)
bind_some None f y e = absurd cc

abbrev some : {A : Type 0} → A → Option A
some x = Some x

pub some_is : {A : Type 0} (x y : A) → some x ≡ some y → x ≡ y
some_is x y e = cc

pub if_some : {A : Type 0} (b : Bool) (x : Option A) (y : A)
    → cond b x None ≡ Some y → (b ≡ true) × (x ≡ Some y)
if_some true x y e = (refl, e)
if_some false x y e = absurd cc

pub else_some : {A : Type 0} (b : Bool) (x : Option A) (y : A)
    → cond b None x ≡ Some y → (b ≡ false) × (x ≡ Some y)
else_some true x y e = absurd cc
else_some false x y e = (refl, e)

-- ---- words

abbrev pub IsEnd : List ℕ → Type 0
IsEnd [] = Unit {0}
IsEnd (b ∷ bs) = (b == 32) ≡ true

-- the byte doesn't stand there
abbrev pub Lacks : ℕ → List ℕ → Type 0
Lacks byte [] = Unit {0}
Lacks byte (b ∷ bs) = ((b == byte) ≡ false) × Lacks byte bs

-- what is visible has no space and no line end
pub visible_lacks : (byte : ℕ) (bs : List ℕ) → byte ≤ 32 → AreVisible bs → Lacks byte bs
visible_lacks byte [] low h = tt
visible_lacks byte (b ∷ bs) low h =
    (grind (arith, nat_tests, h.0), visible_lacks byte bs low h.1)

word_again : (w rest : List ℕ) → Lacks 32 w → IsEnd rest → word_of (w ++ rest) ≡ w
word_again [] [] n e = refl
word_again [] (b ∷ bs) n e = rw e refl
word_again (x ∷ xs) rest n e = rw n.0 (ap (λ (t : List ℕ). x ∷ t) (word_again xs rest n.1 e))

rest_again : (w rest : List ℕ) → Lacks 32 w → IsEnd rest → rest_from_space (w ++ rest) ≡ rest
rest_again [] [] n e = refl
rest_again [] (b ∷ bs) n e = rw e refl
rest_again (x ∷ xs) rest n e = rw n.0 (rest_again xs rest n.1 e)

word_part : (b : ℕ) (bs : List ℕ) (c : Bool)
    → word_of bs ++ rest_from_space bs ≡ bs
    → cond c [] (b ∷ word_of bs) ++ cond c (b ∷ bs) (rest_from_space bs) ≡ b ∷ bs
word_part b bs true more = refl
word_part b bs false more = ap (λ (t : List ℕ). b ∷ t) more

word_parts : (bs : List ℕ) → word_of bs ++ rest_from_space bs ≡ bs
word_parts [] = refl
word_parts (b ∷ bs) = word_part b bs (b == 32) (word_parts bs)

rest_end : (b : ℕ) (bs : List ℕ) (c : Bool)
    → (b == 32) ≡ c → IsEnd (rest_from_space bs)
    → IsEnd (cond c (b ∷ bs) (rest_from_space bs))
rest_end b bs true e more = e
rest_end b bs false e more = more

rest_ends : (bs : List ℕ) → IsEnd (rest_from_space bs)
rest_ends [] = tt
rest_ends (b ∷ bs) = rest_end b bs (b == 32) refl (rest_ends bs)

pub word_at_again : (w rest : List ℕ)
    → Lacks 32 w → IsEnd rest
    → word_at (32 ∷ (w ++ rest)) ≡ Some (w, rest)
unfolding word_at
word_at_again w rest n e = rw (word_again w rest n e, rest_again w rest n e) refl

-- what a reader took from the front
pub record Takes (bytes word rest : List ℕ) : Type 0 where
  pub parts : bytes ≡ 32 ∷ (word ++ rest)
  pub ends : IsEnd rest

pub word_at_only : (bytes w rest : List ℕ) → word_at bytes ≡ Some (w, rest) → Takes bytes w rest
unfolding word_at
word_at_only [] w rest e = absurd cc
word_at_only (b ∷ bs) w rest e =
    let h = if_some (b == 32) (Some (word_of bs, rest_from_space bs)) (w, rest) e in
    let is-space : b ≡ 32 = grind (arith, nat_tests, h.0) in
    let same = some_is (word_of bs, rest_from_space bs) (w, rest) h.1 in
    subst (λ (p : List ℕ × List ℕ). Takes (b ∷ bs) p.0 p.1) same
    (record {
      parts = rw is-space (ap (λ (t : List ℕ). 32 ∷ t) (sym (word_parts bs)));
      ends = rest_ends bs;
    })

-- ---- numbers

abbrev pub all_digits : List ℕ → Bool
all_digits [] = true
all_digits (b ∷ bs) = is_digit b && all_digits bs

abbrev value : ℕ → List ℕ → ℕ
value n [] = n
value n (b ∷ bs) = value (n * 10 + (b - 48)) bs

digit_in : (b : ℕ) → is_digit b ≡ true → IsInRange 48 57 b
digit_in b e = (grind (arith, nat_tests), grind (arith, nat_tests))

in_digit : (b : ℕ) → IsInRange 48 57 b → is_digit b ≡ true
in_digit b e = grind (arith, nat_tests, e.0, e.1)

tells : IsDigitsTest (λ ds. all_digits ds ≡ true)
tells = record {
  empty = refl;
  parts = λ c cs h. let p = and_parts (is_digit c) (all_digits cs) h in (digit_in c p.0, p.1);
  more = λ c cs h t. rw (in_digit c h, t) refl;
}

folds : FoldsDigits value
folds = record { empty = λ n. refl; more = λ n c cs h. refl }

own : IsNumeralModel (λ ds. all_digits ds ≡ true) (value 0)
own = numerals_by_fold (λ ds. all_digits ds ≡ true) tells value folds

value_grows : (n : ℕ) (ds : List ℕ) → n ≤ value n ds
value_grows n [] = omega arith
value_grows n (b ∷ bs) = omega (arith, value_grows (n * 10 + (b - 48)) bs)

number_from_again : (high n : ℕ) (ds : List ℕ)
    → all_digits ds ≡ true → value n ds ≤ high
    → number_from high n ds ≡ Some (value n ds)
number_from_again high n [] h le = refl
number_from_again high n (b ∷ bs) h le =
    let p = and_parts (is_digit b) (all_digits bs) h in
    let small : nat_le (n * 10 + (b - 48)) high ≡ true =
    grind (arith, nat_tests, value_grows (n * 10 + (b - 48)) bs, le) in
    rw (p.0, small) (number_from_again high (n * 10 + (b - 48)) bs p.1 le)

number_from_only : (high n m : ℕ) (ds : List ℕ)
    → n ≤ high → number_from high n ds ≡ Some m
    → (all_digits ds ≡ true) × (value n ds ≡ m) × (m ≤ high)
number_from_only high n m [] le e =
    let same = some_is n m e in (refl, same, subst (λ (x : ℕ). x ≤ high) same le)
number_from_only high n m (b ∷ bs) le e =
    let h =
    if_some (is_digit b && nat_le (n * 10 + (b - 48)) high)
    (number_from high (n * 10 + (b - 48)) bs) m e in
    let p = and_parts (is_digit b) (nat_le (n * 10 + (b - 48)) high) h.0 in
    let t = number_from_only high (n * 10 + (b - 48)) m bs (grind (arith, nat_tests, p.1)) h.1 in
    (rw (p.0, t.0) refl, t.1, t.2)

number_of_again : (high : ℕ) (ds : List ℕ)
    → all_digits ds ≡ true → 0 < length ds
    → (get_or ds 0 0 ≡ 48 → length ds ≡ 1) → value 0 ds ≤ high
    → number_spelled high ds ≡ Some (value 0 ds)
unfolding number_spelled
number_of_again high [] h l z le = absurd (omega (arith, l))
number_of_again high (b ∷ []) h l z le = number_from_again high 0 (b ∷ []) h le
number_of_again high (b ∷ c ∷ bs) h l z le =
    let nonzero : (b == 48) ≡ false = by (b == 48) refl in
    rw nonzero (number_from_again high 0 (b ∷ c ∷ bs) h le) where
      by : (t : Bool) → (b == 48) ≡ t → t ≡ false
      by false e = refl
      by true e = absurd (omega (arith, z (grind (arith, nat_tests, e))))

decimal_leads : (n : ℕ) → n < 2 ^ 64 → get_or (decimal n) 0 0 ≡ 48 → length (decimal n) ≡ 1
decimal_leads zero lt e = ap length (decimal_digit 0 (omega arith))
decimal_leads (suc n) lt e = absurd (omega (arith, first_decimal (suc n) (omega arith) lt, e))

pub decimal_again : (high n : ℕ)
    → n ≤ high → high < 2 ^ 64
    → number_spelled high (decimal n) ≡ Some n
decimal_again high n le small =
    let lt : n < 2 ^ 64 = omega (arith, le, small) in
    let is : value 0 (decimal n) ≡ n = digits_value-decimal own n lt in
    number_of_again high (decimal n) (digits_decimal own n lt) (decimal_nonempty n lt)
    (decimal_leads n lt) (omega (arith, is, le))
    ∙ ap (λ (m : ℕ). some m) is

pub decimal_only : (high n : ℕ) (w : List ℕ)
    → high < 2 ^ 64 → number_spelled high w ≡ Some n
    → (w ≡ decimal n) × (n ≤ high)
unfolding number_spelled
decimal_only high n [] small e = absurd cc
decimal_only high n (b ∷ []) small e =
    let t = number_from_only high 0 n (b ∷ []) (omega arith) e in (
      sym (decimal-digits_value own (b ∷ []) t.0 (omega arith) (λ z. refl)
          (omega (arith, t.1, t.2, small)))
          ∙ ap decimal t.1,
      t.2,
    )
decimal_only high n (b ∷ c ∷ bs) small e =
    let h = else_some (b == 48) (number_from high 0 (b ∷ c ∷ bs)) n e in
    let t = number_from_only high 0 n (b ∷ c ∷ bs) (omega arith) h.1 in (
      sym (decimal-digits_value own (b ∷ c ∷ bs) t.0 (omega arith)
          (λ z. absurd (grind (arith, nat_tests, h.0, z))) (omega (arith, t.1, t.2, small)))
          ∙ ap decimal t.1,
      t.2,
    )

pub digits_visible : (ds : List ℕ) → all_digits ds ≡ true → AreVisible ds
digits_visible [] h = tt
digits_visible (b ∷ bs) h =
    let p = and_parts (is_digit b) (all_digits bs) h in
    (grind (arith, nat_tests, p.0), digits_visible bs p.1)

pub digits-decimal : (n : ℕ) → n < 2 ^ 64 → all_digits (decimal n) ≡ true
digits-decimal n lt = digits_decimal own n lt

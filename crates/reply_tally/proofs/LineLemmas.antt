-- Bytes with no LF among them, and the lines that an LF cuts off.
use Rattle.std.proofs.Common.{◌≡◌, ◌≢◌, ℕ, zero, suc, ◌+◌, ◌/◌, ◌%◌, Bool, true, false, ◌==◌}
use Rattle.std.proofs.Common.{nat_lt, cond, List, [], ◌∷◌, ◌++◌, refl, sym, ap, ◌∙◌, arith}
use Rattle.std.proofs.Common.{append_assoc}
use Rattle.std.specs.Fmt.{digit_glyph, digits_onto, digits, decimal}
use Rattle.std.specs.List.{AllByRecursion as Each, flat_map, list_any}
use Rattle.std.proofs.lemmas.Bool.{or_parts}
use Rattle.std.proofs.lemmas.Bool.Decides.{nat_tests}
use Rattle.std.proofs.lemmas.List.{append-nil}
use Rattle.line_words.specs.Spelling.{number_field}
use Rattle.line_talk.specs.Lines.{lines_from, lines}
use Rattle.reply_tally.specs.ShowLines.{with_lf}

abbrev pub NoLf : List ℕ → Type 0
NoLf bytes = Each (λ byte. byte ≢ 10) bytes

pub Each-append : {X : Type 0} (P : X → Type 0) (xs ys : List X) → Each P xs → Each P ys
    → Each P (xs ++ ys)
Each-append P [] ys h k = k
Each-append P (x ∷ xs) ys h k = (h.0, Each-append P xs ys h.1 k)

pub NoLf-append : (xs ys : List ℕ) → NoLf xs → NoLf ys → NoLf (xs ++ ys)
NoLf-append xs ys h k = Each-append (λ byte. byte ≢ 10) xs ys h k

pub NoLf-flat_map : (f : ℕ → List ℕ) (bytes : List ℕ) → ((byte : ℕ) → NoLf (f byte))
    → NoLf (flat_map f bytes)
NoLf-flat_map f [] h = tt
NoLf-flat_map f (byte ∷ bytes) h =
    NoLf-append (f byte) (flat_map f bytes) (h byte) (NoLf-flat_map f bytes h)

-- a literal's bytes are looked at
pub checked_no_lf : (bytes : List ℕ) → list_any (λ byte. byte == 10) bytes ≡ false → NoLf bytes
checked_no_lf [] h = tt
checked_no_lf (byte ∷ bytes) h =
    let parts = or_parts (byte == 10) (list_any (λ b. b == 10) bytes) h in
    (λ e. grind (arith, nat_tests, parts.0), checked_no_lf bytes parts.1)

pub letter_no_lf : (byte : ℕ) → (byte == 10) ≡ false → NoLf (byte ∷ [])
letter_no_lf byte h = (λ e. grind (arith, nat_tests), tt)

-- ---- numbers

pub glyph_no_lf : (upper : Bool) (d : ℕ) → digit_glyph upper d ≢ 10
glyph_no_lf upper d = by (nat_lt d 10) upper where
  by : (low up : Bool) → cond low (48 + d) (cond up (55 + d) (87 + d)) ≢ 10
  by true up e = omega arith
  by false true e = omega arith
  by false false e = omega arith

either : (last : Bool) (xs ys : List ℕ) → NoLf xs → NoLf ys → NoLf (cond last xs ys)
either true xs ys h k = h
either false xs ys h k = k

digits_no_lf : (k base : ℕ) (upper : Bool) (n : ℕ) (acc : List ℕ) → NoLf acc
    → NoLf (digits_onto k base upper n acc)
digits_no_lf zero base upper n acc h = h
digits_no_lf (suc k) base upper n acc h =
    let more = digit_glyph upper (n % base) ∷ acc in
    let longer : NoLf more = (glyph_no_lf upper (n % base), h) in
    either (n / base == 0) more (digits_onto k base upper (n / base) more) longer
    (digits_no_lf k base upper (n / base) more longer)

pub decimal_no_lf : (n : ℕ) → NoLf (decimal n)
unfolding digits
decimal_no_lf n = digits_no_lf 64 10 false n [] tt

pub number_no_lf : (n : ℕ) → NoLf (number_field n)
number_no_lf n = (λ e. omega arith, decimal_no_lf n)

-- ---- lines

line_from : (begun line rest : List ℕ) → NoLf line
    → lines_from begun (line ++ 10 ∷ rest) ≡ (begun ++ line) ∷ lines rest
line_from begun [] rest h = ap (λ (l : List ℕ). l ∷ lines rest) (sym (append-nil begun))
line_from begun (byte ∷ bytes) rest h =
    let other : (byte == 10) ≡ false = grind (arith, nat_tests, h.0) in
    let same = append_assoc begun (byte ∷ []) bytes in
    rw other
    (line_from (begun ++ byte ∷ []) bytes rest h.1 ∙ ap (λ (l : List ℕ). l ∷ lines rest) same)

-- the first of the lines is cut off
pub first_line : (line rest : List ℕ) → NoLf line → lines (line ++ 10 ∷ rest) ≡ line ∷ lines rest
first_line line rest h = line_from [] line rest h

-- so are the first of many
pub first_lines : (ls : List (List ℕ)) (rest : List ℕ) → Each NoLf ls
    → lines (with_lf ls ++ rest) ≡ ls ++ lines rest
first_lines [] rest h = refl
first_lines (l ∷ ls) rest h =
    let more = with_lf ls ++ rest in
    ap lines (append_assoc (l ++ 10 ∷ []) (with_lf ls) rest ∙ append_assoc l (10 ∷ []) more)
    ∙ first_line l more h.0
    ∙ ap (λ (after : List (List ℕ)). l ∷ after) (first_lines ls rest h.1)

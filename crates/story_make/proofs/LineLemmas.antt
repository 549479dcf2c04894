-- The lines of a script as they are written.
use Rattle.std.proofs.Common.{◌≡◌, ℕ, zero, suc, ◌+◌, ◌/◌, ◌%◌, true, List, []}
use Rattle.std.proofs.Common.{◌∷◌, ◌++◌, length, map, flat_map, codes, refl}
use Rattle.std.proofs.Common.{ap, ◌∙◌, arith, append_assoc, append-nil, rules}
use Rattle.std.specs.List.{AllByRecursion, range_with_len}
use Rattle.std.specs.Fmt.{decimal, digits}
use Rattle.std.specs.Str.{encode_utf8_all}
use Rattle.std.proofs.lemmas.Bool.Decides.{nat_tests}
use Rattle.std.proofs.lemmas.Str.{encode_ascii}
use Rattle.std.proofs.lemmas.List.FromFn.{length-map-range_with_len}
use Rattle.story_text.specs.Escape.{escaped, escaped_byte, is_plain}
use Rattle.line_words.specs.Spelling.{print_request, number_field}
use Rattle.story_make.specs.Script.{letter, letters, opening_request, typed_line, line_of_request}
use Rattle.story_make.specs.Lines.{command_front}
use Rattle.story_make.specs.Laws.{IsLetter}

abbrev pub AreLetters : List ℕ → Type 0
AreLetters = AllByRecursion IsLetter

-- a letter is written as it is
letter_plain : (c : ℕ) → IsLetter c → is_plain c ≡ true
letter_plain c h = grind (arith, nat_tests, h.0, h.1)

letter_escaped : (c : ℕ) → IsLetter c → escaped_byte c ≡ c ∷ []
letter_escaped c h = rw (letter_plain c h) refl

letters_escaped : (cs : List ℕ) → AreLetters cs → flat_map escaped_byte (encode_utf8_all cs) ≡ cs
letters_escaped [] h = refl
letters_escaped (c ∷ cs) h =
    rw (encode_ascii c (omega (arith, h.0.1)), letter_escaped c h.0)
    (ap (λ (t : List ℕ). c ∷ t) (letters_escaped cs h.1))

-- what a word stands for is letters
letter_is : (word i : ℕ) → IsLetter (letter word i)
letter_is word i = (omega arith, omega arith)

letters_from : (word a n : ℕ) → AreLetters (map (letter word) (range_with_len a n))
letters_from word a zero = tt
letters_from word a (suc n) = (letter_is word a, letters_from word (a + 1) n)

pub letters_are : (word : ℕ) → AreLetters (letters word)
letters_are word = letters_from word 0 (word / 10 % 19 + 1)

pub length-letters : (word : ℕ) → length (letters word) ≡ word / 10 % 19 + 1
length-letters word = length-map-range_with_len (letter word) 0 (word / 10 % 19 + 1)

-- the numbers that stand in each script
one : decimal 1 ≡ codes "1"
unfolding digits
one = refl

none : decimal 0 ≡ codes "0"
unfolding digits
none = refl

columns : decimal 80 ≡ codes "80"
unfolding digits
columns = refl

rows : decimal 24 ≡ codes "24"
unfolding digits
rows = refl

-- the parts of a command's line, and of the line that opens a session
typed_parts : (a b text : List ℕ)
    → codes "LINE" ++ (((32 ∷ a) ++ ((32 ∷ codes "k") ++ (32 ∷ b)))
    ++ ((32 ∷ codes "1") ++ ((32 ∷ 61 ∷ text) ++ [])))
    ≡ (codes "LINE " ++ (a ++ (codes " k " ++ (b ++ codes " 1 =")))) ++ text
typed_parts a b text = search (rules, append_assoc, append-nil)

opening_parts : (a b end : List ℕ)
    → (codes "OPEN" ++ (((32 ∷ a) ++ (32 ∷ codes "k"))
    ++ ((32 ∷ codes "0") ++ ((32 ∷ b) ++ ((32 ∷ codes "80") ++ (32 ∷ codes "24")))))) ++ end
    ≡ codes "OPEN " ++ (a ++ (codes " k 0 " ++ (b ++ (codes " 80 24" ++ end))))
opening_parts a b end = search (rules, append_assoc, append-nil)

-- a command's line without its LF
pub print_typed : (s n : ℕ) (text : List ℕ)
    → AreLetters text
    → print_request (typed_line s n text) ≡ command_front s n ++ text
unfolding escaped
print_typed s n text h = rw (letters_escaped text h, one) (typed_parts (decimal s) (decimal n) text)

pub line_typed : (s n : ℕ) (text : List ℕ)
    → AreLetters text
    → line_of_request (typed_line s n text) ≡ command_front s n ++ (text ++ 10 ∷ [])
line_typed s n text h =
    ap (λ (t : List ℕ). t ++ 10 ∷ []) (print_typed s n text h)
    ∙ append_assoc (command_front s n) text (10 ∷ [])

-- the line that opens a session, with what follows it
pub print_opening : (number s : ℕ) (end : List ℕ)
    → print_request (opening_request number s) ++ end
    ≡ codes "OPEN " ++ (decimal s ++ (codes " k 0 " ++ (decimal number ++ (codes " 80 24" ++ end))))
print_opening number s end =
    rw (none, columns, rows) (opening_parts (decimal s) (decimal number) end)

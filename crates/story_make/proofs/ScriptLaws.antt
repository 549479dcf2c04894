-- What each script is, whatever its words.
use Rattle.std.proofs.Common.{◌≡◌, ℕ, zero, suc, ◌+◌, ◌%◌, ◌^◌, ◌<◌, ◌≤◌, inl, inr, Bool}
use Rattle.std.proofs.Common.{true, false, ◌==◌, cond, List, [], ◌∷◌, ◌++◌, length, map}
use Rattle.std.proofs.Common.{slice_index, flat_map, codes, Option, Some, refl, ap, sym}
use Rattle.std.proofs.Common.{subst, ◌∙◌, arith, append_assoc, append-nil, length-append}
use Rattle.std.specs.List.{AllByRecursion}
use Rattle.std.specs.Fmt.{decimal}
use Rattle.std.specs.Str.{all_scalars}
use Rattle.std.proofs.lemmas.Bool.Decides.{nat_tests}
use Rattle.std.proofs.lemmas.Bool.{and_parts}
use Rattle.std.proofs.lemmas.Fmt.{length-decimal-le}
use Rattle.std.proofs.lemmas.List.Elements.{All-from_recursion}
use Rattle.rand_core.specs.Steps.{first_words}
use Rattle.rand_pcg.specs.Lcg.{Lcg, next, advance, state_after}
use Rattle.rand_pcg.specs.Pcg.{multiplier_64, output_xsh_rr, pcg32}
use Rattle.story_text.specs.Text.{are_allowed, IsText}
use Rattle.line_words.specs.declared.request.Request.{Request}
use Rattle.line_words.specs.Spelling.{print_request, IsRequest}
use Rattle.line_words.specs.Request.{request_of}
use Rattle.line_words.proofs.WordLaws.{all_digits, digits-decimal}
use Rattle.line_words.proofs.RequestLaws.{prints, request_again}
use Rattle.story_make.specs.Script.{generator, letters, opening_request, typed_line}
use Rattle.story_make.specs.Script.{Place, script_start, place_after_turn, requests_from}
use Rattle.story_make.specs.Script.{requests, line_of_request, script_bytes}
use Rattle.line_talk.specs.Lines.{lines_from}
use Rattle.story_make.specs.Laws.{IsReadAsRequests, HasALineEachTurn, TakesAWordATurn}
use Rattle.story_make.specs.Laws.{IsLetter, IsNextRequest, AskInOrder, AsksInOrder}
use Rattle.story_make.proofs.LineLemmas.{AreLetters, letters_are, length-letters}
use Rattle.story_make.proofs.LineLemmas.{print_typed, print_opening}

-- ---- the words

pub length-first_words : (n : ℕ) (g : Lcg) → length (first_words pcg32 n g) ≡ n
unfolding first_words
length-first_words zero g = refl
length-first_words (suc n) g = ap suc (length-first_words n (pcg32 g).1)

word_after : (n k : ℕ) (g : Lcg)
    → k < n
    → slice_index (first_words pcg32 n g) k ≡ output_xsh_rr (advance 64 multiplier_64 k g).state
unfolding first_words state_after
word_after zero k g h = absurd (omega (arith, h))
word_after (suc n) zero g h = refl
word_after (suc n) (suc k) g h = word_after n k (next 64 multiplier_64 g) (omega (arith, h))

pub takes : TakesAWordATurn
takes number s turns k h = word_after turns k (generator number s) h

-- ---- one line each turn

length-turns : (s : ℕ) (place : Place) (words : List ℕ)
    → length (requests_from s place words) ≡ length words
length-turns s place [] = refl
length-turns s place (word ∷ words) = ap suc (length-turns s (place_after_turn s word place) words)

pub has_lines : HasALineEachTurn
unfolding requests
has_lines number s turns =
    let words = first_words pcg32 turns (generator number s) in
    omega (
      arith,
      length-turns s (script_start number s) words,
      length-first_words turns (generator number s),
    )

-- ---- the order of commands

next_is : (s sent word : ℕ) → IsNextRequest s sent (typed_line s (sent + 1) (letters word))
next_is s sent word = record {
  text = letters word;
  letters = All-from_recursion IsLetter (letters word) (letters_are word);
  some = omega (arith, length-letters word);
  few = omega (arith, length-letters word);
  is = refl;
}

-- the three ways of a turn
abbrev skipped : ℕ → Place → Place
skipped s place = record place { last = typed_line s (place.sent + 2) (codes "x") }

abbrev stepped : ℕ → ℕ → Place → Place
stepped s word place =
    record { sent = place.sent + 1; last = typed_line s (place.sent + 1) (letters word) }

abbrev OrdersAll : ℕ → List ℕ → Type 0
OrdersAll s words =
    (place : Place) → AskInOrder s place.sent place.last (requests_from s place words)

one_more : (s word : ℕ) (words : List ℕ) (place : Place) → OrdersAll s words → (again skips : Bool)
    → let after = cond again place (cond skips (skipped s place) (stepped s word place)) in
    AskInOrder s place.sent place.last (after.last ∷ requests_from s after words)
one_more s word words place all true skips = inl (refl, all place)
one_more s word words place all false true = inr (inl (refl, all (skipped s place)))
one_more s word words place all false false =
    inr (inr (next_is s place.sent word, all (stepped s word place)))

in_order : (s : ℕ) (words : List ℕ) → OrdersAll s words
in_order s [] place = tt
in_order s (word ∷ words) place =
    one_more s word words place (in_order s words) (word % 10 == 0) (word % 10 == 1)

pub asks : AsksInOrder
unfolding requests
asks number s turns =
    let words = first_words pcg32 turns (generator number s) in
    (requests_from s (script_start number s) words, refl, in_order s words (script_start number s))

-- ---- what is written turn by turn

-- before the first turn
pub at_first : (number s turns n : ℕ) (place : Place) (g : Lcg) (out : List ℕ)
    → n ≡ turns → place ≡ script_start number s
    → g ≡ generator number s → out ≡ line_of_request place.last
    → out ++ flat_map line_of_request (requests_from s place (first_words pcg32 n g))
    ≡ script_bytes number s turns
unfolding script_bytes requests
at_first number s turns n place g out all begins starts e = rw (e, begins, starts, all) refl

-- after one more
pub one_turn : (s word n m : ℕ) (place after : Place) (g h : Lcg) (out written whole : List ℕ)
    → n ≡ suc m → (word, h) ≡ pcg32 g
    → after ≡ place_after_turn s word place
    → written ≡ out ++ line_of_request after.last
    → out ++ flat_map line_of_request (requests_from s place (first_words pcg32 n g)) ≡ whole
    → written ++ flat_map line_of_request (requests_from s after (first_words pcg32 m h)) ≡ whole
unfolding first_words
one_turn s word n m place after g h out written whole more step is wrote sofar =
    let took : word ≡ (pcg32 g).0 = ap (λ (p : ℕ × Lcg). p.0) step in
    let left : h ≡ (pcg32 g).1 = ap (λ (p : ℕ × Lcg). p.1) step in
    rw (wrote, is, took, left, append_assoc) (rw more at sofar)

-- after the last
pub at_last : (s n : ℕ) (place : Place) (g : Lcg) (out whole : List ℕ) → n ≡ 0
    → out ++ flat_map line_of_request (requests_from s place (first_words pcg32 n g)) ≡ whole
    → out ≡ whole
unfolding first_words
at_last s n place g out whole none sofar = rw (none, append-nil out) at sofar

-- ---- no line has an LF inside

abbrev NoLf : List ℕ → Type 0
NoLf = AllByRecursion (λ b. (b == 10) ≡ false)

NoLf-append : (xs ys : List ℕ) → NoLf xs → NoLf ys → NoLf (xs ++ ys)
NoLf-append [] ys a b = b
NoLf-append (x ∷ xs) ys a b = (a.0, NoLf-append xs ys a.1 b)

digits_no_lf : (ds : List ℕ) → all_digits ds ≡ true → NoLf ds
digits_no_lf [] h = tt
digits_no_lf (b ∷ bs) h =
    let p = and_parts _ (all_digits bs) h in (grind (arith, nat_tests, p.0), digits_no_lf bs p.1)

decimal_no_lf : (n : ℕ) → n < 2 ^ 64 → NoLf (decimal n)
decimal_no_lf n h = digits_no_lf (decimal n) (digits-decimal n h)

letters_no_lf : (cs : List ℕ) → AreLetters cs → NoLf cs
letters_no_lf [] h = tt
letters_no_lf (c ∷ cs) h = (grind (arith, nat_tests, h.0), letters_no_lf cs h.1)

-- the first line of bytes
cut_line : (before bs rest : List ℕ)
    → NoLf bs
    → lines_from before ((bs ++ 10 ∷ []) ++ rest) ≡ (before ++ bs) ∷ lines_from [] rest
cut_line before [] rest h = rw (append-nil before) refl
cut_line before (b ∷ bs) rest h =
    rw h.0 (cut_line (before ++ b ∷ []) bs rest h.1
    ∙ ap (λ (t : List ℕ). t ∷ lines_from [] rest) (append_assoc before (b ∷ []) bs))

-- ---- each line is read as its request

record IsReadBack (request : Request) : Type 0 where
  clean : NoLf (print_request request)
  again : request_of (print_request request) ≡ Some request

abbrev some : Request → Option Request
some request = Some request

read_all : (rs : List Request)
    → AllByRecursion IsReadBack rs
    → map request_of (lines_from [] (flat_map line_of_request rs)) ≡ map some rs
read_all [] h = refl
read_all (r ∷ rs) h =
    rw (cut_line [] (print_request r) (flat_map line_of_request rs) h.0.clean, h.0.again)
    (ap (λ (t : List (Option Request)). some r ∷ t) (read_all rs h.1))

short_again : (request : Request)
    → IsRequest request → length (print_request request) ≤ 2047
    → request_of (print_request request) ≡ Some request
short_again request h short =
    request_again (print_request request) request
    (print_request request, prints request h, inl refl, short)

-- the lengths of the two kinds of line
length-front : (a b text : List ℕ)
    → length ((codes "LINE " ++ (a ++ (codes " k " ++ (b ++ codes " 1 =")))) ++ text)
    ≡ length a + length b + length text + 12
length-front a b text = grind (arith, length-append)

length-opening : (a b : List ℕ)
    → length (codes "OPEN " ++ (a ++ (codes " k 0 " ++ (b ++ codes " 80 24"))))
    ≡ length a + length b + 16
length-opening a b = grind (arith, length-append)

letters_scalars : (cs : List ℕ) → AreLetters cs → all_scalars cs ≡ true
letters_scalars [] h = refl
letters_scalars (c ∷ cs) h = rw (letters_scalars cs h.1) (grind (arith, nat_tests, h.0))

letters_allowed : (cs : List ℕ) → AreLetters cs → are_allowed cs ≡ true
letters_allowed [] h = refl
letters_allowed (c ∷ cs) h = rw (letters_allowed cs h.1) (grind (arith, nat_tests, h.0))

letters_text : (cs : List ℕ) → AreLetters cs → length cs ≤ 19 → IsText cs
letters_text cs h few = record {
  scalars = letters_scalars cs h;
  short = rw (letters_allowed cs h) (grind (arith, nat_tests, few));
}

typed_no_lf : (a b text : List ℕ)
    → NoLf a → NoLf b → NoLf text
    → NoLf ((codes "LINE " ++ (a ++ (codes " k " ++ (b ++ codes " 1 =")))) ++ text)
typed_no_lf a b text ha hb ht =
    let end : NoLf (b ++ codes " 1 =") = NoLf-append b _ hb (refl, (refl, (refl, (refl, tt)))) in
    let numbers : NoLf (a ++ (codes " k " ++ (b ++ codes " 1 ="))) =
    NoLf-append a _ ha (refl, (refl, (refl, end))) in
    NoLf-append (codes "LINE " ++ (a ++ (codes " k " ++ (b ++ codes " 1 =")))) text
    (refl, (refl, (refl, (refl, (refl, numbers))))) ht

opening_no_lf : (a b : List ℕ)
    → NoLf a → NoLf b
    → NoLf (codes "OPEN " ++ (a ++ (codes " k 0 " ++ (b ++ codes " 80 24"))))
opening_no_lf a b ha hb =
    let end : NoLf (b ++ codes " 80 24") =
    NoLf-append b _ hb (refl, (refl, (refl, (refl, (refl, (refl, tt)))))) in
    let numbers : NoLf (a ++ (codes " k 0 " ++ (b ++ codes " 80 24"))) =
    NoLf-append a _ ha (refl, (refl, (refl, (refl, (refl, end))))) in
    (refl, (refl, (refl, (refl, (refl, numbers)))))

typed_reads : (s n : ℕ) (text : List ℕ)
    → s < 2 ^ 8 → 1 ≤ n → n ≤ 4294967295 → AreLetters text
    → length text ≤ 19 → IsReadBack (typed_line s n text)
typed_reads s n text small from to h few =
    let is = print_typed s n text h in
    let a = length-decimal-le 3 s (omega arith) (omega arith) (omega arith) in
    let b = length-decimal-le 10 n (omega arith) (omega arith) (omega arith) in
    let long = length-front (decimal s) (decimal n) text in
    let clean =
    typed_no_lf (decimal s) (decimal n) text (decimal_no_lf s (omega arith))
    (decimal_no_lf n (omega arith)) (letters_no_lf text h) in
    let fits : IsRequest (typed_line s n text) =
    ((omega arith, refl, from, to), omega arith, letters_text text h few, refl) in
    record {
      clean = subst NoLf (sym is) clean;
      again =
          short_again (typed_line s n text) fits
          (subst (λ (t : List ℕ). length t ≤ 2047) (sym is) (omega (arith, long, a, b, few)));
    }

opening_reads : (number s : ℕ) → number < 2 ^ 64 → s < 2 ^ 8 → IsReadBack (opening_request number s)
opening_reads number s seed small =
    let is =
    sym (append-nil (print_request (opening_request number s))) ∙ print_opening number s [] in
    let a = length-decimal-le 3 s (omega arith) (omega arith) (omega arith) in
    let b = length-decimal-le 20 number (omega arith) (omega arith) (omega arith) in
    let long = length-opening (decimal s) (decimal number) in
    let clean =
    opening_no_lf (decimal s) (decimal number) (decimal_no_lf s (omega arith))
    (decimal_no_lf number seed) in
    let fits : IsRequest (opening_request number s) = (
      (omega arith, refl),
      omega arith,
      omega arith,
      (omega arith, omega arith, omega arith, omega arith),
      refl,
    ) in
    record {
      clean = subst NoLf (sym is) clean;
      again =
          short_again (opening_request number s) fits
          (subst (λ (t : List ℕ). length t ≤ 2047) (sym is) (omega (arith, long, a, b)));
    }

-- a place whose request is read back, with room for so many turns more
record IsRoomy (s left : ℕ) (place : Place) : Type 0 where
  back : IsReadBack place.last
  room : place.sent + left < 4294967295

turn_roomy : (s word left : ℕ) (place : Place)
    → s < 2 ^ 8 → IsRoomy s (left + 1) place
    → (again skips : Bool)
    → IsRoomy s left (cond again place (cond skips (skipped s place) (stepped s word place)))
turn_roomy s word left place small h true skips =
    record { back = h.back; room = omega (arith, h.room) }
turn_roomy s word left place small h false true = record {
  back =
      typed_reads s (place.sent + 2) (codes "x") small (omega arith) (omega (arith, h.room))
      ((omega arith, omega arith), tt) (omega arith);
  room = omega (arith, h.room);
}
turn_roomy s word left place small h false false = record {
  back =
      typed_reads s (place.sent + 1) (letters word) small (omega arith) (omega (arith, h.room))
      (letters_are word) (omega (arith, length-letters word));
  room = omega (arith, h.room);
}

turns_read : (s : ℕ) (words : List ℕ) (place : Place)
    → s < 2 ^ 8 → IsRoomy s (length words) place
    → AllByRecursion IsReadBack (requests_from s place words)
turns_read s [] place small h = tt
turns_read s (word ∷ words) place small h =
    let more : IsRoomy s (length words + 1) place =
    record { back = h.back; room = omega (arith, h.room) } in
    let after =
    turn_roomy s word (length words) place small more (word % 10 == 0) (word % 10 == 1) in
    (after.back, turns_read s words (place_after_turn s word place) small after)

pub reads : IsReadAsRequests
unfolding script_bytes requests
reads number s turns fits small few =
    let words = first_words pcg32 turns (generator number s) in
    let first = opening_reads number s fits small in
    let roomy : IsRoomy s (length words) (script_start number s) = record {
      back = first;
      room = omega (arith, length-first_words turns (generator number s), few);
    } in
    read_all (opening_request number s ∷ requests_from s (script_start number s) words)
    (first, turns_read s words (script_start number s) small roomy)

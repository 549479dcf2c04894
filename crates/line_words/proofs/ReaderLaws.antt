-- Readers and what they read: one law for each, and one for two readers in a row.
use Rattle.std.proofs.Common.{◌≡◌, ℕ, cond, ◌^◌, ◌<◌, ◌≤◌, Bool, true, false, ◌&&◌, ◌==◌, ◌⊎◌, inl}
use Rattle.std.proofs.Common.{inr, nat_lt, nat_le, List, [], ◌∷◌, ◌++◌, length, Option, Some}
use Rattle.std.proofs.Common.{None, refl, ap, sym, subst, ◌∙◌, arith, append_assoc, append-nil}
use Rattle.std.specs.Fmt.{decimal}
use Rattle.std.proofs.lemmas.Bool.{and_parts}
use Rattle.std.proofs.lemmas.Bool.Decides.{nat_tests}
use Rattle.std.proofs.lemmas.List.{nil_from_length}
use Rattle.story_text.specs.Reading.{text_of}
use Rattle.story_text.specs.Escape as texts
use Rattle.story_text.specs.Laws.{AreVisible}
use Rattle.story_text.proofs.TextLaws.{each_spelling, spells_only, visible_only}
use Rattle.story_text.specs.Keycode.{is_terminator}
use Rattle.line_words.specs.Keycode.{is_code}
use Rattle.line_words.specs.Reading.{Reader, ◌>>=◌, ◌then◌, at_end, whole, made_if_read}
use Rattle.line_words.specs.Field.{word_at, is_letter, are_letters, is_key, checked}
use Rattle.line_words.specs.Field.{number_between, key_at, text_at, code_at, terminator_at}
use Rattle.line_words.specs.Spelling.{field, number_field, terminator, IsTerminator}
use Rattle.line_words.specs.Field.{number_spelled, is_watch_digit, are_watch_digits, is_watch_word}
use Rattle.line_words.specs.Field.{watch_word_at}
use Rattle.line_words.proofs.WordLaws.{bind_some, some_is, if_some, Lacks, visible_lacks}
use Rattle.line_words.proofs.WordLaws.{IsEnd, word_at_again, word_at_only, decimal_again}
use Rattle.line_words.proofs.WordLaws.{decimal_only, digits_visible, digits-decimal}

-- ---- no field has a CR

abbrev pub NoCr : List ℕ → Type 0
NoCr = Lacks 13

pub NoCr-append : (xs ys : List ℕ) → NoCr xs → NoCr ys → NoCr (xs ++ ys)
NoCr-append [] ys a b = b
NoCr-append (x ∷ xs) ys a b = (a.0, NoCr-append xs ys a.1 b)

pub letters_visible : (bs : List ℕ) → are_letters bs ≡ true → AreVisible bs
letters_visible [] h = tt
letters_visible (b ∷ bs) h =
    let p = and_parts (is_letter b) (are_letters bs) h in
    (grind (arith, nat_tests, p.0), letters_visible bs p.1)

-- ---- what a reader reads

-- nothing follows
abbrev pub IsNil : List ℕ → Type 0
IsNil rest = rest ≡ []

-- the reader takes from the front exactly what is spelled there, before rests of this kind
pub record IsReader (A : Type 0) (Rests : List ℕ → Type 0) (Spell : List ℕ → A → Type 0)
    (read : Reader A) : Type 0 where
  pub again : (front rest : List ℕ) (x : A)
      → Spell front x → Rests rest
      → read (front ++ rest) ≡ Some (x, rest)
  pub only : (bytes rest : List ℕ) (x : A)
      → read bytes ≡ Some (x, rest)
      → (front : List ℕ) × (bytes ≡ front ++ rest) × Spell front x
  pub ends : (front rest : List ℕ) (x : A) → Spell front x → Rests rest → IsEnd (front ++ rest)
  pub clean : (front : List ℕ) (x : A) → Spell front x → NoCr front

-- two spellings in a row
abbrev pub Both : {A B : Type 0} → (List ℕ → A → Type 0)
    → (List ℕ → B → Type 0) → List ℕ → A × B → Type 0
Both S T front x = (one : List ℕ) × (two : List ℕ) × (front ≡ one ++ two) × S one x.0 × T two x.1

pub then_reads : {A B : Type 0} {Rests : List ℕ → Type 0} {S : List ℕ → A → Type 0}
    {T : List ℕ → B → Type 0} {first : Reader A} {second : Reader B}
    → IsReader A IsEnd S first → IsReader B Rests T second
    → IsReader (A × B) Rests (Both S T) (first then second)
then_reads {A} {B} {Rests} {S} {T} {first} {second} f s = record {
  again = λ front rest x h r.
      let split : front ++ rest ≡ h.0 ++ (h.1 ++ rest) = rw h.2 (append_assoc h.0 h.1 rest) in
      rw (
        split,
        f.again h.0 (h.1 ++ rest) x.0 h.3 (s.ends h.1 rest x.1 h.4 r),
        s.again h.1 rest x.1 h.4 r,
      ) refl;
  only = λ bytes rest x e.
      let a =
      bind_some (first bytes) (λ x. second x.1 >>= λ y. Some ((x.0, y.0), y.1)) (x, rest) e in
      let b = bind_some (second a.0.1) (λ y. Some ((a.0.0, y.0), y.1)) (x, rest) a.2 in
      let one = f.only bytes a.0.1 a.0.0 a.1 in
      let two = s.only a.0.1 b.0.1 b.0.0 b.1 in
      let joined : bytes ≡ (one.0 ++ two.0) ++ b.0.1 =
      one.1 ∙ ap (λ (t : List ℕ). one.0 ++ t) two.1 ∙ sym (append_assoc one.0 two.0 b.0.1) in
      subst
      (λ (p : (A × B) × List ℕ). (front : List ℕ) × (bytes ≡ front ++ p.1) × Both S T front p.0)
      (some_is ((a.0.0, b.0.0), b.0.1) (x, rest) b.2)
      (one.0 ++ two.0, joined, (one.0, two.0, refl, one.2, two.2));
  ends = λ front rest x h r.
      let split : front ++ rest ≡ h.0 ++ (h.1 ++ rest) = rw h.2 (append_assoc h.0 h.1 rest) in
      rw split (f.ends h.0 (h.1 ++ rest) x.0 h.3 (s.ends h.1 rest x.1 h.4 r));
  clean = λ front x h. rw h.2 (NoCr-append h.0 h.1 (f.clean h.0 x.0 h.3) (s.clean h.1 x.1 h.4));
}

-- what is spelled passes a test too
abbrev pub Tested : {A : Type 0} → (List ℕ → A → Type 0) → (A → Bool) → List ℕ → A → Type 0
Tested S test front x = S front x × (test x ≡ true)

tested_reads : {A : Type 0} {Rests : List ℕ → Type 0} {S : List ℕ → A → Type 0}
    {read : Reader A} (test : A → Bool)
    → IsReader A Rests S read
    → IsReader A Rests (Tested S test) (λ bytes. read bytes >>= λ x. checked (test x.0) x)
tested_reads {A} {S = S} {read = read} test r = record {
  again = λ front rest x h end. rw (r.again front rest x h.0 end, h.1) refl;
  only = λ bytes rest x e.
      let a = bind_some (read bytes) (λ x. checked (test x.0) x) (x, rest) e in
      let h = if_some (test a.0.0) (Some a.0) (x, rest) a.2 in
      let t = r.only bytes a.0.1 a.0.0 a.1 in
      subst
      (λ (p : A × List ℕ). (front : List ℕ) × (bytes ≡ front ++ p.1) × Tested S test front p.0)
      (some_is a.0 (x, rest) h.1)
      (t.0, t.1, (t.2, h.0));
  ends = λ front rest x h end. r.ends front rest x h.0 end;
  clean = λ front x h. r.clean front x h.0;
}

-- a reader of one word, which is visible: by what it makes of the word and of what follows
word_reads : {A : Type 0} {S : List ℕ → A → Type 0}
    (next : List ℕ → List ℕ → Option (A × List ℕ))
    → ((front rest : List ℕ) (x : A) → S front x
    → (word : List ℕ) × (front ≡ field word) × AreVisible word
    × (next word rest ≡ Some (x, rest)))
    → ((word rest : List ℕ) (r : A × List ℕ) → next word rest ≡ Some r
    → (rest ≡ r.1) × S (field word) r.0)
    → IsReader A IsEnd S (λ bytes. word_at bytes >>= λ w. next w.0 w.1)
word_reads {A} {S} next reads only = record {
  again = λ front rest x h end.
      let w = reads front rest x h in
      rw (w.1, word_at_again w.0 rest (visible_lacks 32 w.0 (omega arith) w.2) end) w.3;
  only = λ bytes rest x e.
      let a = bind_some (word_at bytes) (λ w. next w.0 w.1) (x, rest) e in
      let t = word_at_only bytes a.0.0 a.0.1 a.1 in
      let o = only a.0.0 a.0.1 (x, rest) a.2 in
      (field a.0.0, t.parts ∙ ap (λ (r : List ℕ). field a.0.0 ++ r) o.0, o.1);
  ends = λ front rest x h end. rw (reads front rest x h).1 refl;
  clean = λ front x h.
      let w = reads front [] x h in
      rw w.1 (refl, visible_lacks 13 w.0 (omega arith) w.2);
}

at_end-only : (rest : List ℕ) → at_end rest ≡ Some tt → rest ≡ []
at_end-only rest e =
    let h = if_some (length rest == 0) (Some tt) tt e in
    nil_from_length rest (grind (arith, nat_tests, h.0))

-- all the bytes are the spelling of one value
pub whole-again : {A : Type 0} {Rests : List ℕ → Type 0} {S : List ℕ → A → Type 0}
    {read : Reader A} (bytes : List ℕ) (x : A)
    → IsReader A Rests S read → Rests [] → S bytes x → whole read bytes ≡ Some x
whole-again {read = read} bytes x r nil h =
    let front : read bytes ≡ Some (x, []) =
    subst (λ (t : List ℕ). read t ≡ Some (x, [])) (append-nil bytes) (r.again bytes [] x h nil) in
    rw front refl

pub whole-only : {A : Type 0} {Rests : List ℕ → Type 0} {S : List ℕ → A → Type 0}
    {read : Reader A} (bytes : List ℕ) (x : A)
    → IsReader A Rests S read → whole read bytes ≡ Some x → S bytes x
whole-only {A} {S = S} {read = read} bytes x r e =
    let a = bind_some (read bytes) (λ x. at_end x.1 >>= λ _. Some x.0) x e in
    let b = bind_some (at_end a.0.1) (λ _. Some a.0.0) x a.2 in
    let taken = r.only bytes a.0.1 a.0.0 a.1 in
    let nil = at_end-only a.0.1 b.1 in
    let same : bytes ≡ taken.0 =
    taken.1 ∙ ap (λ (t : List ℕ). taken.0 ++ t) nil ∙ append-nil taken.0 in
    subst (λ (y : A). S bytes y) (some_is a.0.0 x b.2)
    (subst (λ (t : List ℕ). S t a.0.0) (sym same) taken.2)

pub made-only : {A B : Type 0} (f : A → B) (read : Option A) (y : B)
    → made_if_read f read ≡ Some y
    → (x : A) × (read ≡ Some x) × (f x ≡ y)
made-only f (Some x) y e = (x, refl, some_is (f x) y e)
made-only f None y e = absurd cc

-- ---- the fields

abbrev pub NumberIs : ℕ → ℕ → List ℕ → ℕ → Type 0
NumberIs low high front n = (front ≡ number_field n) × (low ≤ n) × (n ≤ high)

-- a word that passes a test
abbrev pub PassedIs : (List ℕ → Bool) → List ℕ → List ℕ → Type 0
PassedIs test front word = (front ≡ field word) × (test word ≡ true)

abbrev pub KeyIs : List ℕ → List ℕ → Type 0
KeyIs = PassedIs is_key

abbrev pub WatchWordIs : List ℕ → List ℕ → Type 0
WatchWordIs = PassedIs is_watch_word

abbrev pub TextIs : List ℕ → List ℕ → Type 0
TextIs front text = (word : List ℕ) × (front ≡ field word) × texts.WordSpells word text

abbrev pub CodeIs : List ℕ → ℕ → Type 0
CodeIs = Tested (NumberIs 0 4294967295) is_code

abbrev pub TerminatorIs : List ℕ → ℕ → Type 0
TerminatorIs front term = (front ≡ terminator term) × IsTerminator term

pub number_reads : (low high : ℕ)
    → high < 2 ^ 64
    → IsReader ℕ IsEnd (NumberIs low high) (number_between low high)
unfolding number_between
number_reads low high small =
    word_reads (λ word rest. number_spelled high word >>= λ n. checked (nat_le low n) (n, rest))
    (λ front rest n h.
    let lt : n < 2 ^ 64 = omega (arith, h.2, small) in
    let above : nat_le low n ≡ true = grind (arith, nat_tests, h.1) in (
      decimal n,
      h.0,
      digits_visible (decimal n) (digits-decimal n lt),
      rw (decimal_again high n h.2 small, above) refl,
    ))
    (λ word rest r e.
    let b = bind_some (number_spelled high word) (λ k. checked (nat_le low k) (k, rest)) r e in
    let d = if_some (nat_le low b.0) (Some (b.0, rest)) r b.2 in
    let is = decimal_only high b.0 word small b.1 in
    subst (λ (p : ℕ × List ℕ). (rest ≡ p.1) × NumberIs low high (field word) p.0)
    (some_is (b.0, rest) r d.1) (refl, (ap field is.0, grind (arith, nat_tests, d.0), is.1)))

letters : (key : List ℕ) → is_key key ≡ true → are_letters key ≡ true
letters key h =
    let p = and_parts (nat_lt 0 (length key)) (nat_le (length key) 32 && are_letters key) h in
    (and_parts (nat_le (length key) 32) (are_letters key) p.1).1

-- a word that passes a test, where what passes it is visible
passed_reads : (test : List ℕ → Bool)
    → ((word : List ℕ) → test word ≡ true → AreVisible word)
    → IsReader (List ℕ) IsEnd (PassedIs test)
    (λ bytes. word_at bytes >>= λ word. checked (test word.0) word)
passed_reads test visible =
    word_reads {S = PassedIs test} (λ word rest. checked (test word) (word, rest))
    (λ front rest passed h. (passed, h.0, visible passed h.1, rw h.1 refl))
    (λ word rest r e.
    let h = if_some (test word) (Some (word, rest)) r e in
    subst (λ (p : List ℕ × List ℕ). (rest ≡ p.1) × PassedIs test (field word) p.0)
    (some_is (word, rest) r h.1) (refl, (refl, h.0)))

pub key_reads : IsReader (List ℕ) IsEnd KeyIs key_at
unfolding key_at
key_reads = passed_reads is_key (λ key h. letters_visible key (letters key h))

watch_digits_visible : (bs : List ℕ) → are_watch_digits bs ≡ true → AreVisible bs
watch_digits_visible [] h = tt
watch_digits_visible (b ∷ bs) h =
    let p = and_parts (is_watch_digit b) (are_watch_digits bs) h in
    (grind (arith, nat_tests, p.0), watch_digits_visible bs p.1)

pub watch_word_reads : IsReader (List ℕ) IsEnd WatchWordIs watch_word_at
unfolding watch_word_at
watch_word_reads =
    passed_reads is_watch_word (λ digits h.
    watch_digits_visible digits (and_parts (length digits == 16) (are_watch_digits digits) h).1)

pub text_reads : IsReader (List ℕ) IsEnd TextIs text_at
unfolding text_at
text_reads =
    word_reads (λ word rest. text_of word >>= λ t. Some (t, rest))
    (λ front rest text h.
    let is = each_spelling h.0 text h.2 in
    (h.0, h.1, visible_only h.0 text is, rw is refl))
    (λ word rest r e.
    let b = bind_some (text_of word) (λ t. Some (t, rest)) r e in
    subst (λ (p : List ℕ × List ℕ). (rest ≡ p.1) × TextIs (field word) p.0)
    (some_is (b.0, rest) r b.2) (refl, (word, refl, spells_only word b.0 b.1)))

pub u32_reads : IsReader ℕ IsEnd (NumberIs 0 4294967295) (number_between 0 4294967295)
u32_reads = number_reads 0 4294967295 (omega arith)

pub code_reads : IsReader ℕ IsEnd CodeIs code_at
unfolding code_at
code_reads = tested_reads is_code u32_reads

-- the terminator key, where one is named
named_reads : IsReader ℕ IsEnd (Tested (NumberIs 0 4294967295) is_terminator)
    (λ bytes. number_between 0 4294967295 bytes >>= λ key. checked (is_terminator key.0) key)
named_reads = tested_reads is_terminator u32_reads

-- no key is named, or one is
terminator_split : (front : List ℕ) (term : ℕ)
    → TerminatorIs front term
    → ((front ≡ []) × (term ≡ 0))
    ⊎ Tested (NumberIs 0 4294967295) is_terminator front term
terminator_split front term h = by (term == 0) refl h.0 where
  by : (none : Bool)
      → (term == 0) ≡ none
      → front ≡ cond none [] (number_field term)
      → ((front ≡ []) × (term ≡ 0))
      ⊎ Tested (NumberIs 0 4294967295) is_terminator front term
  by true e is = inl (is, grind (arith, nat_tests, e))
  by false e is =
      let key : is_terminator term ≡ true = grind (arith, nat_tests, e, h.1) in
      inr ((is, omega arith, grind (arith, nat_tests, key)), key)

key_is_not_zero : (key : ℕ) → is_terminator key ≡ true → (key == 0) ≡ false
key_is_not_zero key h = grind (arith, nat_tests)

terminator_only : (bytes rest : List ℕ) (term : ℕ)
    → terminator_at bytes ≡ Some (term, rest)
    → (front : List ℕ) × (bytes ≡ front ++ rest) × TerminatorIs front term
unfolding terminator_at
terminator_only [] rest term e =
    subst (λ (p : ℕ × List ℕ). (front : List ℕ) × ([] ≡ front ++ p.1) × TerminatorIs front p.0)
    (some_is (0, []) (term, rest) e)
    ([], refl, (refl, refl))
terminator_only (b ∷ bs) rest term e =
    let t = named_reads.only (b ∷ bs) rest term e in
    let key = key_is_not_zero term t.2.1 in
    (t.0, t.1, (rw key t.2.0.0, rw key t.2.1))

pub terminator_reads : IsReader ℕ IsNil TerminatorIs terminator_at
unfolding terminator_at
terminator_reads = record {
  again = λ front rest term h r.
      elim (terminator_split front term h) [
        | inl none ↦ rw (none.0, none.1, r) refl
        | inr key ↦ rw key.0.0 (rw key.0.0 at (named_reads.again front rest term key (rw r tt)))
      ];
  only = terminator_only;
  ends = λ front rest term h r.
      elim (terminator_split front term h) [
        | inl none ↦ rw (none.0, r) tt
        | inr key ↦ rw key.0.0 refl
      ];
  clean = λ front term h.
      elim (terminator_split front term h) [
        | inl none ↦ rw none.0 tt
        | inr key ↦ named_reads.clean front term key
      ];
}

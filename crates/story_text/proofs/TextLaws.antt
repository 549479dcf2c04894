-- What is written is read again, and what is read is a text.
use Rattle.std.proofs.Common.{◌≡◌, ℕ, zero, suc, ◌+◌, ◌*◌, ◌/◌, ◌%◌, ◌<◌, Bool, true, false, ◌&&◌}
use Rattle.std.proofs.Common.{◌==◌, cond, nat_lt, List, [], ◌∷◌, ◌++◌, Option, Some, None, refl}
use Rattle.std.proofs.Common.{ap, sym, subst, ◌∙◌, ◌⊎◌, arith, flat_map, inl, inr, encode_utf8_all}
use Rattle.std.specs.Char.{IsScalar}
use Rattle.std.specs.Fmt.{digit_glyph}
use Rattle.std.specs.Str.{is_utf8, chars, all_scalars}
use Rattle.std.proofs.lemmas.Bool.{and_parts, cond_both}
use Rattle.std.proofs.lemmas.Bool.Decides.{nat_tests}
use Rattle.std.proofs.lemmas.Str.{IsUtf8-from_is_utf8, is_utf8-from_IsUtf8}
use Rattle.std.proofs.lemmas.Str.{scalars-chars, chars-encodes, encodes-chars}
use Rattle.percent_encoding.specs.Percent.{percent_encode_byte, percent_decode}
use Rattle.percent_encoding.proofs.PercentLemmas.{percent_decode-nil, percent_decode_not_percent}
use Rattle.percent_encoding.proofs.PercentLemmas.{percent_decode_escape}
use Rattle.percent_encoding.proofs.PercentLemmas.{percent_decode-percent_encode_byte}
use Rattle.std.specs.Char.{digit_value, is_digit}
use Rattle.story_text.specs.Text.{is_short, IsText}
use Rattle.story_text.specs.Escape.{escaped, escaped_byte, is_plain, is_visible}
use Rattle.story_text.specs.Escape.{is_hex, SpellsByte, SpellsBytes, WordSpells}
use Rattle.story_text.specs.Reading.{is_spelled, text_of_bytes, text_of}
use Rattle.story_text.specs.Laws.{AreVisible}

-- ---- the bytes of characters

abbrev AreBytes : List ℕ → Type 0
AreBytes [] = Unit {0}
AreBytes (b ∷ bs) = (b < 256) × AreBytes bs

AreBytes-append : (xs ys : List ℕ) → AreBytes xs → AreBytes ys → AreBytes (xs ++ ys)
AreBytes-append [] ys a b = b
AreBytes-append (x ∷ xs) ys a b = (a.0, AreBytes-append xs ys a.1 b)

AreBytes-encode : (c : ℕ) → IsScalar c → AreBytes (lib.Utf8.encode c)
unfolding lib.Utf8.encode
AreBytes-encode c ok =
    let small : c < 1114112 = grind (arith, nat_tests) in
    cond_both (nat_lt c 128) _ _ AreBytes (λ e. (grind (arith, nat_tests), tt)) (λ e.
    cond_both (nat_lt c 2048) _ _ AreBytes
    (λ f. (grind (arith, nat_tests), (omega arith, tt))) (λ f.
    cond_both (nat_lt c 65536) _ _ AreBytes
    (λ g. (grind (arith, nat_tests), (omega arith, (omega arith, tt)))) (λ g.
    (omega arith, (omega arith, (omega arith, (omega arith, tt)))))))

AreBytes-encodes : (cs : List ℕ) → all_scalars cs ≡ true → AreBytes (encode_utf8_all cs)
AreBytes-encodes [] e = tt
AreBytes-encodes (c ∷ cs) e =
    let parts = and_parts _ (all_scalars cs) e in
    AreBytes-append (lib.Utf8.encode c) (encode_utf8_all cs) (AreBytes-encode c parts.0)
    (AreBytes-encodes cs parts.1)

-- ---- the escapes

glyph_is_hex : (d : ℕ) → d < 16 → is_hex (digit_glyph true d) ≡ true
glyph_is_hex d lt = grind (arith, nat_tests)

plain_is_visible : (b : ℕ) → is_plain b ≡ true → (is_visible b ≡ true) × ((b == 37) ≡ false)
plain_is_visible b e = (grind (arith, nat_tests), grind (arith, nat_tests))

spelled-step : (b : ℕ) (rest : List ℕ) (plain : Bool)
    → is_plain b ≡ plain
    → is_spelled 0 (cond plain (b ∷ []) (percent_encode_byte b) ++ rest) ≡ is_spelled 0 rest
unfolding percent_encode_byte
spelled-step b rest true e = let v = plain_is_visible b e in rw (v.1, v.0) refl
spelled-step b rest false e =
    rw (glyph_is_hex (b / 16 % 16) (omega arith), glyph_is_hex (b % 16) (omega arith)) refl

escaped_spelled : (bs : List ℕ) → is_spelled 0 (flat_map escaped_byte bs) ≡ true
escaped_spelled [] = refl
escaped_spelled (b ∷ bs) =
    spelled-step b (flat_map escaped_byte bs) (is_plain b) refl ∙ escaped_spelled bs

decode-step : (b : ℕ) (rest : List ℕ) (plain : Bool)
    → is_plain b ≡ plain → b < 256
    → percent_decode (cond plain (b ∷ []) (percent_encode_byte b) ++ rest) ≡ b ∷ percent_decode rest
decode-step b rest true e lt = percent_decode_not_percent b rest (grind (arith, nat_tests))
decode-step b rest false e lt = percent_decode-percent_encode_byte b rest lt

escaped_decoded : (bs : List ℕ) → AreBytes bs → percent_decode (flat_map escaped_byte bs) ≡ bs
escaped_decoded [] h = percent_decode-nil
escaped_decoded (b ∷ bs) h =
    decode-step b (flat_map escaped_byte bs) (is_plain b) refl h.0
    ∙ ap (λ (t : List ℕ). b ∷ t) (escaped_decoded bs h.1)

pub text_again : (cs : List ℕ) → IsText cs → text_of (escaped cs) ≡ Some cs
unfolding text_of escaped
text_again cs h =
    let bytes = encode_utf8_all cs in
    let utf8 : is_utf8 bytes ≡ true = is_utf8-from_IsUtf8 bytes (cs, (h.scalars, refl)) in
    rw (
      escaped_spelled bytes,
      escaped_decoded bytes (AreBytes-encodes cs h.scalars),
      utf8,
      chars-encodes cs h.scalars,
      h.short,
    ) refl

-- ---- what is read

hex_is_visible : (b : ℕ) → is_hex b ≡ true → is_visible b ≡ true
hex_is_visible b e = grind (arith, nat_tests)

chosen : (b x y : Bool) → cond b x y ≡ true → ((b ≡ true) × (x ≡ true)) ⊎ ((b ≡ false) × (y ≡ true))
chosen true x y e = inl (refl, e)
chosen false x y e = inr (refl, e)

spelled_visible : (due : ℕ) (bs : List ℕ) → is_spelled due bs ≡ true → AreVisible bs
spelled_visible due [] e = tt
spelled_visible zero (b ∷ bs) e =
    elim (chosen (b == 37) (is_spelled 2 bs) (is_visible b && is_spelled 0 bs) e) [
      | inl h ↦ (grind (arith, nat_tests, h.0), spelled_visible 2 bs h.1)
      | inr h ↦ let parts = and_parts (is_visible b) (is_spelled 0 bs) h.1 in
          (parts.0, spelled_visible 0 bs parts.1)
    ]
spelled_visible (suc due) (b ∷ bs) e =
    let parts = and_parts (is_hex b) (is_spelled due bs) e in
    (hex_is_visible b parts.0, spelled_visible due bs parts.1)

if_some : {A : Type 0} (b : Bool) (x : Option A) (y : A)
    → cond b x None ≡ Some y → (b ≡ true) × (x ≡ Some y)
if_some true x y e = (refl, e)
if_some false x y e = absurd cc

some_is : (x y : List ℕ) → Some x ≡ Some y → x ≡ y
some_is x y e = cc

-- ---- a word that is read is a spelling

hex_is_digit : (b : ℕ) → is_hex b ≡ true → is_digit b 16 ≡ true
hex_is_digit b e = grind (arith, nat_tests)

decode_escape : (mark high low : ℕ) (rest : List ℕ)
    → mark ≡ 37 → is_hex high ≡ true → is_hex low ≡ true
    → percent_decode (mark ∷ high ∷ low ∷ rest)
    ≡ (16 * digit_value high + digit_value low) ∷ percent_decode rest
decode_escape mark high low rest m h l =
    percent_decode_escape mark high low rest m (grind (arith, nat_tests, hex_is_digit high h))
    (grind (arith, nat_tests, hex_is_digit low l))

plain_step : (b : ℕ) (bs : List ℕ) → (b == 37) ≡ false → is_visible b ≡ true
    → SpellsBytes bs (percent_decode bs) → SpellsBytes (b ∷ bs) (percent_decode (b ∷ bs))
plain_step b bs other visible more =
    rw (percent_decode_not_percent b bs (grind (arith, nat_tests)))
    (b ∷ [], bs, refl, (rw (visible, other) refl, refl), more)

escape_step : (mark high low : ℕ) (rest : List ℕ)
    → mark ≡ 37 → is_hex high ≡ true → is_hex low ≡ true
    → SpellsBytes rest (percent_decode rest)
    → SpellsBytes (mark ∷ high ∷ low ∷ rest) (percent_decode (mark ∷ high ∷ low ∷ rest))
escape_step mark high low rest m h l more =
    rw (decode_escape mark high low rest m h l)
    (mark ∷ high ∷ low ∷ [], rest, refl, (m, h, l, refl), more)

is_mark : (b : ℕ) → (b == 37) ≡ true → b ≡ 37
is_mark b e = grind (arith, nat_tests)

bytes_only : (bs : List ℕ) → is_spelled 0 bs ≡ true → SpellsBytes bs (percent_decode bs)
bytes_only [] e = rw percent_decode-nil refl
bytes_only (b ∷ []) e =
    elim (chosen (b == 37) (is_spelled 2 []) (is_visible b && true) e) [
      | inl h ↦ absurd cc
      | inr h ↦ plain_step b [] h.0 (and_parts (is_visible b) true h.1).0 (bytes_only [] refl)
    ]
bytes_only (b ∷ c ∷ []) e =
    elim (chosen (b == 37) (is_spelled 2 (c ∷ [])) (is_visible b && is_spelled 0 (c ∷ [])) e) [
      | inl h ↦ let due = (and_parts (is_hex c) false h.1).1 in absurd cc
      | inr h ↦ let parts = and_parts (is_visible b) (is_spelled 0 (c ∷ [])) h.1 in
          plain_step b (c ∷ []) h.0 parts.0 (bytes_only (c ∷ []) parts.1)
    ]
bytes_only (b ∷ c ∷ d ∷ rest) e =
    elim (chosen (b == 37) (is_spelled 2 (c ∷ d ∷ rest))
    (is_visible b && is_spelled 0 (c ∷ d ∷ rest)) e) [
      | inl h ↦
          let high = and_parts (is_hex c) (is_spelled 1 (d ∷ rest)) h.1 in
          let low = and_parts (is_hex d) (is_spelled 0 rest) high.1 in
          escape_step b c d rest (is_mark b h.0) high.0 low.0 (bytes_only rest low.1)
      | inr h ↦
          let parts = and_parts (is_visible b) (is_spelled 0 (c ∷ d ∷ rest)) h.1 in
          plain_step b (c ∷ d ∷ rest) h.0 parts.0 (bytes_only (c ∷ d ∷ rest) parts.1)
    ]

-- what a word that is read tells
record Read (word text : List ℕ) : Type 0 where
  pub body : List ℕ
  pub marked : word ≡ 61 ∷ body
  pub spelled : is_spelled 0 body ≡ true
  pub utf8 : is_utf8 (percent_decode body) ≡ true
  pub text_is : chars (percent_decode body) ≡ text
  pub short : is_short text ≡ true

read_parts : (word text : List ℕ) → text_of word ≡ Some text → Read word text
unfolding text_of
read_parts [] text e = absurd cc
read_parts (mark ∷ body) text e =
    let first =
    if_some (mark == 61 && is_spelled 0 body) (text_of_bytes (percent_decode body)) text e in
    let marks = and_parts (mark == 61) (is_spelled 0 body) first.0 in
    let bytes = percent_decode body in
    let second =
    if_some (is_utf8 bytes && is_short (chars bytes)) (Some (chars bytes)) text first.1 in
    let tests = and_parts (is_utf8 bytes) (is_short (chars bytes)) second.0 in
    let same = some_is (chars bytes) text second.1 in
    record {
      body = body;
      marked = ap (λ (m : ℕ). m ∷ body) (grind (arith, nat_tests, marks.0));
      spelled = marks.1;
      utf8 = tests.0;
      text_is = same;
      short = subst (λ cs. is_short cs ≡ true) same tests.1;
    }

pub spells_only : (word text : List ℕ) → text_of word ≡ Some text → WordSpells word text
spells_only word text e =
    let read = read_parts word text e in
    let bytes = percent_decode read.body in
    let utf8 = IsUtf8-from_is_utf8 bytes read.utf8 in
    let scalars = subst (λ cs. all_scalars cs ≡ true) read.text_is (scalars-chars bytes utf8) in
    let encoded : bytes ≡ encode_utf8_all text =
    sym (encodes-chars bytes utf8) ∙ ap encode_utf8_all read.text_is in (
      read.body,
      read.marked,
      record { scalars = scalars; short = read.short },
      subst (SpellsBytes read.body) encoded (bytes_only read.body read.spelled),
    )

pub visible_only : (word text : List ℕ) → text_of word ≡ Some text → AreVisible word
visible_only word text e =
    let read = read_parts word text e in
    rw read.marked (refl, spelled_visible 0 read.body read.spelled)

-- ---- a spelling is read

piece_read : (piece rest : List ℕ) (byte : ℕ) (bytes : List ℕ)
    → SpellsByte piece byte → is_spelled 0 rest ≡ true
    → percent_decode rest ≡ bytes
    → (is_spelled 0 (piece ++ rest) ≡ true) × (percent_decode (piece ++ rest) ≡ byte ∷ bytes)
piece_read [] rest byte bytes s i d = absurd s
piece_read (b ∷ []) rest byte bytes s i d =
    let v = plain_is_visible b s.0 in (
      rw (v.1, v.0, i) refl,
      rw (percent_decode_not_percent b rest (grind (arith, nat_tests)), s.1, d) refl,
    )
piece_read (mark ∷ high ∷ []) rest byte bytes s i d = absurd s
piece_read (mark ∷ high ∷ low ∷ []) rest byte bytes s i d =
    (rw (s.0, s.1, s.2, i) refl, rw (decode_escape mark high low rest s.0 s.1 s.2, s.3, d) refl)
piece_read (mark ∷ high ∷ low ∷ b ∷ bs) rest byte bytes s i d = absurd s

bytes_read : (word bytes : List ℕ)
    → SpellsBytes word bytes
    → (is_spelled 0 word ≡ true) × (percent_decode word ≡ bytes)
bytes_read word [] e = (rw e refl, rw (e, percent_decode-nil) refl)
bytes_read word (byte ∷ bytes) (piece, rest, e, s, more) =
    let rest_read = bytes_read rest bytes more in
    let read = piece_read piece rest byte bytes s rest_read.0 rest_read.1 in
    (rw e read.0, rw e read.1)

pub each_spelling : (word text : List ℕ) → WordSpells word text → text_of word ≡ Some text
unfolding text_of
each_spelling word text (body, e, is_text, spelled) =
    let read = bytes_read body (encode_utf8_all text) spelled in
    let utf8 = is_utf8-from_IsUtf8 (encode_utf8_all text) (text, (is_text.scalars, refl)) in
    rw (e, read.0, read.1, utf8, chars-encodes text is_text.scalars, is_text.short) refl

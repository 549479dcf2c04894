-- What is written at the end of a file is read back.
use Rattle.std.proofs.Common.{◌≡◌, ◌<◌, ℕ, ◌+◌, ◌*◌, ◌/◌, ◌^◌, true, List, [], ◌∷◌, ◌++◌, refl, sym}
use Rattle.std.proofs.Common.{ap, ◌∙◌, subst, Some, None, arith, nat_lt, length, take, drop}
use Rattle.std.proofs.Common.{length-append, length-drop}
use Rattle.std.proofs.lemmas.Grind.{common_steps}
use mathlib.Core.List.{append-nil, append_assoc}
use Rattle.std.proofs.Math.Seq.{drop-append_seam, get_or-append_seam, take-length}
use Rattle.std.proofs.lemmas.List.{nil_from_length}
use Rattle.std.proofs.lemmas.Bool.{lt-ltb}
use Rattle.std.proofs.lemmas.Bool.Decides.{nat_tests}
use Rattle.std.specs.Char.{encode_utf8}
use Rattle.byteorder.specs.Endian.{big_bytes}
use Rattle.byteorder.specs.Numbers.{big_number-reads_back, length-bytes_high_first}
use Rattle.bstr.proofs.lemmas.EncodeLemmas.{decoded-encode}
use Rattle.vm_memory.specs.MemoryMap.{replaced, number_at}
use Rattle.glk_streams.specs.Coding.{bytes_kept, bytes_in, units_of}
use Rattle.glk_streams.specs.Coding.{unit_of, steps_of, character_at}
use Rattle.glk_streams.specs.Output.{byte_start}
use Rattle.glk_streams.specs.RoundTrip.{has_code, AreHeld, after_puts, bytes_of_characters}
use Rattle.glk_streams.specs.RoundTrip.{ReadsCharacters, StreamRoundTrip}
use Rattle.glk_streams.specs.declared.coding.Coding.{Coding}
use Rattle.glk_streams.specs.declared.coding.Coding.TheVariants.{Latin1, Utf8, Utf32}

-- a whole number of positions
abbrev pub IsWhole : Coding → List ℕ → Type 0
IsWhole c bytes = unit_of c * units_of c bytes ≡ length bytes

pub kept-held : (c : Coding) (x : ℕ) → has_code c x ≡ true → bytes_kept c x ≡ bytes_in c x
kept-held Latin1 x h = rw h refl
kept-held Utf8 x h = rw h refl
kept-held Utf32 x h = refl

length-in : (c : Coding) (x : ℕ)
    → length (bytes_in c x) ≡ unit_of c * steps_of c (length (bytes_in c x))
length-in Latin1 x = refl
length-in Utf8 x = omega arith
length-in Utf32 x = length-bytes_high_first 4 x

whole-units : (c : Coding) (bytes : List ℕ) (n : ℕ) → length bytes ≡ unit_of c * n
    → units_of c bytes ≡ n
whole-units Latin1 bytes n e = omega (arith, e)
whole-units Utf8 bytes n e = omega (arith, e)
whole-units Utf32 bytes n e = omega (arith, e)

pub units-append : (c : Coding) (bytes : List ℕ) (x : ℕ) → IsWhole c bytes
    → units_of c (bytes ++ bytes_in c x) ≡ units_of c bytes + steps_of c (length (bytes_in c x))
units-append c bytes x w =
    whole-units c (bytes ++ bytes_in c x) (units_of c bytes + steps_of c (length (bytes_in c x)))
    (sum c (units_of c bytes) (steps_of c (length (bytes_in c x))) _ _ _
    (length-append bytes (bytes_in c x)) w (length-in c x))
  where
    sum : (c : Coding) (u s whole one two : ℕ) → whole ≡ one + two → unit_of c * u ≡ one
        → two ≡ unit_of c * s
        → whole ≡ unit_of c * (u + s)
    sum Latin1 u s whole one two a b d = omega arith
    sum Utf8 u s whole one two a b d = omega arith
    sum Utf32 u s whole one two a b d = omega arith

pub whole-append : (c : Coding) (bytes : List ℕ) (x : ℕ) → IsWhole c bytes
    → IsWhole c (bytes ++ bytes_in c x)
whole-append c bytes x w =
    by c (units_of c bytes) (steps_of c (length (bytes_in c x))) _ _ _ _ (units-append c bytes x w)
    (length-append bytes (bytes_in c x)) w (length-in c x)
  where
    by : (c : Coding) (u s n whole one two : ℕ) → n ≡ u + s → whole ≡ one + two
        → unit_of c * u ≡ one → two ≡ unit_of c * s
        → unit_of c * n ≡ whole
    by Latin1 u s n whole one two f a b d = omega arith
    by Utf8 u s n whole one two f a b d = omega arith
    by Utf32 u s n whole one two f a b d = omega arith

pub start-end : (c : Coding) (bytes : List ℕ) → IsWhole c bytes
    → byte_start c bytes (units_of c bytes) ≡ length bytes
start-end Latin1 bytes w = omega arith
start-end Utf8 bytes w = omega arith
start-end Utf32 bytes w = omega (arith, w)

pub replaced-end : (bytes new : List ℕ) (at : ℕ) → at ≡ length bytes
    → replaced bytes at new ≡ bytes ++ new
replaced-end bytes new at e =
    let cut : take at bytes ≡ bytes = rw e (take-length bytes) in
    let past : drop (at + length new) bytes ≡ [] =
    nil_from_length (drop (at + length new) bytes)
    (omega (arith, e, length-drop (at + length new) bytes)) in
    rw (cut, past) (append-nil (bytes ++ new))

pub put-end : (c : Coding) (bytes : List ℕ) (x : ℕ) → IsWhole c bytes → has_code c x ≡ true
    → replaced bytes (byte_start c bytes (units_of c bytes)) (bytes_kept c x)
    ≡ bytes ++ bytes_in c x
put-end c bytes x w h =
    replaced-end bytes (bytes_kept c x) (byte_start c bytes (units_of c bytes))
    (start-end c bytes w)
    ∙ ap (λ new. bytes ++ new) (kept-held c x h)

puts-spell : (c : Coding) (bytes codes : List ℕ) → IsWhole c bytes → AreHeld c codes
    → after_puts c bytes codes ≡ bytes ++ bytes_of_characters c codes
unfolding after_puts bytes_of_characters
puts-spell c bytes [] w h = sym (append-nil bytes)
puts-spell c bytes (x ∷ xs) w h =
    ap (λ b. after_puts c b xs) (put-end c bytes x w h.0)
    ∙ puts-spell c (bytes ++ bytes_in c x) xs (whole-append c bytes x w) h.1
    ∙ append_assoc bytes (bytes_in c x) (bytes_of_characters c xs)

some-encode : (x : ℕ) → 0 < length (encode_utf8 x)
unfolding encode_utf8
some-encode x = grind (arith, nat_tests)

first-char : (c : Coding) (bytes rest : List ℕ) (x : ℕ) → IsWhole c bytes → has_code c x ≡ true
    → character_at c (bytes ++ bytes_in c x ++ rest) (units_of c bytes)
    ≡ Some (record { code = x; steps = steps_of c (length (bytes_in c x)) })
first-char Latin1 bytes rest x w h =
    let long : length (bytes ++ x ∷ rest) ≡ length bytes + length (x ∷ rest) =
    length-append bytes (x ∷ rest) in
    let inside : nat_lt (length bytes) (length (bytes ++ x ∷ rest)) ≡ true =
    lt-ltb _ _ (omega (arith, long)) in
    rw (append_assoc bytes (x ∷ []) rest, inside)
    (ap (λ (code : ℕ). Some (record { code = code; steps = 1 }))
    (get_or-append_seam bytes x rest 0))
first-char Utf8 bytes rest x w h =
    let long : length (bytes ++ (encode_utf8 x ++ rest)) ≡ length bytes + length
    (encode_utf8 x ++ rest) =
    length-append bytes (encode_utf8 x ++ rest) in
    let more : length (encode_utf8 x ++ rest) ≡ length (encode_utf8 x) + length rest =
    length-append (encode_utf8 x) rest in
    let inside : nat_lt (length bytes) (length (bytes ++ (encode_utf8 x ++ rest))) ≡ true =
    lt-ltb _ _ (omega (arith, long, more, some-encode x)) in
    rw (
      append_assoc bytes (encode_utf8 x) rest,
      inside,
      drop-append_seam bytes
          (encode_utf8 x ++ rest),
      decoded-encode x rest h,
    ) refl
first-char Utf32 bytes rest x w h =
    let new = big_bytes 4 x in
    let four : length new ≡ 4 = length-bytes_high_first 4 x in
    let long : length (bytes ++ (new ++ rest)) ≡ length bytes + length (new ++ rest) =
    length-append bytes (new ++ rest) in
    let more : length (new ++ rest) ≡ length new + length rest = length-append new rest in
    let inside : nat_lt (length bytes / 4) (length (bytes ++ (new ++ rest)) / 4) ≡ true =
    lt-ltb _ _ (omega (arith, long, more, four, w)) in
    let fits : x < 256 ^ 4 = grind (arith, common_steps, h) in
    let value : number_at 4 (bytes ++ (new ++ rest)) (4 * (length bytes / 4)) ≡ x =
    rw (w, drop-append_seam bytes (new ++ rest)) (big_number-reads_back 4 x rest fits) in
    rw (append_assoc bytes new rest, inside)
    (ap (λ (code : ℕ). Some (record { code = code; steps = 1 })) value)

none-left : (c : Coding) (bytes : List ℕ) → character_at c bytes (units_of c bytes) ≡ None
none-left Latin1 bytes = grind (arith, common_steps)
none-left Utf8 bytes = grind (arith, common_steps)
none-left Utf32 bytes = grind (arith, common_steps)

pub reads : (c : Coding) (bytes codes : List ℕ) → IsWhole c bytes → AreHeld c codes
    → ReadsCharacters c (bytes ++ bytes_of_characters c codes) (units_of c bytes) codes
unfolding bytes_of_characters
reads c bytes [] w h = rw (append-nil bytes) (none-left c bytes)
reads c bytes (x ∷ xs) w h =
    let rest = reads c (bytes ++ bytes_in c x) xs (whole-append c bytes x w) h.1 in (
      steps_of c (length (bytes_in c x)),
      rw (sym (append_assoc bytes (bytes_in c x) (bytes_of_characters c xs)))
          (first-char c bytes (bytes_of_characters c xs) x w h.0),
      subst (λ b. ReadsCharacters c b (units_of c bytes + steps_of c (length (bytes_in c x))) xs)
          (append_assoc bytes (bytes_in c x) (bytes_of_characters c xs))
          (subst (λ p. ReadsCharacters c ((bytes ++ bytes_in c x) ++ bytes_of_characters c xs) p xs)
          (units-append c bytes x w) rest),
    )

pub empty-whole : (c : Coding) → IsWhole c []
empty-whole Latin1 = refl
empty-whole Utf8 = refl
empty-whole Utf32 = refl

pub empty-units : (c : Coding) → units_of c [] ≡ 0
empty-units Latin1 = refl
empty-units Utf8 = refl
empty-units Utf32 = refl

pub round_trip : StreamRoundTrip
round_trip c codes h =
    rw (puts-spell c [] codes (empty-whole c) h)
    (subst (λ p. ReadsCharacters c (bytes_of_characters c codes) p codes) (empty-units c)
    (reads c [] codes (empty-whole c) h))

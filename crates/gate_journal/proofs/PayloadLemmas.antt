-- Payloads and their commands, both ways.
use Rattle.std.proofs.Common.{◌≡◌, inl, inr, ℕ, ◌+◌, ◌^◌, ◌<◌, ◌≤◌, List, [], ◌∷◌}
use Rattle.std.proofs.Common.{◌++◌, length, get_or, take, drop, true, refl, sym}
use Rattle.std.proofs.Common.{◌∙◌, ap, subst, arith, length-append, append_assoc}
use Rattle.std.specs.Prelude.{Bool, false, ◌&&◌, ◌==◌, if◌then◌else◌}
use Rattle.std.specs.Prelude.{Option, Some, None, MatchOption}
use Rattle.std.specs.Int.{w16, w32, w64, to_be_bytes, bytes_high_first}
use Rattle.std.specs.Str.{chars, encode_utf8_all, is_utf8}
use Rattle.std.proofs.lemmas.Str.{chars-encodes, encodes-chars, scalars-chars}
use Rattle.std.proofs.lemmas.Str.{IsUtf8-from_is_utf8, is_utf8-from_IsUtf8}
use Rattle.std.proofs.lemmas.Nat.{be_bytes_2, be_bytes_4, be_bytes_8}
use Rattle.std.proofs.lemmas.List.{take_at, drop_at, append-nil, length-take, length-drop}
use Rattle.std.proofs.lemmas.List.{get_or-take, get_or-drop, get_or_past, take-append-drop}
use Rattle.std.proofs.lemmas.List.{drop-drop, take_all, drop_more, nil_from_length}
use Rattle.std.proofs.lemmas.Bool.{cases_lt}
use Rattle.byteorder.specs.Endian.{big_number}
use Rattle.byteorder.specs.Numbers.{big_number-reads_back, big_from-take}
use Rattle.std.proofs.lemmas.Bool.Decides.{nat_tests}
use Rattle.line_words.specs.Keycode.{is_code}
use Rattle.line_words.specs.Spelling.{IsTerminator}
use Rattle.story_text.specs.Text.{IsText, is_short}
use Rattle.story_text.specs.Reading.{text_of_bytes}
use Rattle.gate_journal.specs.declared.command.Command.{Command}
use Rattle.gate_journal.specs.declared.command.Command.TheVariants.{Open, Line, Char, File, Close}
use Rattle.gate_journal.specs.declared.command.Command.TheVariants.{Size}
use Rattle.gate_journal.specs.Command.{IsCommand}
use Rattle.gate_journal.specs.Rows.{command_kind, payload_of}
use Rattle.gate_journal.specs.Payload.{IsPayload, IsNoPayload, open_in, line_in, char_in, file_in}
use Rattle.gate_journal.specs.Payload.{screen_in}

-- the last number is read again
last : (k n : ℕ) → n < 256 ^ k → big_number k (bytes_high_first k n) ≡ n
last k n lt =
    ap (λ (l : List ℕ). big_number k l) (sym (append-nil (bytes_high_first k n)))
    ∙ big_number-reads_back k n [] lt

-- the ranges of codes and keys
code_small : (code : ℕ) → is_code code ≡ true → code < 4294967296
code_small code is = grind (arith, nat_tests)

term_small : (term : ℕ) → IsTerminator term → term < 4294967296
term_small term is = grind (arith, nat_tests)

-- the one command of a payload
pub only_char : (p : List ℕ) (c : Command) → IsPayload 3 p c → (length p ≡ 8) × (c ≡ char_in p)
only_char p (Char win code) is =
    subst (λ (l : List ℕ). (length l ≡ 8) × (Char win code ≡ char_in l)) is.bytes (
      refl,
      cc (
        big_number-reads_back 4 win (to_be_bytes w32 code) (omega arith),
        last 4 code (code_small code is.ranges.1),
      ),
    )
only_char p c is = absurd (omega (arith, is.number))

pub only_file : (p : List ℕ) (c : Command) → IsPayload 4 p c → c ≡ file_in p
only_file p (File name) is =
    ap (λ (t : List ℕ). File t) (sym (chars-encodes name is.ranges.scalars))
    ∙ ap (λ (l : List ℕ). File (chars l)) is.bytes
only_file p c is = absurd (omega (arith, is.number))

pub only_close : (p : List ℕ) (c : Command) → IsPayload 5 p c → (p ≡ []) × (c ≡ Close)
only_close p Close is = (sym is.bytes, refl)
only_close p c is = absurd (omega (arith, is.number))

pub only_size : (p : List ℕ) (c : Command) → IsPayload 6 p c → (length p ≡ 2) × (c ≡ screen_in p)
only_size p (Size cols rows) is =
    subst (λ (l : List ℕ). (length l ≡ 2) × (Size cols rows ≡ screen_in l)) is.bytes (refl, refl)
only_size p c is = absurd (omega (arith, is.number))

pub only_line : (p : List ℕ) (c : Command) → IsPayload 2 p c → (8 ≤ length p) × (c ≡ line_in p)
only_line p (Line win term text) is =
    subst (λ (l : List ℕ). (8 ≤ length l) × (Line win term text ≡ line_in l)) is.bytes (
      omega arith,
      cc (
        big_number-reads_back 4 win (to_be_bytes w32 term ++ encode_utf8_all text) (omega arith),
        big_number-reads_back 4 term (encode_utf8_all text) (term_small term is.ranges.1),
        chars-encodes text is.ranges.2.scalars,
      ),
    )
only_line p c is = absurd (omega (arith, is.number))

-- the key of an OPEN's payload, and what stands behind it
abbrev pub key_in : List ℕ → List ℕ
key_in p = take (get_or p 0 0) (drop 1 p)

abbrev pub after_in : List ℕ → List ℕ
after_in p = drop (get_or p 0 0) (drop 1 p)

pub only_open : (p : List ℕ) (c : Command)
    → IsPayload 1 p c
    → (length p ≡ get_or p 0 0 + 53) × (c ≡ open_in (key_in p) (after_in p))
only_open p (Open key story digest seed cols rows budget) is =
    subst (λ (l : List ℕ). (length l ≡ get_or l 0 0 + 53)
    × (Open key story digest seed cols rows budget ≡ open_in (key_in l) (after_in l))) is.bytes (
      omega (arith, length-append key after, length-append digest past, is.ranges.2),
      rw (take_at key after (length key) refl, drop_at key after (length key) refl) read,
    )
  where
    past : List ℕ
    past = to_be_bytes w64 seed ++ (cols ∷ rows ∷ to_be_bytes w64 budget)

    after : List ℕ
    after = to_be_bytes w16 story ++ (digest ++ past)

    at : drop 34 after ≡ past
    at = drop_at digest past 32 is.ranges.2

    size_at : (i : ℕ) → get_or after (34 + i) 0 ≡ get_or past i 0
    size_at i = sym (get_or-drop 34 after i 0) ∙ ap (λ (l : List ℕ). get_or l i 0) at

    budget_at : drop 44 after ≡ to_be_bytes w64 budget
    budget_at = sym (drop-drop 10 34 after) ∙ ap (λ (l : List ℕ). drop 10 l) at

    read : Open key story digest seed cols rows budget ≡ open_in key after
    read =
        cc (
          big_number-reads_back 2 story (digest ++ past) (omega arith),
          take_at digest past 32 is.ranges.2,
          ap (λ (l : List ℕ). big_number 8 l) at
              ∙ big_number-reads_back 8 seed (cols ∷ rows ∷ to_be_bytes w64 budget) (omega arith),
          size_at 8,
          size_at 9,
          ap (λ (l : List ℕ). big_number 8 l) budget_at ∙ last 8 budget (omega arith),
        )
only_open p c is = absurd (omega (arith, is.number))

-- bytes of a number are those of what they are read as
abbrev pub AreBytes : List ℕ → Type 0
AreBytes p = (i : ℕ) → get_or p i 0 < 256

pub bytes_drop : (k : ℕ) (p : List ℕ) → AreBytes p → AreBytes (drop k p)
bytes_drop k p are i = omega (arith, get_or-drop k p i 0, are (k + i))

pub bytes_take : (k : ℕ) (p : List ℕ) → AreBytes p → AreBytes (take k p)
bytes_take k p are i = elim (cases_lt i k) [
  | inl lt ↦ omega (arith, get_or-take k p i 0 lt, are i)
  | inr past ↦ omega (arith, get_or_past (take k p) i 0 (omega (arith, length-take k p)))
]

-- a number that was read at a place is written again
again_4 : (at : ℕ) (p : List ℕ)
    → AreBytes p → at + 4 ≤ length p
    → to_be_bytes w32 (big_number 4 (drop at p)) ≡ take 4 (drop at p)
again_4 at p are le =
    be_bytes_4 (take 4 (drop at p)) (big_number 4 (drop at p))
    (omega (arith, length-take 4 (drop at p), length-drop at p))
    (bytes_take 4 (drop at p) (bytes_drop at p are))
    (sym (big_from-take 0 4 4 (drop at p) (omega arith)) ∙ (omega arith))

again_8 : (at : ℕ) (p : List ℕ)
    → AreBytes p → at + 8 ≤ length p
    → to_be_bytes w64 (big_number 8 (drop at p)) ≡ take 8 (drop at p)
again_8 at p are le =
    be_bytes_8 (take 8 (drop at p)) (big_number 8 (drop at p))
    (omega (arith, length-take 8 (drop at p), length-drop at p))
    (bytes_take 8 (drop at p) (bytes_drop at p are))
    (sym (big_from-take 0 8 8 (drop at p) (omega arith)) ∙ (omega arith))

again_2 : (p : List ℕ) → AreBytes p → 2 ≤ length p → to_be_bytes w16 (big_number 2 p) ≡ take 2 p
again_2 p are le =
    be_bytes_2 (take 2 p) (big_number 2 p) (omega (arith, length-take 2 p, le))
    (bytes_take 2 p are) (sym (big_from-take 0 2 2 p (omega arith)) ∙ (omega arith))

-- a piece at a place, and what stands behind it
pub seam : (k at : ℕ) (p : List ℕ) {x y : List ℕ}
    → x ≡ take k (drop at p) → y ≡ drop (at + k) p
    → x ++ y ≡ drop at p
seam k at p front rest = cc (take-append-drop k (drop at p), drop-drop k at p)

-- the last piece
end_of : (k at : ℕ) (p : List ℕ) → length p ≡ at + k → take k (drop at p) ≡ drop at p
end_of k at p is = take_all k (drop at p) (omega (arith, is, length-drop at p))

pub spells_char : (p : List ℕ) → AreBytes p → length p ≡ 8 → payload_of (char_in p) ≡ p
spells_char p are is =
    seam 4 0 p (again_4 0 p are (omega arith)) (again_4 4 p are (omega arith) ∙ end_of 4 4 p is)

pub spells_line : (p : List ℕ)
    → AreBytes p → 8 ≤ length p → is_utf8 (drop 8 p) ≡ true
    → payload_of (line_in p) ≡ p
spells_line p are le utf8 =
    seam 4 0 p (again_4 0 p are (omega arith)) (seam 4 4 p (again_4 4 p are le)
    (encodes-chars (drop 8 p) (IsUtf8-from_is_utf8 (drop 8 p) utf8)))

pub spells_size : (p : List ℕ) → length p ≡ 2 → payload_of (screen_in p) ≡ p
spells_size p is =
    sym (drop_more p 0 0 (omega (arith, is))
    ∙ ap (λ (l : List ℕ). get_or p 0 0 ∷ l)
    (drop_more p 1 0 (omega (arith, is)) ∙ ap (λ (l : List ℕ). get_or p 1 0 ∷ l) rest))
  where
    rest : drop 2 p ≡ []
    rest = nil_from_length (drop 2 p) (omega (arith, is, length-drop 2 p))

pub spells_file : (p : List ℕ) → is_utf8 p ≡ true → payload_of (file_in p) ≡ p
spells_file p utf8 = encodes-chars p (IsUtf8-from_is_utf8 p utf8)

pub spells_open :
    (key after : List ℕ) → AreBytes after → length after ≡ 52
    → payload_of (open_in key after) ≡ length key ∷ key ++ after
spells_open key after are is =
    ap (λ (l : List ℕ). length key ∷ key ++ l)
    (seam 2 0 after (again_2 after are (omega arith)) (seam 32 2 after refl
    (seam 8 34 after (again_8 34 after are (omega arith)) sizes)))
  where
    sizes : get_or after 42 0 ∷ get_or after 43 0 ∷ to_be_bytes w64 (big_number 8 (drop 44 after))
        ≡ drop 42 after
    sizes =
        cc (
          drop_more after 42 0 (omega arith),
          drop_more after 43 0 (omega arith),
          again_8 44 after are (omega arith),
          end_of 8 44 after is,
        )

-- the one command that a payload of this kind may have
abbrev command_in : ℕ → List ℕ → Command
command_in kind p =
    if kind == 1 then open_in (key_in p) (after_in p)
    else if kind == 2 then line_in p
    else if kind == 3 then char_in p
    else if kind == 4 then file_in p
    else if kind == 6 then screen_in p
    else Close

only_command : (p : List ℕ) (c : Command)
    → IsPayload (command_kind c) p c
    → c ≡ command_in (command_kind c) p
only_command p (Open key story digest seed cols rows budget) is = (only_open p _ is).1
only_command p (Line win term text) is = (only_line p _ is).1
only_command p (Char win code) is = (only_char p _ is).1
only_command p (File name) is = only_file p _ is
only_command p Close is = refl
only_command p (Size cols rows) is = (only_size p _ is).1

-- commands of one kind with one payload are one
pub same_command : (c d : Command)
    → IsCommand c → IsCommand d
    → command_kind c ≡ command_kind d
    → payload_of c ≡ payload_of d → c ≡ d
same_command c d first second kinds bytes =
    only_command (payload_of d) c (record { ranges = first; number = refl; bytes = bytes })
    ∙ ap (λ (k : ℕ). command_in k (payload_of d)) kinds
    ∙ sym (only_command (payload_of d) d (record { ranges = second; number = refl; bytes = refl }))

-- what reading a text gives
pub text_found : (bs text : List ℕ)
    → text_of_bytes bs ≡ Some text
    → (is_utf8 bs ≡ true) × IsText text × (text ≡ chars bs)
text_found bs text some = found (is_utf8 bs) (is_short (chars bs)) refl refl some
  where
    found :
        (u s : Bool) → is_utf8 bs ≡ u → is_short (chars bs) ≡ s
        → (if u && s then Some (chars bs) else None) ≡ Some text
        → (is_utf8 bs ≡ true) × IsText text × (text ≡ chars bs)
    found true true utf8 short is =
        let same : text ≡ chars bs = cc in (
          utf8,
          rw same (record {
            scalars = scalars-chars bs (IsUtf8-from_is_utf8 bs utf8);
            short = short;
          }),
          same,
        )
    found true false utf8 long is = absurd (cc)
    found false s other short is = absurd (cc)

pub text_missing : (bs text : List ℕ)
    → text_of_bytes bs ≡ None → IsText text
    → encode_utf8_all text ≡ bs → ⊥
text_missing bs text none is bytes =
    let utf8 : is_utf8 bs ≡ true = is_utf8-from_IsUtf8 bs (text, (is.scalars, bytes)) in
    let same : chars bs ≡ text = ap chars (sym bytes) ∙ chars-encodes text is.scalars in
    let short : is_short (chars bs) ≡ true = ap is_short same ∙ is.short in
    let never = rw (utf8, short) at none in
    cc

-- the text of a LINE, and of a FILE
pub line_text : (p : List ℕ) (c : Command)
    → IsPayload 2 p c
    → (text : List ℕ) × IsText text × (encode_utf8_all text ≡ drop 8 p)
line_text p (Line win term text) is =
    (text, is.ranges.2, ap (λ (l : List ℕ). drop 8 l) is.bytes)
line_text p c is = absurd (omega (arith, is.number))

pub file_text : (p : List ℕ) (c : Command)
    → IsPayload 4 p c
    → (text : List ℕ) × IsText text × (encode_utf8_all text ≡ p)
file_text p (File name) is = (name, is.ranges, is.bytes)
file_text p c is = absurd (omega (arith, is.number))

-- a reader that checks the one candidate
pub checked_is :
    (kind : ℕ) (p : List ℕ) (x y : Command) (r : Option Command)
    → command_kind x ≡ kind → payload_of x ≡ p
    → ((c : Command) → IsPayload kind p c → c ≡ x)
    → y ≡ x → MatchOption r (IsCommand y → ⊥) (λ c. (c ≡ y) × IsCommand c)
    → MatchOption r (IsNoPayload kind p) (IsPayload kind p)
checked_is kind p x y None number bytes only same said =
    λ c is. said (subst (λ (k : Command). IsCommand k) (only c is ∙ sym same) is.ranges)
checked_is kind p x y (Some c) number bytes only same said = record {
  ranges = said.1;
  number = ap command_kind (said.0 ∙ same) ∙ number;
  bytes = ap payload_of (said.0 ∙ same) ∙ bytes;
}

pub spells_whole : (p : List ℕ)
    → AreBytes p → length p ≡ get_or p 0 0 + 53
    → payload_of (open_in (key_in p) (after_in p)) ≡ p
spells_whole p are size =
    spells_open (key_in p) (after_in p) (bytes_drop (get_or p 0 0) (drop 1 p) (bytes_drop 1 p are))
    (omega (arith, size, length-drop 1 p, length-drop (get_or p 0 0) (drop 1 p)))
    ∙ ap (λ (n : ℕ). n ∷ (key_in p ++ after_in p))
    (omega (arith, size, length-take (get_or p 0 0) (drop 1 p), length-drop 1 p))
    ∙ ap (λ (l : List ℕ). get_or p 0 0 ∷ l) (take-append-drop (get_or p 0 0) (drop 1 p))
    ∙ sym (drop_more p 0 0 (omega (arith, size)))

-- seven pieces in a row
pub seven : (x a b c d e f g : List ℕ)
    → ((((((x ++ a) ++ b) ++ c) ++ d) ++ e) ++ f) ++ g
    ≡ x ++ (a ++ (b ++ (c ++ (d ++ (e ++ (f ++ g))))))
seven x a b c d e f g = simp append_assoc

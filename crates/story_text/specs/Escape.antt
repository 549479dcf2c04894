-- The escaped spelling of a text in a line (own).
use Rattle.std.specs.Prelude.{◌≡◌, ℕ, ◌+◌, ◌*◌, Bool, true, not, ◌&&◌, ◌||◌}
use Rattle.std.specs.Prelude.{◌==◌, nat_le, if◌then◌else◌, List, [], ◌∷◌, ◌++◌}
use Rattle.std.specs.Char.{digit_value}
use Rattle.std.specs.List.{flat_map}
use Rattle.std.specs.Str.{encode_utf8_all}
use Rattle.percent_encoding.specs.Percent.{percent_encode_byte}
use Rattle.percent_encoding.specs.declared.ascii_set.AsciiSet.{AsciiSet}
use Rattle.percent_encoding.specs.AsciiSet.{should_percent_encode}
use Rattle.story_text.specs.Text.{IsText}

-- a byte of a text as it stands in a line
abbrev pub is_visible : ℕ → Bool
is_visible b = nat_le 0x21 b && nat_le b 0x7E

-- a hexadecimal digit, of either case
abbrev pub is_hex : ℕ → Bool
is_hex b =
    (nat_le 48 b && nat_le b 57) || ((nat_le 65 b && nat_le b 70) || (nat_le 97 b && nat_le b 102))

-- a byte that may stand for itself: visible, and not `%`
abbrev pub is_plain : ℕ → Bool
is_plain b = is_visible b && not (b == 37)

-- a piece spells a byte: by itself where it is plain, or by `%` and two hexadecimal digits
abbrev pub SpellsByte : List ℕ → ℕ → Type 0
SpellsByte (b ∷ []) byte = (is_plain b ≡ true) × (byte ≡ b)
SpellsByte (mark ∷ high ∷ low ∷ []) byte =
    (mark ≡ 37) × (is_hex high ≡ true) × (is_hex low ≡ true)
    × (byte ≡ 16 * digit_value high + digit_value low)
SpellsByte _ byte = ⊥

-- the bytes are cut into pieces that spell the bytes of the second list, one by one
abbrev pub SpellsBytes : List ℕ → List ℕ → Type 0
SpellsBytes word [] = word ≡ []
SpellsBytes word (byte ∷ bytes) =
    (piece : List ℕ) × (rest : List ℕ)
    × (word ≡ piece ++ rest) × SpellsByte piece byte × SpellsBytes rest bytes

-- a word spells a text: `=`, and then the bytes of its UTF-8
abbrev pub WordSpells : List ℕ → List ℕ → Type 0
WordSpells word text =
    (body : List ℕ) × (word ≡ 61 ∷ body) × IsText text
    × SpellsBytes body (encode_utf8_all text)

-- a byte as it is written: itself where it is plain, and else with two upper-case digits
abbrev pub escaped_byte : ℕ → List ℕ
escaped_byte b = if is_plain b then b ∷ [] else percent_encode_byte b

-- the one spelling that is written
unfoldable pub escaped : List ℕ → List ℕ
escaped cs = 61 ∷ flat_map escaped_byte (encode_utf8_all cs)

-- the set has the bytes that aren't plain
abbrev pub Escapes : AsciiSet → Type 0
Escapes set = (b : ℕ) → should_percent_encode set b ≡ not (is_plain b)

-- The text that a word spells, by reading it from left to right (own).
use Rattle.std.specs.Prelude.{◌≡◌, ℕ, zero, suc, Bool, ◌&&◌, ◌==◌, if◌then◌else◌, List, [], ◌∷◌}
use Rattle.std.specs.Prelude.{Option, Some, None, Result, Ok, Err}
use Rattle.std.specs.Str.{chars, is_utf8}
use Rattle.percent_encoding.specs.Percent.{percent_decode}
use Rattle.story_text.specs.declared.fault.TextFault.{TextFault}
use Rattle.story_text.specs.declared.fault.TextFault.TheVariants.{BadText, NoMemory}
use Rattle.story_text.specs.Text.{is_short}
use Rattle.story_text.specs.Escape.{is_visible, is_hex}

-- visible bytes, and two digits after each `%`; so many digits are due first
abbrev pub is_spelled : ℕ → List ℕ → Bool
is_spelled due [] = due == 0
is_spelled zero (b ∷ bs) =
    if b == 37 then is_spelled 2 bs else (is_visible b && is_spelled 0 bs)
is_spelled (suc due) (b ∷ bs) = is_hex b && is_spelled due bs

-- the text of these bytes, if they are UTF-8 of one that a line may hold
abbrev pub text_of_bytes : List ℕ → Option (List ℕ)
text_of_bytes bytes =
    if is_utf8 bytes && is_short (chars bytes) then Some (chars bytes) else None

-- the text that a word spells, if it spells one
unfoldable pub text_of : List ℕ → Option (List ℕ)
text_of [] = None
text_of (mark ∷ body) =
    if mark == 61 && is_spelled 0 body then text_of_bytes (percent_decode body) else None

-- a reader gave what the word spells, unless memory ran out
abbrev pub ReadsText : Option (List ℕ) → Result (List ℕ) TextFault → Type 0
ReadsText spelled (Ok text) = spelled ≡ Some text
ReadsText spelled (Err BadText) = spelled ≡ None
ReadsText spelled (Err NoMemory) = Unit {0}

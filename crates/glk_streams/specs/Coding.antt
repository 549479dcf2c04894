-- How a stream keeps characters as bytes (Glk 0.7.5, "Streams"; own: the three codings).
use Rattle.std.specs.Prelude.{ℕ, ◌*◌, ◌/◌, nat_lt, if◌then◌else◌, Bool, List, []}
use Rattle.std.specs.Prelude.{◌∷◌, length, drop, slice_index, Option, Some, None}
use lib.Utf8.{scalar}
use Rattle.std.specs.Char.{encode_utf8}
use Rattle.byteorder.specs.Endian.{big_bytes}
use Rattle.bstr.specs.Utf8.{decoded}
use Rattle.vm_memory.specs.MemoryMap.{number_at}
use Rattle.glk_streams.specs.Files.{has_text_mode}
use Rattle.glk_streams.specs.declared.stream.Target.{Target}
use Rattle.glk_streams.specs.declared.stream.Target.TheVariants.{Window, Memory, File}
use Rattle.glk_streams.specs.declared.coding.Coding.{Coding}
use Rattle.glk_streams.specs.declared.coding.Reading.{Reading}
use Rattle.glk_streams.specs.declared.coding.Coding.TheVariants.{Latin1, Utf8, Utf32}

-- a plain stream has a byte for each character; a Unicode stream is UTF-8 in a file of text mode,
-- and has four bytes for each character else
abbrev pub wide_coding : Target → Coding
wide_coding (Window win) = Utf32
wide_coding (Memory buf len) = Utf32
wide_coding (File usage name) = if has_text_mode usage then Utf8 else Utf32

abbrev pub coding_of : Bool → Target → Coding
coding_of unicode target = if unicode then wide_coding target else Latin1

-- the character that is kept for a code: `?` where the coding has no such character
abbrev pub kept_code : Coding → ℕ → ℕ
kept_code Latin1 code = if nat_lt code 256 then code else 0x3F
kept_code Utf8 code = if scalar code then code else 0x3F
kept_code Utf32 code = code

-- a character's bytes
abbrev pub bytes_in : Coding → ℕ → List ℕ
bytes_in Latin1 code = code ∷ []
bytes_in Utf8 code = encode_utf8 code
bytes_in Utf32 code = big_bytes 4 code

-- the bytes that are kept for a code
abbrev pub bytes_kept : Coding → ℕ → List ℕ
bytes_kept c code = bytes_in c (kept_code c code)

-- how many bytes a position counts: a character's, but one in UTF-8
abbrev pub unit_of : Coding → ℕ
unit_of Latin1 = 1
unit_of Utf8 = 1
unit_of Utf32 = 4

-- how many positions the bytes of a file have; fewer than four bytes left of four are none
abbrev pub units_of : Coding → List ℕ → ℕ
units_of Latin1 bytes = length bytes
units_of Utf8 bytes = length bytes
units_of Utf32 bytes = length bytes / 4

-- how many positions a character of so many bytes takes
abbrev pub steps_of : Coding → ℕ → ℕ
steps_of Latin1 n = 1
steps_of Utf8 n = n
steps_of Utf32 n = 1

-- the first character of some bytes in UTF-8, or `?` for one byte where they begin with none
abbrev pub reading_of : Option ℕ → ℕ → Reading
reading_of None size = record { code = 0x3F; steps = 1 }
reading_of (Some c) size = record { code = c; steps = size }

abbrev pub first_reading : List ℕ → Reading
first_reading bytes = reading_of (decoded bytes).char (decoded bytes).size

-- the character at a position of a file's bytes; none at their end
abbrev pub character_at : Coding → List ℕ → ℕ → Option Reading
character_at Latin1 bytes place =
    if nat_lt place (length bytes)
    then Some (record { code = slice_index bytes place; steps = 1 }) else None
character_at Utf8 bytes place =
    if nat_lt place (length bytes) then Some (first_reading (drop place bytes)) else None
character_at Utf32 bytes place =
    if nat_lt place (length bytes / 4)
    then Some (record { code = number_at 4 bytes (4 * place); steps = 1 }) else None

-- Values that the profile of Glk gives, so that a wrong rule in the definitions does not check.
use Rattle.std.proofs.Common.{◌≡◌, [], ◌∷◌, refl}
use Rattle.std.specs.Char.{encode_utf8}
use Rattle.std.specs.Prelude.{codes}
use Rattle.glk_streams.specs.Coding.{bytes_kept, units_of}
use Rattle.glk_streams.specs.FileRefs.{style_of}
use Rattle.glk_streams.specs.Files.{file_kind}
use Rattle.glk_streams.specs.Names.{cleaned, before_period}
use Rattle.glk_streams.specs.Output.{address_of}
use Rattle.glk_streams.specs.Position.{away}
use Rattle.glk_streams.specs.declared.coding.Coding.TheVariants.{Latin1, Utf8, Utf32}
use Rattle.glk_streams.specs.declared.file.TheConstants.{MAX_FILES, MAX_FILE_BYTES}
use Rattle.glk_streams.specs.declared.fileref.TheConstants.{MAX_REFS}
use Rattle.glk_streams.specs.declared.stream.TheConstants.{MAX_STREAMS}

-- the limits of a session: streams, file references, files, and their bytes in sum
pub limits : MAX_STREAMS ∷ MAX_REFS ∷ MAX_FILES ∷ MAX_FILE_BYTES ∷ [] ≡ 64 ∷ 64 ∷ 64 ∷ 0x100000 ∷ []
limits = refl

-- behind the last word of all addresses stands the first
pub addresses_are_modulo_2_32 : address_of Utf32 0xFFFFFFFC 1 ≡ 0
addresses_are_modulo_2_32 = refl

pub a_slash_and_an_ending_go : cleaned (codes "a/b.c") ≡ codes "ab"
unfolding before_period
a_slash_and_an_ending_go = refl

pub periods_alone_are_null : cleaned (codes "...") ≡ codes "null"
unfolding before_period
periods_alone_are_null = refl

pub a_question_mark_goes : cleaned (codes "x?y") ≡ codes "xy"
unfolding before_period
a_question_mark_goes = refl

pub utf8_of_e_acute : bytes_kept Utf8 0xE9 ≡ 0xC3 ∷ 0xA9 ∷ []
unfolding encode_utf8
utf8_of_e_acute = refl

pub byte_of_e_acute : bytes_kept Latin1 0xE9 ≡ 0xE9 ∷ []
byte_of_e_acute = refl

pub byte_of_a_wide_code : bytes_kept Latin1 0x100 ≡ 0x3F ∷ []
byte_of_a_wide_code = refl

pub utf8_of_a_surrogate : bytes_kept Utf8 0xD800 ≡ 0x3F ∷ []
unfolding encode_utf8
utf8_of_a_surrogate = refl

pub words_have_four_bytes : bytes_kept Utf32 0xE9 ≡ 0 ∷ 0 ∷ 0 ∷ 0xE9 ∷ []
words_have_four_bytes = refl

pub three_bytes_are_no_word : units_of Utf32 (1 ∷ 2 ∷ 3 ∷ []) ≡ 0
three_bytes_are_no_word = refl

pub a_saved_game_in_text_mode : file_kind 0x101 ≡ 1
a_saved_game_in_text_mode = refl

pub style_eleven_is_normal : style_of 11 ≡ 0
style_eleven_is_normal = refl

pub one_back_from_three : away 5 3 0xFFFFFFFF ≡ 2
one_back_from_three = refl

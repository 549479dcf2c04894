-- Values that are known of the Echo story and of a script, so that a wrong rule doesn't check.
use Rattle.std.proofs.Common.{◌≡◌, ◌∷◌, [], Ok, length, codes, refl}
use Rattle.rand_core.specs.Steps.{first_words}
use Rattle.rand_pcg.specs.Pcg.{pcg32}
use Rattle.glulx_image.specs.Image.{image_of}
use Rattle.glulx_image.specs.Checksum.{sum_of_words, verified}
use Rattle.story_make.specs.Echo.{echo_bytes}
use Rattle.story_make.specs.Script.{generator, letters, opening_request, typed_line, requests}
use Rattle.story_make.specs.declared.echo.TheConstants.{HEADER, CODE}

the_header_of_echo : HEADER
    ≡ 0x476C756C ∷ 0x00030103 ∷ 256 ∷ 256 ∷ 512 ∷ 256 ∷ 36 ∷ 0 ∷ 0x166C941C ∷ []
the_header_of_echo = refl

the_code_of_echo : CODE
    ≡ 0xC1 ∷ 0x00 ∷ 0x00 ∷ 0x40 ∷ 0x80 ∷ 0x40 ∷ 0x81 ∷ 0x03 ∷ 0x40 ∷ 0x80 ∷ 0x40 ∷ 0x80 ∷ 0x40 ∷
    0x80 ∷ 0x81 ∷ 0x30 ∷ 0x11 ∷ 0x08 ∷ 0x23 ∷ 0x05 ∷ 0x81 ∷ 0x30 ∷ 0x11 ∷ 0x00 ∷ 0x2F ∷ 0x01 ∷
    0x81 ∷ 0x49 ∷ 0x01 ∷ 0x02 ∷ 0x70 ∷ 0x01 ∷ 0x3E ∷ 0x40 ∷ 0x80 ∷ 0x40 ∷ 0x81 ∷ 0x14 ∷ 0x40 ∷
    0x82 ∷ 0x01 ∷ 0x00 ∷ 0x40 ∷ 0x81 ∷ 0x01 ∷ 0x81 ∷ 0x30 ∷ 0x12 ∷ 0x00 ∷ 0x00 ∷ 0xD0 ∷ 0x04 ∷
    0x40 ∷ 0x82 ∷ 0x01 ∷ 0x20 ∷ 0x81 ∷ 0x30 ∷ 0x12 ∷ 0x00 ∷ 0x00 ∷ 0xC0 ∷ 0x01 ∷ 0x40 ∷ 0x86 ∷
    0x01 ∷ 0x28 ∷ 0x40 ∷ 0x82 ∷ 0x01 ∷ 0x00 ∷ 0x81 ∷ 0x30 ∷ 0x12 ∷ 0x00 ∷ 0x00 ∷ 0x84 ∷ 0x02 ∷
    0x70 ∷ 0x01 ∷ 0x0A ∷ 0x20 ∷ 0x01 ∷ 0xCC ∷ []
the_code_of_echo = refl

the_size_of_echo : length echo_bytes ≡ 256
unfolding echo_bytes
the_size_of_echo = refl

pub echo_is_an_image : image_of echo_bytes ≡ Ok echo_bytes
unfolding echo_bytes
echo_is_an_image = refl

pub echo_has_its_checksum : verified echo_bytes ≡ 0
unfolding echo_bytes sum_of_words
echo_has_its_checksum = refl

-- the first words that PCG's reference demonstration prints, for the start 42 and the stream 54
reference_words : first_words pcg32 3 (generator 42 54) ≡ 0xA15C02B7 ∷ 0x7B47F409 ∷ 0xBA1D3330 ∷ []
unfolding first_words
reference_words = refl

a_text_of_eighteen_letters : letters 0xA15C02B7 ≡ codes "bnjtkehwlsqpkqmlks"
a_text_of_eighteen_letters = refl

a_script_of_three_turns : requests 42 54 3
    ≡ opening_request 42 54 ∷ typed_line 54 1 (codes "bnjtkehwlsqpkqmlks")
    ∷ typed_line 54 2 (codes "twpythrz") ∷ typed_line 54 3 (codes "aaiaur") ∷ []
unfolding requests first_words
a_script_of_three_turns = refl

-- How long a row may be.
use Rattle.std.proofs.Common.{◌≡◌, ℕ, ◌*◌, ◌≤◌, List, [], ◌∷◌, ◌++◌}
use Rattle.std.proofs.Common.{length, true, arith, length-append}
use Rattle.std.specs.Int.{w16, w64, to_be_bytes}
use Rattle.std.specs.Str.{encode_utf8_all}
use Rattle.std.proofs.Math.Utf8.{encode}
use Rattle.std.proofs.lemmas.Str.{length-encode, len_utf8_bounds}
use Rattle.std.proofs.lemmas.Bool.Decides.{nat_tests}
use Rattle.line_words.specs.Field.{is_key}
use Rattle.story_text.specs.Text.{IsText}
use Rattle.gate_journal.specs.declared.command.Command.{Command}
use Rattle.gate_journal.specs.declared.command.Command.TheVariants.{Open, Line, File}
use Rattle.gate_journal.specs.Command.{IsCommand}
use Rattle.gate_journal.specs.Rows.{payload_of}

pub text_long : (text : List ℕ) → length (encode_utf8_all text) ≤ 4 * length text
text_long [] = omega arith
text_long (c ∷ text) =
    omega (
      arith,
      text_long text,
      length-append (encode c) (encode_utf8_all text),
      length-encode c,
      (len_utf8_bounds c).1,
    )

pub text_most : (text : List ℕ) → IsText text → length (encode_utf8_all text) ≤ 4096
text_most text is = omega (arith, text_long text, short)
  where
    short : length text ≤ 1024
    short = grind (arith, nat_tests, is.short)

pub key_most : (key : List ℕ) → is_key key ≡ true → length key ≤ 32
key_most key is = grind (arith, nat_tests)

pub payload_most : (c : Command) → IsCommand c → length (payload_of c) ≤ 4104
payload_most (Open key story digest seed cols rows budget) is =
    let past = to_be_bytes w64 seed ++ (cols ∷ rows ∷ to_be_bytes w64 budget) in
    omega (
      arith,
      length-append key (to_be_bytes w16 story ++ (digest ++ past)),
      length-append digest past,
      is.2,
      key_most key is.0,
    )
payload_most (Line win term text) is = omega (arith, text_most text is.2)
payload_most (File name) is = omega (arith, text_most name is)
payload_most c is = omega arith

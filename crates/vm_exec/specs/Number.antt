-- Numbers as they are printed (Glulx 3.1.3, "Output").
use Rattle.std.specs.Prelude.{ℕ, List}
use Rattle.std.specs.Int.{cast_signed, w32}
use Rattle.std.specs.Fmt.{signed_decimal}

-- the characters of a signed number of 32 bits, in decimal
unfoldable pub number_text : ℕ → List ℕ
number_text value = signed_decimal (cast_signed w32 value)

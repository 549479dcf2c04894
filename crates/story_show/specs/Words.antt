-- Words of a show's lines (own: docs/FORMATS.md, "Shows").
use Rattle.std.specs.Prelude.{◌≡◌, Result, IfOk, ℕ, ◌||◌, ◌&&◌, nat_lt, nat_le, Bool, if◌then◌else◌}
use Rattle.std.specs.Prelude.{List, [], ◌∷◌, ◌++◌, decimal, map}
use Rattle.std.specs.declared.alloc.AllocError.{AllocError}
use Rattle.story_text.specs.Escape.{escaped}

-- The call added this text to a list of bytes, unless memory ran out.
abbrev pub AddsText : List ℕ → List ℕ → List ℕ → Result (Unit {0}) AllocError → Type 0
AddsText text old new result = IfOk result (λ _. new ≡ old ++ text)

-- a space and a number
abbrev pub number_after_space : ℕ → List ℕ
number_after_space n = 32 ∷ decimal n

-- a Unicode scalar value
abbrev pub is_scalar : ℕ → Bool
is_scalar c = nat_lt c 0xD800 || (nat_le 0xE000 c && nat_lt c 0x110000)

-- a code as it is shown, `?` for one that is no Unicode scalar value
abbrev pub shown_code : ℕ → ℕ
shown_code c = if is_scalar c then c else 63

-- a text at the end of a line
abbrev pub text : List ℕ → List ℕ
text cs = 32 ∷ escaped (map shown_code cs) ++ 10 ∷ []

-- What a character request may be given (Glk 0.7.5, "Character Input").
use Rattle.std.specs.Prelude.{ℕ, Bool, ◌&&◌, ◌||◌, nat_lt, nat_le}
use Rattle.story_text.specs.Keycode.{is_keycode}

-- a Unicode scalar value
abbrev pub is_scalar : ℕ → Bool
is_scalar c = nat_lt c 0xD800 || (nat_le 0xE000 c && nat_le c 0x10FFFF)

-- such a value, or a keycode
abbrev pub is_code : ℕ → Bool
is_code c = is_scalar c || is_keycode c

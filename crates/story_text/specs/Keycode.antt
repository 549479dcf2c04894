-- Keycodes (Glk 0.7.5, "Character Input"; the numbers are those of its header).
use Rattle.std.specs.Prelude.{ℕ, ◌==◌, ◌&&◌, ◌||◌, nat_le, Bool}
use Rattle.story_text.specs.declared.keycode.TheConstants.{END, ESCAPE, FUNC1, FUNC12, UNKNOWN}

-- the function keys: the numbers fall from the first to the twelfth
abbrev pub is_function_key : ℕ → Bool
is_function_key c = nat_le FUNC12 c && nat_le c FUNC1

-- the keys from End to Unknown, and the function keys
abbrev pub is_keycode : ℕ → Bool
is_keycode c = (nat_le END c && nat_le c UNKNOWN) || is_function_key c

-- the keys that may end a line: Escape and the function keys
abbrev pub is_terminator : ℕ → Bool
is_terminator c = c == ESCAPE || is_function_key c

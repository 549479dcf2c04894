-- Values that the header of Glk and the rules of its input give, said of the definitions.
use Rattle.std.specs.Prelude.{◌≡◌, [], ◌∷◌, true, false, map, Some, Ok}
use Rattle.std.proofs.Common.{refl}
use Rattle.story_text.specs.Keycode.{is_keycode, is_terminator}
use Rattle.story_text.specs.declared.keycode.TheConstants.{UNKNOWN, LEFT, RIGHT, UP, DOWN, RETURN}
use Rattle.story_text.specs.declared.keycode.TheConstants.{DELETE, ESCAPE, TAB, PAGE_UP, PAGE_DOWN}
use Rattle.story_text.specs.declared.keycode.TheConstants.{HOME, END, FUNC1, FUNC12}
use Rattle.glk_input.specs.Request.{cancelled}
use Rattle.vm_memory.specs.MemoryMap.{MemoryMap}
use Rattle.glk_input.specs.Delivery.{delivered, taken_key, taken_line, wants, wants_line}
use Rattle.story_text.specs.declared.input.Input.TheVariants.{Size}
use Rattle.glk_input.specs.declared.request.LineRequest.{LineRequest}
use Rattle.glk_input.specs.declared.request.Request.TheVariants.{Line, Char}

-- a plain line of at most 2 that Escape may end
abbrev pub asked : LineRequest
asked = record {
  buf = 256;
  max = 2;
  init = 1;
  unicode = false;
  echo = true;
  keys = 0xFFFFFFF8 ∷ [];
}

-- the numbers of the keys, in the order of the header
pub key_numbers : UNKNOWN ∷ LEFT ∷ RIGHT ∷ UP ∷ DOWN ∷ RETURN ∷ DELETE ∷ ESCAPE ∷ TAB ∷ PAGE_UP
    ∷ PAGE_DOWN ∷ HOME ∷ END ∷ []
    ≡ 0xFFFFFFFF ∷ 0xFFFFFFFE ∷ 0xFFFFFFFD ∷ 0xFFFFFFFC ∷ 0xFFFFFFFB ∷ 0xFFFFFFFA ∷ 0xFFFFFFF9
    ∷ 0xFFFFFFF8 ∷ 0xFFFFFFF7
    ∷ 0xFFFFFFF6 ∷ 0xFFFFFFF5 ∷ 0xFFFFFFF4 ∷ 0xFFFFFFF3 ∷ []
key_numbers = refl

pub function_keys : FUNC1 ∷ FUNC12 ∷ [] ≡ 0xFFFFFFEF ∷ 0xFFFFFFE4 ∷ []
function_keys = refl

-- Unknown, Return, Escape, End, Func1 and Func12 are keycodes; what lies beside them isn't
pub keycodes : map is_keycode
    (0xFFFFFFFF ∷ 0xFFFFFFFA ∷ 0xFFFFFFF8 ∷ 0xFFFFFFF3 ∷ 0xFFFFFFF2 ∷ 0xFFFFFFF0 ∷ 0xFFFFFFEF
    ∷ 0xFFFFFFE4 ∷ 0xFFFFFFE3 ∷ [])
    ≡ true ∷ true ∷ true ∷ true ∷ false ∷ false ∷ true ∷ true ∷ false ∷ []
keycodes = refl

-- Escape, Func1 and Func12 may end a line; Return and Tab may not
pub terminators : map is_terminator
    (0xFFFFFFF8 ∷ 0xFFFFFFEF ∷ 0xFFFFFFE4 ∷ 0xFFFFFFFA ∷ 0xFFFFFFF7 ∷ [])
    ≡ true ∷ true ∷ true ∷ false ∷ false ∷ []
terminators = refl

-- the newline is the Return key; a plain request takes no code above 255 that is no keycode
pub keys_taken : map (taken_key false) (10 ∷ 65 ∷ 0x100 ∷ 0xFFFFFFFE ∷ [])
    ≡ 0xFFFFFFFA ∷ 65 ∷ 63 ∷ 0xFFFFFFFE ∷ []
keys_taken = refl

pub unicode_key_taken : taken_key true 0x100 ≡ 0x100
unicode_key_taken = refl

-- a line is cut to the maximum
pub line_taken : taken_line asked (0x61 ∷ 0x100 ∷ 0x63 ∷ []) ≡ 0x61 ∷ 63 ∷ []
line_taken = refl

-- the return key and Escape end it; Func1 wasn't asked for
pub wanted : map (wants_line (Some (Line asked))) (0 ∷ 0xFFFFFFF8 ∷ 0xFFFFFFEF ∷ [])
    ≡ true ∷ true ∷ false ∷ []
wanted = refl

-- a line that is cancelled has the characters with which it began
pub cancelled_line : cancelled (Some (Line asked)) 1
    ≡ record { kind = 3; win = 1; val1 = 1; val2 = 0 }
cancelled_line = refl

pub cancelled_char : cancelled (Some (Char false)) 1
    ≡ record { kind = 0; win = 0; val1 = 0; val2 = 0 }
cancelled_char = refl

-- a new size of the screen is taken where no window asks for anything
pub size_wanted : wants [] (Size 40 10) ≡ true
size_wanted = refl

-- it is the event 5 of no window, and memory stays
pub size_delivered : (m : MemoryMap)
    → delivered [] m (Size 40 10) ≡ Ok (m, record { kind = 5; win = 0; val1 = 0; val2 = 0 })
size_delivered m = refl

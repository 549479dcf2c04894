-- The lines that `run` reads, by reading them from the left (own).
use Rattle.std.specs.Prelude.{◌≡◌, ℕ, Bool, true, false, ◌&&◌, ◌-◌, ◌==◌, nat_lt, take, slice_index}
use Rattle.std.specs.Prelude.{if◌then◌else◌, List, length, Option, None, codes}
use Rattle.line_words.specs.declared.fault.LineFault.{LineFault}
use Rattle.line_words.specs.declared.fault.LineFault.TheVariants.{BadLine, LongLine, NoMemory}
use Rattle.story_text.specs.declared.input.Input.{Input}
use Rattle.story_text.specs.declared.input.Input.TheVariants.{Line, Char, File, Size}
use Rattle.line_words.specs.Reading.{Reader, ◌then◌, whole, made_if_read}
use Rattle.line_words.specs.Field.{number_between, text_at, code_at, terminator_at, fields_named}

-- the fields of LINE: a window, a text and a terminator key
unfoldable pub line_at : Reader (ℕ × (List ℕ × ℕ))
line_at = number_between 0 4294967295 then (text_at then terminator_at)

-- the fields of CHAR: a window and a code
unfoldable pub window_and_code_at : Reader (ℕ × ℕ)
window_and_code_at = number_between 0 4294967295 then code_at

-- the fields of SIZE: the columns and rows of a screen
unfoldable pub screen_at : Reader (ℕ × ℕ)
screen_at = number_between 1 255 then number_between 1 255

abbrev pub made_line_play : ℕ × (List ℕ × ℕ) → Input
made_line_play (win, (text, key)) = Line win text key

abbrev pub made_char_play : ℕ × ℕ → Input
made_char_play (win, code) = Char win code

abbrev pub made_size_play : ℕ × ℕ → Input
made_size_play (cols, rows) = Size cols rows

abbrev pub line_play : List ℕ → Option Input
line_play bytes = made_if_read made_line_play (whole line_at bytes)

abbrev pub char_play : List ℕ → Option Input
char_play bytes = made_if_read made_char_play (whole window_and_code_at bytes)

abbrev pub file_play : List ℕ → Option Input
file_play bytes = made_if_read (λ name. File name) (whole text_at bytes)

abbrev pub size_play : List ℕ → Option Input
size_play bytes = made_if_read made_size_play (whole screen_at bytes)

-- the input that a line without its CR spells
unfoldable pub spelled_play : List ℕ → Option Input
spelled_play line =
    fields_named (codes "LINE") line line_play
    (fields_named (codes "CHAR") line char_play
    (fields_named (codes "FILE") line file_play
    (fields_named (codes "SIZE") line size_play None)))

-- the line ends in a CR
abbrev pub ends_in_cr : List ℕ → Bool
ends_in_cr line = nat_lt 0 (length line) && slice_index line (length line - 1) == 13

-- the line without the CR that may end it
unfoldable pub without_cr : List ℕ → List ℕ
without_cr line = if ends_in_cr line then take (length line - 1) line else line

-- a line has at most 2,047 bytes, its CR among them and its LF not
abbrev pub is_long : List ℕ → Bool
is_long line = nat_lt 2047 (length line)

-- what a line that isn't too long spells
abbrev pub unless_long : {A : Type 0} → List ℕ → Option A → Option A
unless_long line spelled = if is_long line then None else spelled

-- the input that a line spells, if it spells one
abbrev pub play_of : List ℕ → Option Input
play_of line = unless_long line (spelled_play (without_cr line))

-- the refusal of a line: it is too long, or else it spells nothing
abbrev pub RefusesLine : {A : Type 0} → List ℕ → Option A → LineFault → Type 0
RefusesLine line spelled LongLine = is_long line ≡ true
RefusesLine line spelled BadLine = (is_long line ≡ false) × (spelled ≡ None)
RefusesLine line spelled NoMemory = Unit {0}

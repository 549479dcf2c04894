-- The Echo story as a file (own; the layout is Glulx 3.1.3, "The Header").
use Rattle.std.specs.Prelude.{ℕ, ◌-◌, List, ◌++◌, length, replicate, flat_map}
use Rattle.std.specs.Int.{w32, to_be_bytes}
use Rattle.story_make.specs.declared.echo.TheConstants.{HEADER, CODE, SIZE}

-- the header's words, each with its high byte first, and the code
abbrev pub echo_front : List ℕ
echo_front = flat_map (to_be_bytes w32) HEADER ++ CODE

-- the file: the rest of it is zeros
unfoldable pub echo_bytes : List ℕ
echo_bytes = echo_front ++ replicate (SIZE - length echo_front) 0

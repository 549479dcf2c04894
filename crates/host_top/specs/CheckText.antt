-- The output of `check`, which tells what a story's header says (Glulx 3.1.3, "The Header").
use Rattle.std.specs.Prelude.{ℕ, ◌-◌, List, ◌++◌, length, replicate, codes, true}
use Rattle.std.specs.Fmt.{decimal, digits}
use Rattle.glulx_image.specs.Checksum.{verified}
use Rattle.glulx_image.specs.Header.{version, ramstart, extstart, endmem, stack_size}

-- a number in at least 8 hexadecimal digits, those above 9 as `A` to `F`
abbrev pub hexadecimal : ℕ → List ℕ
hexadecimal n = replicate (8 - length (digits 16 true n)) 48 ++ digits 16 true n

-- the boundaries of memory: RAMSTART, EXTSTART and ENDMEM
abbrev pub memory_text : ℕ → ℕ → ℕ → List ℕ
memory_text ram ext end =
    codes " ram=" ++ decimal ram ++ codes " ext=" ++ decimal ext ++ codes " end=" ++ decimal end

-- the line of a good story, by its version, the boundaries of its memory, its stack and whether its
-- checksum is wrong
abbrev pub good_story_line : List ℕ → List ℕ → ℕ → ℕ → List ℕ
good_story_line version memory stack sum =
    codes "good version=" ++ version ++ memory ++ codes " stack=" ++ decimal stack
    ++ codes " sum=" ++ decimal sum ++ codes "\n"

-- the line of the story with this image
abbrev pub good_line : List ℕ → List ℕ
good_line image =
    good_story_line (hexadecimal (version image))
    (memory_text (ramstart image) (extstart image) (endmem image))
    (stack_size image) (verified image)

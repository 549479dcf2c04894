-- A show as lines (own: docs/FORMATS.md, "Shows").
use Rattle.std.specs.Prelude.{ℕ, List, [], ◌∷◌, ◌++◌, codes}
use Rattle.std.specs.List.{flat_map}
use Rattle.story_show.specs.Words.{number_after_space, text}
use Rattle.story_show.specs.declared.show.Place.{Place}
use Rattle.story_show.specs.declared.show.Part.{Part}
use Rattle.story_show.specs.declared.show.Part.TheVariants.{Clear, Run, GridRow}
use Rattle.story_show.specs.declared.show.End.{End}
use Rattle.story_show.specs.declared.show.End.TheVariants.{Quit, Fault, Prompt, WantLine, WantChar}
use Rattle.story_show.specs.declared.show.Show.{Show}

-- W id type x y w h
unfoldable pub place_line : Place → List ℕ
place_line p =
    codes "W" ++ number_after_space p.id ++ number_after_space p.kind ++ number_after_space p.x
    ++ number_after_space p.y ++ number_after_space p.w ++ number_after_space p.h
    ++ 10 ∷ []

-- C id, T id style =text, or G id y =text
unfoldable pub part_line : Part → List ℕ
part_line (Clear id) = codes "C" ++ number_after_space id ++ 10 ∷ []
part_line (Run id style cs) =
    codes "T" ++ number_after_space id ++ number_after_space style ++ text cs
part_line (GridRow id y cs) = codes "G" ++ number_after_space id ++ number_after_space y ++ text cs

-- E quit, E fault code, P usage mode, I id line max =initial, or I id char
unfoldable pub end_line : End → List ℕ
end_line Quit = codes "E quit\n"
end_line (Fault code) = codes "E fault" ++ number_after_space code ++ 10 ∷ []
end_line (Prompt usage mode) =
    codes "P" ++ number_after_space usage ++ number_after_space mode ++ 10 ∷ []
end_line (WantLine id max cs) =
    codes "I" ++ number_after_space id ++ codes " line" ++ number_after_space max ++ text cs
end_line (WantChar id) = codes "I" ++ number_after_space id ++ codes " char\n"

-- the places, what was printed, and what is awaited or how it ended
abbrev pub text_of_show : Show → List ℕ
text_of_show s =
    flat_map place_line s.places ++ flat_map part_line s.parts ++ flat_map end_line s.ends

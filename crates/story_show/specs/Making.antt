-- What of the windows is shown (own: docs/FORMATS.md, "Shows").
use Rattle.std.specs.Prelude.{ℕ, zero, suc, ◌+◌, if◌then◌else◌, List, [], ◌∷◌}
use Rattle.std.specs.Prelude.{◌++◌, map, take, drop}
use Rattle.std.specs.List.{flat_map}
use Rattle.glk_windows.specs.declared.window.Window.{Window}
use Rattle.glk_windows.specs.declared.window.Area.{Area}
use Rattle.glk_windows.specs.declared.window.Buffer as b
use Rattle.glk_windows.specs.declared.text.Run as r
use Rattle.glk_windows.specs.declared.window.Content.{Content}
use Rattle.glk_windows.specs.declared.window.Content.TheVariants.{Pair, Blank, Buffer, Grid}
use Rattle.glk_windows.specs.Tree.{WindowTree}
use Rattle.story_show.specs.declared.show.Place.{Place}
use Rattle.story_show.specs.declared.show.Part.{Part}
use Rattle.story_show.specs.declared.show.Part.TheVariants.{Clear, Run, GridRow}
use Rattle.story_show.specs.declared.show.End.{End}
use Rattle.story_show.specs.declared.show.Show.{Show}

-- a window's type and rectangle
abbrev pub window_place : ℕ → ℕ → Area → Place
window_place id kind a = record { id = id; kind = kind; x = a.x; y = a.y; w = a.w; h = a.h }

-- each window has a place, but pairs have none
abbrev pub content_places : Content → ℕ → Area → List Place
content_places (Pair p) id a = []
content_places Blank id a = window_place id 2 a ∷ []
content_places (Buffer b) id a = window_place id 3 a ∷ []
content_places (Grid g) id a = window_place id 4 a ∷ []

unfoldable pub window_places : Window → List Place
window_places w = content_places w.content w.number w.area

-- a run of one style in a buffer
abbrev pub run_part : ℕ → r.Run → Part
run_part id r = Run id r.style r.codes

-- the clearing of a buffer, if there was one, and what was printed after it
abbrev pub buffer_parts : ℕ → b.Buffer → List Part
buffer_parts id b = (if b.cleared then Clear id ∷ [] else []) ++ map (run_part id) b.runs

-- so many rows of a grid from row y on
unfoldable pub row_parts : ℕ → ℕ → ℕ → ℕ → List ℕ → List Part
row_parts zero id y w cells = []
row_parts (suc n) id y w cells =
    GridRow id y (take w cells) ∷ row_parts n id (y + 1) w (drop w cells)

abbrev pub content_parts : Content → ℕ → List Part
content_parts (Pair p) id = []
content_parts Blank id = []
content_parts (Buffer b) id = buffer_parts id b
content_parts (Grid g) id = row_parts g.h id 0 g.w g.cells

unfoldable pub window_parts : Window → List Part
window_parts w = content_parts w.content w.number

-- the windows by ascending number, and then the ends
abbrev pub show_of : WindowTree → List End → Show
show_of t ends = record {
  places = flat_map window_places t.slots;
  parts = flat_map window_parts t.slots;
  ends = ends;
}

-- Output of windows (Glk 0.7.5, "Text Buffer Windows" and "Text Grid Windows").
use Rattle.glk_windows.specs.Tree.{WindowTree, set_at}
use Rattle.std.specs.Prelude.{map, replicate, ℕ, ◌+◌, ◌*◌, ◌==◌, nat_lt, nat_le}
use Rattle.std.specs.Prelude.{◌&&◌, if◌then◌else◌, Bool, true, false, List, [], ◌∷◌}
use Rattle.std.specs.Prelude.{◌++◌, slice_set, length}
use Rattle.glk_windows.specs.declared.text.Run.{Run}
use Rattle.glk_windows.specs.declared.window.Window.{Window}
use Rattle.glk_windows.specs.declared.window.Content.{Content}
use Rattle.glk_windows.specs.declared.window.Content.TheVariants.{Pair, Blank, Buffer, Grid}
use Rattle.glk_windows.specs.declared.window.Buffer as b
use Rattle.glk_windows.specs.declared.window.Grid as g

-- whether the last run has this style
unfoldable pub ends_in_style : List Run → ℕ → Bool
ends_in_style [] style = false
ends_in_style (r ∷ []) style = r.style == style
ends_in_style (r ∷ s ∷ rs) style = ends_in_style (s ∷ rs) style

-- a run with one more code at its end
abbrev pub longer_run : Run → ℕ → Run
longer_run r code = record r { codes = r.codes ++ code ∷ [] }

unfoldable pub last_longer : List Run → ℕ → List Run
last_longer [] code = []
last_longer (r ∷ []) code = longer_run r code ∷ []
last_longer (r ∷ s ∷ rs) code = r ∷ last_longer (s ∷ rs) code

-- a code put at the end of runs: into the last where its style is this one, else as a new run
abbrev pub run_on : List Run → ℕ → ℕ → List Run
run_on rs code style =
    if ends_in_style rs style then last_longer rs code
    else rs ++ (record { style = style; codes = code ∷ [] }) ∷ []

-- a code in a buffer
abbrev pub buffer_put : b.Buffer → ℕ → ℕ → b.Buffer
buffer_put b code style = record b { runs = run_on b.runs code style }

-- a grid with its cursor at the start of the next row, the last number staying
abbrev pub next_grid_row : g.Grid → g.Grid
next_grid_row g = record g { x = 0; y = if g.y == 4294967295 then g.y else g.y + 1 }

-- a code in the cell of the cursor, dropped outside
abbrev pub cell_put : g.Grid → ℕ → g.Grid
cell_put g code =
    if nat_lt g.x g.w && nat_lt g.y g.h
    then record g { cells = slice_set g.cells (g.y * g.w + g.x) code; x = g.x + 1 }
    else g

-- a code in a grid
abbrev pub grid_put : g.Grid → ℕ → g.Grid
grid_put g code =
    if code == 10 then next_grid_row g
    else cell_put (if nat_le g.w g.x then next_grid_row g else g) code

-- a code in what a window shows
abbrev pub content_put : Content → ℕ → ℕ → Content
content_put (Pair p) code style = Pair p
content_put Blank code style = Blank
content_put (Buffer b) code style = Buffer (buffer_put b code style)
content_put (Grid g) code style = Grid (grid_put g code)

-- a code in a window
abbrev pub window_put : Window → ℕ → ℕ → Window
window_put w code style = record w { content = content_put w.content code style }

abbrev pub put_at_window : List Window → ℕ → ℕ → ℕ → List Window
put_at_window ws n code style = set_at (λ w. window_put w code style) ws n

abbrev pub put_on_window : WindowTree → ℕ → ℕ → ℕ → WindowTree
put_on_window t n code style = record t { slots = put_at_window t.slots n code style }

-- a buffer without text, and cleared; a grid of spaces
abbrev pub content_cleared : Content → Content
content_cleared (Pair p) = Pair p
content_cleared Blank = Blank
content_cleared (Buffer b) = Buffer (record { cleared = true; runs = [] })
content_cleared (Grid g) = Grid (record g { x = 0; y = 0; cells = replicate (length g.cells) 32 })

abbrev pub window_cleared : Window → Window
window_cleared w = record w { content = content_cleared w.content }

abbrev pub clear : WindowTree → ℕ → WindowTree
clear t n = record t { slots = set_at window_cleared t.slots n }

-- what a window keeps for the next turn: a grid's cells
abbrev pub content_kept : Content → Content
content_kept (Pair p) = Pair p
content_kept Blank = Blank
content_kept (Buffer b) = Buffer (record { cleared = false; runs = [] })
content_kept (Grid g) = Grid g

abbrev pub window_kept : Window → Window
window_kept w = record w { content = content_kept w.content }

abbrev pub begin_turn : WindowTree → WindowTree
begin_turn t = record t { slots = map window_kept t.slots }

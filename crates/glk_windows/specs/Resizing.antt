-- Grids that change their size (Glk 0.7.5, "Text Grid Windows").
use Rattle.std.specs.Prelude.{ℕ, zero, suc, ◌-◌, ◌==◌, ◌&&◌, if◌then◌else◌}
use Rattle.std.specs.Prelude.{List, [], ◌++◌, take, drop, length, replicate}
use Rattle.glk_windows.specs.declared.window.Window.{Window}
use Rattle.glk_windows.specs.declared.window.Area.{Area}
use Rattle.glk_windows.specs.declared.window.Grid as g
use Rattle.glk_windows.specs.declared.window.Content.{Content}
use Rattle.glk_windows.specs.declared.window.Content.TheVariants.{Pair, Blank, Buffer, Grid}

-- a row cut, or with spaces at its end
unfoldable pub row_sized : ℕ → List ℕ → List ℕ
row_sized w row = take w row ++ replicate (w - length row) 32

-- so many rows of this width, from rows of the old width
unfoldable pub rows_sized : ℕ → ℕ → ℕ → List ℕ → List ℕ
rows_sized zero w old cells = []
rows_sized (suc n) w old cells = row_sized w (take old cells) ++ rows_sized n w old (drop old cells)

-- the cells that fit are kept, new ones are spaces, and the cursor stays
abbrev pub grid_sized : g.Grid → ℕ → ℕ → g.Grid
grid_sized g w h =
    if g.w == w && g.h == h then g
    else record g { w = w; h = h; cells = rows_sized h w g.w g.cells }

abbrev pub content_sized : Content → Area → Content
content_sized (Pair p) a = Pair p
content_sized Blank a = Blank
content_sized (Buffer b) a = Buffer b
content_sized (Grid g) a = Grid (grid_sized g a.w a.h)

abbrev pub sized : Area → Window → Window
sized a w = record w { area = a; content = content_sized w.content a }

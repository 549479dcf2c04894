-- What a story reads of a window (Glk 0.7.5, "Window Opening, Closing, and Constraints").
use Rattle.std.specs.Prelude.{ℕ, zero, suc, ◌==◌, ◌||◌, ◌&&◌, not, bit_and, length}
use Rattle.std.specs.Prelude.{if◌then◌else◌, Bool, false, List, [], Option, Some, None}
use Rattle.glk_windows.specs.declared.window.Window.{Window}
use Rattle.glk_windows.specs.declared.window.Pair as p
use Rattle.glk_windows.specs.declared.window.Area.{Area}
use Rattle.glk_windows.specs.declared.window.Content.{Content}
use Rattle.glk_windows.specs.declared.window.Content.TheVariants.{Pair, Blank, Buffer, Grid}
use Rattle.glk_windows.specs.declared.text.Run.{Run}
use Rattle.glk_windows.specs.Tree.{read_window, window_at, pair_of, parent_of}

-- the type: 1 pair, 2 blank, 3 buffer, 4 grid; 0 where there is no window
abbrev pub kind_in : Content → ℕ
kind_in (Pair p) = 1
kind_in Blank = 2
kind_in (Buffer b) = 3
kind_in (Grid g) = 4

abbrev pub window_kind : List Window → ℕ → ℕ
window_kind ws n = read_window 0 (λ w. kind_in w.content) (window_at ws n)

abbrev pub rock_of : List Window → ℕ → ℕ
rock_of ws n = read_window 0 (λ w. w.rock) (window_at ws n)

abbrev pub echo_of : List Window → ℕ → ℕ
echo_of ws n = read_window 0 (λ w. w.echo) (window_at ws n)

-- the width and height of a buffer or grid, else 0 and 0
abbrev pub size_in : Content → Area → ℕ × ℕ
size_in (Pair p) a = (0, 0)
size_in Blank a = (0, 0)
size_in (Buffer b) a = (a.w, a.h)
size_in (Grid g) a = (a.w, a.h)

abbrev pub size_of : List Window → ℕ → ℕ × ℕ
size_of ws n = read_window (0, 0) (λ w. size_in w.content w.area) (window_at ws n)

-- method, size and key of a pair
abbrev pub arrangement_in : Option p.Pair → ℕ × ℕ × ℕ
arrangement_in None = (0, 0, 0)
arrangement_in (Some p) = (p.method, p.size, p.key)

abbrev pub arrangement_of : List Window → ℕ → ℕ × ℕ × ℕ
arrangement_of ws n = arrangement_in (pair_of ws n)

-- the two windows of a pair
abbrev pub children_in : Option p.Pair → ℕ × ℕ
children_in None = (0, 0)
children_in (Some p) = (p.first, p.second)

abbrev pub children_of : List Window → ℕ → ℕ × ℕ
children_of ws n = children_in (pair_of ws n)

-- the other window of a pair
abbrev pub other_window : p.Pair → ℕ → ℕ
other_window p n = if p.first == n then p.second else p.first

-- the other window of the pair above, or 0
abbrev pub other_in : Option p.Pair → ℕ → ℕ
other_in None n = 0
other_in (Some p) n = other_window p n

abbrev pub sibling_of : List Window → ℕ → ℕ
sibling_of ws n = other_in (pair_of ws (parent_of ws n)) n

-- what a buffer printed since the last clearing
abbrev pub runs_in : Content → List Run
runs_in (Pair p) = []
runs_in Blank = []
runs_in (Buffer b) = b.runs
runs_in (Grid g) = []

abbrev pub runs_of : List Window → ℕ → List Run
runs_of ws n = read_window [] (λ w. runs_in w.content) (window_at ws n)

-- whether a buffer was cleared in this turn
abbrev pub cleared_in : Content → Bool
cleared_in (Pair p) = false
cleared_in Blank = false
cleared_in (Buffer b) = b.cleared
cleared_in (Grid g) = false

abbrev pub cleared_of : List Window → ℕ → Bool
cleared_of ws n = read_window false (λ w. cleared_in w.content) (window_at ws n)

-- the cells of a grid, row by row
abbrev pub cells_in : Content → List ℕ
cells_in (Pair p) = []
cells_in Blank = []
cells_in (Buffer b) = []
cells_in (Grid g) = g.cells

abbrev pub cells_of : List Window → ℕ → List ℕ
cells_of ws n = read_window [] (λ w. cells_in w.content) (window_at ws n)

-- the cursor of a grid
abbrev pub cursor_in : Content → ℕ × ℕ
cursor_in (Pair p) = (0, 0)
cursor_in Blank = (0, 0)
cursor_in (Buffer b) = (0, 0)
cursor_in (Grid g) = (g.x, g.y)

abbrev pub cursor_of : List Window → ℕ → ℕ × ℕ
cursor_of ws n = read_window (0, 0) (λ w. cursor_in w.content) (window_at ws n)

-- the pair stands above the window, at most so many steps up
unfoldable pub is_below : ℕ → List Window → ℕ → ℕ → Bool
is_below zero ws n pair = false
is_below (suc steps) ws n pair = parent_of ws n == pair || is_below steps ws (parent_of ws n) pair

-- no key, or a window below the pair that is no pair
abbrev pub may_key : List Window → ℕ → ℕ → Bool
may_key ws pair key =
    key == 0 || is_below (length ws) ws key pair && not (window_kind ws key == 1)

-- a method divides as the pair does, either its width or its height
abbrev pub is_same_axis : List Window → ℕ → ℕ → Bool
is_same_axis ws pair method = bit_and (arrangement_of ws pair).0 2 == bit_and method 2

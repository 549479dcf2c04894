-- The windows as a list by number (Glk 0.7.5, "The Window Tree").
use Rattle.std.specs.Prelude.{◌≡◌, ℕ, ◌==◌, if◌then◌else◌, true, List, Option, Some, None}
use Rattle.glk_numbers.specs.Numbered.{found, changed_at, has}
use Rattle.glk_windows.specs.declared.window.Window.{Window}
use Rattle.glk_windows.specs.declared.window.Pair as p
use Rattle.glk_windows.specs.declared.window.Content.{Content}
use Rattle.glk_windows.specs.declared.window.Content.TheVariants.{Pair, Blank, Buffer, Grid}
use Rattle.glk_windows.specs.declared.changing.Change.{Change}
use Rattle.glk_windows.specs.declared.changing.Change.TheVariants as to

-- the windows by number, the number of the next one, and the root or 0
pub record WindowTree : Type 0 where
  pub slots : List Window
  pub next : ℕ
  pub root : ℕ

-- a window's number
abbrev pub window_number : Window → ℕ
window_number w = w.number

-- a live window
abbrev pub IsLive : WindowTree → ℕ → Type 0
IsLive t n = has window_number t.slots n ≡ true

-- the window with this number
abbrev pub window_at : List Window → ℕ → Option Window
window_at ws n = found window_number ws n

-- the window with this number changed
abbrev pub set_at : (Window → Window) → List Window → ℕ → List Window
set_at f ws n = changed_at window_number f ws n

-- of the window, if there is one, or else this
abbrev pub read_window : {A : Type 0} → A → (Window → A) → Option Window → A
read_window none of None = none
read_window none of (Some w) = of w

-- what a pair holds
abbrev pub pair_content : Content → Option p.Pair
pair_content (Pair p) = Some p
pair_content Blank = None
pair_content (Buffer b) = None
pair_content (Grid g) = None

abbrev pub pair_in : Window → Option p.Pair
pair_in w = pair_content w.content

abbrev pub pair_of : List Window → ℕ → Option p.Pair
pair_of ws n = read_window None pair_in (window_at ws n)

-- the pair above a window, or 0
abbrev pub parent_of : List Window → ℕ → ℕ
parent_of ws n = read_window 0 (λ w. w.parent) (window_at ws n)

-- the stream of a window, or 0
abbrev pub stream_of : List Window → ℕ → ℕ
stream_of ws n = read_window 0 (λ w. w.stream) (window_at ws n)

-- in a pair, another window in the place of the old one
abbrev pub pair_swapped : p.Pair → ℕ → ℕ → p.Pair
pair_swapped p old new =
    if p.first == old then record p { first = new }
    else (if p.second == old then record p { second = new } else p)

abbrev pub swapped : Content → ℕ → ℕ → Content
swapped (Pair p) old new = Pair (pair_swapped p old new)
swapped Blank old new = Blank
swapped (Buffer b) old new = Buffer b
swapped (Grid g) old new = Grid g

-- a pair's division, key 0 for the one that it has
abbrev pub pair_arranged : p.Pair → ℕ → ℕ → ℕ → p.Pair
pair_arranged p method size key =
    record p { method = method; size = size; key = if key == 0 then p.key else key }

abbrev pub content_arranged : Content → ℕ → ℕ → ℕ → Content
content_arranged (Pair p) method size key = Pair (pair_arranged p method size key)
content_arranged Blank method size key = Blank
content_arranged (Buffer b) method size key = Buffer b
content_arranged (Grid g) method size key = Grid g

-- the cursor of a grid moved
abbrev pub grid_cursor_moved : Content → ℕ → ℕ → Content
grid_cursor_moved (Pair p) x y = Pair p
grid_cursor_moved Blank x y = Blank
grid_cursor_moved (Buffer b) x y = Buffer b
grid_cursor_moved (Grid g) x y = Grid (record g { x = x; y = y })

-- a window changed in one of its fields
abbrev pub changed : Change → Window → Window
changed (to.Parent n) w = record w { parent = n }
changed (to.Stream n) w = record w { stream = n }
changed (to.Echo n) w = record w { echo = n }
changed (to.Child old new) w = record w { content = swapped w.content old new }
changed (to.Division method size key) w =
    record w { content = content_arranged w.content method size key }
changed (to.Cursor x y) w = record w { content = grid_cursor_moved w.content x y }

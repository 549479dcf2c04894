-- What holds of all windows that are one tree (Glk 0.7.5, "The Window Tree").
use Rattle.std.specs.Prelude.{◌≡◌, ◌≢◌, ℕ, ◌+◌, ◌≤◌, ◌<◌, ◌==◌, ◌||◌, nat_lt, Bool, true, [], ◌∷◌}
use Rattle.std.specs.Prelude.{◌++◌, List, length, map, ◌⊎◌, Option, Some, None, if◌then◌else◌}
use Rattle.glk_windows.specs.declared.text.Run.{Run}
use Rattle.glk_windows.specs.declared.window.Window.{Window}
use Rattle.glk_windows.specs.declared.window.Area.{Area}
use Rattle.glk_windows.specs.declared.window.Content.{Content}
use Rattle.glk_windows.specs.declared.window.Content.TheVariants.{Pair, Blank, Buffer, Grid}
use Rattle.glk_windows.specs.Tree.{WindowTree, IsLive, read_window, window_at, pair_of, parent_of}
use Rattle.glk_windows.specs.Reading.{window_kind, may_key}
use Rattle.glk_windows.specs.Placing.{place}
use Rattle.glk_windows.specs.OneTree.{is_tree, tree_of, below, times_reached, has_leaf}
use Rattle.glk_windows.specs.Valid.{IsOrdered, IsValidTree}
use Rattle.glk_windows.specs.Opening.{MaySplit, split}
use Rattle.glk_windows.specs.Closing.{close, echo_ended}
use Rattle.glk_windows.specs.Arranging.{arrange, is_method, move_to, stream_set, echo_set}
use Rattle.glk_windows.specs.Output.{put_on_window, clear, begin_turn, run_on}

-- a rectangle of no cell
abbrev pub nowhere : Area
nowhere = record { x = 0; y = 0; w = 0; h = 0 }

-- the rectangle of a window
abbrev pub window_area : List Window → ℕ → Area
window_area ws n = read_window nowhere (λ w. w.area) (window_at ws n)

-- one rectangle lies in another
pub record IsInside (a b : Area) : Type 0 where
  pub left : b.x ≤ a.x
  pub right : a.x + a.w ≤ b.x + b.w
  pub top : b.y ≤ a.y
  pub bottom : a.y + a.h ≤ b.y + b.h

-- a cell of the screen lies in a rectangle
pub record Covers (a : Area) (x y : ℕ) : Type 0 where
  pub left : a.x ≤ x
  pub right : x < a.x + a.w
  pub top : a.y ≤ y
  pub bottom : y < a.y + a.h

-- the windows that are no pairs lie on the screen
abbrev pub StaysOnScreen : Type 0
StaysOnScreen =
    (t : WindowTree) (cols rows n : ℕ) → IsOrdered t → is_tree t ≡ true
    → pair_of t.slots n ≡ None
    → IsInside (window_area (place t cols rows).slots n)
    (record { x = 0; y = 0; w = cols; h = rows })

-- no cell of the screen lies in two windows that are no pairs
abbrev pub NeverOverlaps : Type 0
NeverOverlaps =
    (t : WindowTree) (cols rows m n x y : ℕ) → IsOrdered t → is_tree t ≡ true → m ≢ n
    → pair_of t.slots m ≡ None → pair_of t.slots n ≡ None
    → Covers (window_area (place t cols rows).slots m) x y
    → Covers (window_area (place t cols rows).slots n) x y → ⊥

-- each cell of the screen lies in a window that is no pair
abbrev pub FillsScreen : Type 0
FillsScreen =
    (t : WindowTree) (cols rows x y : ℕ) → IsOrdered t → is_tree t ≡ true → x < cols → y < rows
    → (n : ℕ) × (pair_of t.slots n ≡ None) × Covers (window_area (place t cols rows).slots n) x y

-- no key, or a window below this one that is no pair
abbrev pub IsKeyOf : WindowTree → ℕ → ℕ → Type 0
IsKeyOf t n key = (key ≡ 0) ⊎ (has_leaf (below n (tree_of t)) key ≡ true)

-- the test of a key is right, in windows that are valid: of a pair it lets each key through
pub record MayKeyHolds : Type 0 where
  pub only : (t : WindowTree) (n key : ℕ) → IsValidTree t → IsLive t n
      → may_key t.slots n key ≡ true → IsKeyOf t n key
  pub found : (t : WindowTree) (n key : ℕ) → IsValidTree t → IsLive t n → window_kind t.slots n ≡ 1
      → IsKeyOf t n key → may_key t.slots n key ≡ true

-- a window's content; of a pair its method and size alone
abbrev pub own_content : Content → Content
own_content (Pair p) = Pair (record p { key = 0; first = 0; second = 0 })
own_content Blank = Blank
own_content (Buffer b) = Buffer b
own_content (Grid g) = Grid g

-- what a window has of its own: all but its echo, the pair above it and, of a pair, its windows
abbrev pub own_fields : Window → Window
own_fields w = record w { echo = 0; parent = 0; content = own_content w.content }

abbrev pub own_of : List Window → ℕ → Option Window
own_of ws n = read_window None (λ w. Some (own_fields w)) (window_at ws n)

-- the windows that go with this one: itself, those below it, and the pair above it
abbrev pub goes_with : WindowTree → ℕ → ℕ → Bool
goes_with t n m = m == parent_of t.slots n || nat_lt 0 (times_reached (below n (tree_of t)) m)

-- closing takes exactly the windows that go, and all others keep what is their own
abbrev pub ClosesBelow : Type 0
ClosesBelow =
    (t : WindowTree) (n m : ℕ) → IsValidTree t → IsLive t n
    → own_of (close t n).slots m ≡ (if goes_with t n m then None else own_of t.slots m)

-- each call keeps the windows valid
pub record KeepsWindowsValid : Type 0 where
  pub new : IsValidTree (record { slots = []; next = 1; root = 0 })
  pub split : (t : WindowTree) (from method size kind rock : ℕ) → IsValidTree t
      → MaySplit t from method → IsValidTree (split t from method size kind rock).0
  pub close : (t : WindowTree) (n : ℕ) → IsValidTree t → IsLive t n → IsValidTree (close t n)
  pub place : (t : WindowTree) (cols rows : ℕ) → IsValidTree t → IsValidTree (place t cols rows)
  pub arrange : (t : WindowTree) (n method size key : ℕ) → IsValidTree t
      → is_method method ≡ true
      → IsKeyOf t n key → IsValidTree (arrange t n method size key)
  pub put : (t : WindowTree) (n code style : ℕ) → IsValidTree t
      → IsValidTree (put_on_window t n code style)
  pub clear : (t : WindowTree) (n : ℕ) → IsValidTree t → IsValidTree (clear t n)
  pub move_to : (t : WindowTree) (n x y : ℕ) → IsValidTree t → IsValidTree (move_to t n x y)
  pub set_stream : (t : WindowTree) (n stream : ℕ) → IsValidTree t
      → IsValidTree (stream_set t n stream)
  pub set_echo : (t : WindowTree) (n stream : ℕ) → IsValidTree t → IsValidTree (echo_set t n stream)
  pub end_echo : (t : WindowTree) (stream : ℕ) → IsValidTree t → IsValidTree (echo_ended t stream)
  pub begin_turn : (t : WindowTree) → IsValidTree t → IsValidTree (begin_turn t)

-- the characters of runs in their order, each with its style
abbrev pub spelled_by : List Run → List (ℕ × ℕ)
spelled_by [] = []
spelled_by (r ∷ rs) = map (λ code. (code, r.style)) r.codes ++ spelled_by rs

-- no run is empty, and neighbours have different styles
abbrev pub AreRuns : List Run → Type 0
AreRuns [] = Unit {0}
AreRuns (r ∷ []) = 0 < length r.codes
AreRuns (r ∷ s ∷ rs) = (0 < length r.codes) × (r.style ≢ s.style) × AreRuns (s ∷ rs)

-- runs spell what was put, each character in its style
pub record SpellsOutput : Type 0 where
  pub none : spelled_by [] ≡ []
  pub more : (rs : List Run) (code style : ℕ)
      → spelled_by (run_on rs code style) ≡ spelled_by rs ++ (code, style) ∷ []
  pub runs : (rs : List Run) (code style : ℕ) → AreRuns rs → AreRuns (run_on rs code style)

-- The rectangles that windows have (Glk 0.7.5, "Window Opening, Closing, and Constraints").
use Rattle.std.specs.Prelude.{◌≡◌, ℕ, true, Some, is_some}
use Rattle.glk_windows.specs.Laws.{window_area}
use Rattle.glk_windows.specs.Placing.{first_part, second_part, has_size, place}
use Rattle.glk_windows.specs.Tree.{WindowTree, window_at, pair_of}
use Rattle.glk_windows.specs.Valid.{IsValidTree}
use Rattle.glk_windows.specs.declared.window.Pair.{Pair}

-- the root has the whole screen, and the two windows of a pair have their parts of its rectangle
pub record HaveAreas (t : WindowTree) (cols rows : ℕ) : Type 0 where
  pub root : is_some (window_at t.slots t.root) ≡ true
      → window_area t.slots t.root ≡ record { x = 0; y = 0; w = cols; h = rows }
  pub first : (n : ℕ) (p : Pair) → pair_of t.slots n ≡ Some p
      → window_area t.slots p.first ≡ first_part p (has_size t.slots p.key) (window_area t.slots n)
  pub second : (n : ℕ) (p : Pair) → pair_of t.slots n ≡ Some p
      → window_area t.slots p.second
      ≡ second_part p (has_size t.slots p.key) (window_area t.slots n)

-- windows that are placed have their rectangles, and those that have them stay as they are: to
-- place them twice is to place them once
pub record PlacesWindows : Type 0 where
  pub gives : (t : WindowTree) (cols rows : ℕ) → IsValidTree t
      → HaveAreas (place t cols rows) cols rows
  pub again : (t : WindowTree) (cols rows : ℕ) → IsValidTree t → HaveAreas t cols rows
      → place t cols rows ≡ t

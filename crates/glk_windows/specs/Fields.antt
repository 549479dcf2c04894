-- Windows made again from what is kept of them: what tells those that a story may have (own).
use Rattle.std.specs.Prelude.{◌≡◌, ℕ, ◌+◌, ◌<◌, ◌==◌, ◌&&◌, ◌||◌, not, is_some, nat_le, Bool, true}
use Rattle.std.specs.Prelude.{List, [], ◌∷◌, length, Option, Some, None}
use Rattle.glk_numbers.specs.Numbered.{ascends}
use Rattle.glk_windows.specs.Laws.{window_area}
use Rattle.glk_windows.specs.OneTree.{Shape, are_keyed, tree_size, tested, tree_of}
use Rattle.glk_windows.specs.Placing.{first_part, second_part, has_size}
use Rattle.glk_windows.specs.Tree.{WindowTree, window_number, pair_in, window_at}
use Rattle.glk_windows.specs.Valid.{are_sound_windows, is_one_tree}
use Rattle.glk_windows.specs.declared.window.Area.{Area}
use Rattle.glk_windows.specs.declared.window.Pair as p
use Rattle.glk_windows.specs.declared.window.Window.{Window}

-- the windows of a story with these fields
abbrev pub tree_with : ℕ → ℕ → List Window → WindowTree
tree_with next root slots = record { slots = slots; next = next; root = root }

-- what is left of so many windows once those of a tree below another are counted: none where they
-- are more, or where the list doesn't have them
abbrev pub IsRest : List Window → ℕ → Shape → ℕ → Option ℕ → Type 0
IsRest ws up s most None = tested ws up s ≡ true → most < tree_size s
IsRest ws up s most (Some rest) = (tested ws up s ≡ true) × (rest + tree_size s ≡ most)

-- the numbers are from 1 on, ascend, and lie below the next one
abbrev pub is_ordered : WindowTree → Bool
is_ordered t = not (t.next == 0) && ascends window_number 0 t.next t.slots

-- the windows are valid, as a test
abbrev pub is_valid_tree : WindowTree → Bool
is_valid_tree t =
    is_ordered t
    && (nat_le (length t.slots) 64
    && (are_sound_windows t.slots && (is_one_tree t && are_keyed t.slots (tree_of t))))

-- one rectangle
abbrev pub is_same : Area → Area → Bool
is_same a b = a.x == b.x && (a.y == b.y && (a.w == b.w && a.h == b.h))

-- the two windows of a pair have their parts of its rectangle
abbrev pub has_parts : List Window → Option p.Pair → Area → Bool
has_parts ws None a = true
has_parts ws (Some p) a =
    is_same (window_area ws p.first) (first_part p (has_size ws p.key) a)
    && is_same (window_area ws p.second) (second_part p (has_size ws p.key) a)

-- so do those of each pair among these windows
unfoldable pub have_parts : List Window → List Window → Bool
have_parts ws [] = true
have_parts ws (v ∷ vs) = has_parts ws (pair_in v) v.area && have_parts ws vs

-- the root has the whole screen
abbrev pub has_screen : WindowTree → ℕ → ℕ → Bool
has_screen t cols rows =
    not (is_some (window_at t.slots t.root))
    || is_same (window_area t.slots t.root) (record { x = 0; y = 0; w = cols; h = rows })

-- the windows have their rectangles of the screen, as a test
abbrev pub have_areas : WindowTree → ℕ → ℕ → Bool
have_areas t cols rows = has_screen t cols rows && have_parts t.slots t.slots

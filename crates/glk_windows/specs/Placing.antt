-- The rectangles of the windows (Glk 0.7.5, "Window Opening, Closing, and Constraints").
use Rattle.std.specs.Prelude.{◌≡◌, ℕ, zero, suc, ◌+◌, ◌-◌, ◌*◌, ◌/◌, ◌==◌, min}
use Rattle.std.specs.Prelude.{not, true, false, ◌<◌, ◌^◌, if◌then◌else◌, Bool, List}
use Rattle.std.specs.Prelude.{[], ◌∷◌, length, bit_and, Option, Some, None}
use Rattle.glk_windows.specs.declared.window.Window.{Window}
use Rattle.glk_windows.specs.declared.window.Pair as p
use Rattle.glk_windows.specs.declared.window.Area.{Area}
use Rattle.glk_windows.specs.declared.window.Content.{Content}
use Rattle.glk_windows.specs.declared.window.Content.TheVariants.{Pair, Blank, Buffer, Grid}
use Rattle.glk_windows.specs.Resizing.{sized}
use Rattle.glk_windows.specs.Tree.{WindowTree, read_window, window_at, set_at, pair_of}

-- a pair divides its height, else its width
abbrev pub is_stacked : p.Pair → Bool
is_stacked p = not (bit_and p.method 2 == 0)

-- the second window is at the right or below, else at the left or above
abbrev pub is_after : p.Pair → Bool
is_after p = not (bit_and p.method 1 == 0)

-- a window that is no blank one is there
abbrev pub is_shown_content : Content → Bool
is_shown_content Blank = false
is_shown_content (Pair p) = true
is_shown_content (Buffer b) = true
is_shown_content (Grid g) = true

abbrev pub has_size : List Window → ℕ → Bool
has_size ws n = read_window false (λ w. is_shown_content w.content) (window_at ws n)

-- how much of the extent the second window gets
abbrev pub share : p.Pair → Bool → ℕ → ℕ
share p sized extent =
    min extent
    (if bit_and p.method 16 == 0 then extent * p.size / 100
    else (if sized then p.size else 0))

abbrev pub second_part : p.Pair → Bool → Area → Area
second_part p sized a =
    if is_stacked p
    then record a {
      y = if is_after p then a.y + (a.h - share p sized a.h) else a.y;
      h = share p sized a.h;
    }
    else record a {
      x = if is_after p then a.x + (a.w - share p sized a.w) else a.x;
      w = share p sized a.w;
    }

abbrev pub first_part : p.Pair → Bool → Area → Area
first_part p sized a =
    if is_stacked p
    then record a {
      y = if is_after p then a.y else a.y + share p sized a.h;
      h = a.h - share p sized a.h;
    }
    else record a {
      x = if is_after p then a.x else a.x + share p sized a.w;
      w = a.w - share p sized a.w;
    }

-- its sides are numbers
pub record IsOnScreen (a : Area) : Type 0 where
  pub across : a.x + a.w < 2 ^ 32
  pub down : a.y + a.h < 2 ^ 32

abbrev pub with_area : List Window → ℕ → Area → List Window
with_area ws n area = set_at (sized area) ws n

-- windows given rectangles, one after another
abbrev pub all_sized : List Window → List (ℕ × Area) → List Window
all_sized ws [] = ws
all_sized ws ((n, area) ∷ steps) = all_sized (with_area ws n area) steps

-- some windows were given rectangles, one after another, and nothing else changed
abbrev pub IsPartPlaced : List Window → List Window → Type 0
IsPartPlaced old new = (steps : List (ℕ × Area)) × (new ≡ all_sized old steps)

abbrev pub IsTreePartPlaced : WindowTree → WindowTree → Type 0
IsTreePartPlaced old new =
    IsPartPlaced old.slots new.slots × (new.next ≡ old.next) × (new.root ≡ old.root)

-- a pair's two windows get their parts
abbrev pub pair_divided : (List Window → ℕ → Area → List Window) → List Window
    → Option p.Pair → Area
    → List Window
pair_divided gives ws None area = ws
pair_divided gives ws (Some p) area =
    gives (gives ws p.first (first_part p (has_size ws p.key) area))
    p.second (second_part p (has_size ws p.key) area)

-- the window has this rectangle, and a pair's two windows their parts of it
unfoldable pub windows_placed : ℕ → List Window → ℕ → Area → List Window
windows_placed zero ws n area = ws
windows_placed (suc depth) ws n area =
    pair_divided (windows_placed depth) (with_area ws n area) (pair_of ws n) area

-- the root has the whole screen; no path is longer than the list
abbrev pub place : WindowTree → ℕ → ℕ → WindowTree
place t cols rows =
    record t {
      slots = windows_placed (length t.slots) t.slots t.root
          (record { x = 0; y = 0; w = cols; h = rows });
    }

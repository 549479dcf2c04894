-- Which windows are valid (Glk 0.7.5, "The Window Tree").
use Rattle.std.specs.Prelude.{◌≡◌, ◌*◌, ◌==◌, ◌&&◌, if◌then◌else◌, ◌≤◌, ◌<◌, Bool, true, List}
use Rattle.std.specs.Prelude.{[], ◌∷◌, length}
use Rattle.glk_numbers.specs.Numbered.{ascends}
use Rattle.glk_windows.specs.declared.window.Window.{Window}
use Rattle.glk_windows.specs.declared.window.Area.{Area}
use Rattle.glk_windows.specs.declared.window.Content.{Content}
use Rattle.glk_windows.specs.declared.window.Content.TheVariants.{Pair, Blank, Buffer, Grid}
use Rattle.glk_windows.specs.Tree.{WindowTree, window_number}
use Rattle.glk_windows.specs.Arranging.{is_method}
use Rattle.glk_windows.specs.OneTree.{is_tree, tree_of, are_keyed}

-- numbers are from 1 on, ascend, and lie below the next one
unfoldable pub IsOrdered : WindowTree → Type 0
IsOrdered t = (0 < t.next) × (ascends window_number 0 t.next t.slots ≡ true)

-- a pair's method is one, and a grid has the size of its rectangle and all its cells
abbrev pub is_sound_content : Content → Area → Bool
is_sound_content (Pair p) a = is_method p.method
is_sound_content Blank a = true
is_sound_content (Buffer b) a = true
is_sound_content (Grid g) a = g.w == a.w && (g.h == a.h && length g.cells == g.h * g.w)

abbrev pub is_sound_window : Window → Bool
is_sound_window w = is_sound_content w.content w.area

abbrev pub are_sound_windows : List Window → Bool
are_sound_windows [] = true
are_sound_windows (w ∷ ws) = is_sound_window w && are_sound_windows ws

-- no window, or all of them one tree below the root
abbrev pub is_one_tree : WindowTree → Bool
is_one_tree t = if t.root == 0 then length t.slots == 0 else is_tree t

-- the windows of a story, as its calls make and keep them
pub record IsValidTree (t : WindowTree) : Type 0 where
  pub ordered : IsOrdered t
  pub one_tree : is_one_tree t ≡ true
  pub keyed : are_keyed t.slots (tree_of t) ≡ true
  pub few : length t.slots ≤ 64
  pub sound : are_sound_windows t.slots ≡ true

-- The windows are one tree (Glk 0.7.5, "The Window Tree").
use Rattle.std.specs.Prelude.{◌≡◌, ℕ, zero, suc, ◌+◌, ◌==◌, length, ◌||◌}
use Rattle.std.specs.Prelude.{◌&&◌, if◌then◌else◌, Bool, true, false, List, [], ◌∷◌}
use Rattle.std.specs.Prelude.{Option, Some, None, is_some, option_map, nat_lt}
use Rattle.glk_windows.specs.declared.window.Window.{Window}
use Rattle.glk_windows.specs.declared.window.Pair as p
use Rattle.glk_windows.specs.Tree.{WindowTree, read_window, window_at, pair_in, pair_of}
use Rattle.glk_windows.specs.Tree.{pair_swapped}

-- a tree of windows, with what each pair holds
pub data Shape : Type 0 where
  Leaf : ℕ → Shape
  Fork : ℕ → p.Pair → Shape → Shape → Shape

abbrev pub top : Shape → ℕ
top (Leaf n) = n
top (Fork n p a b) = n

-- what its first window holds as a pair
abbrev pub kids : Shape → Option p.Pair
kids (Leaf n) = None
kids (Fork n p a b) = Some p

-- how often a window is reached
abbrev pub times_reached : Shape → ℕ → ℕ
times_reached (Leaf n) m = if n == m then 1 else 0
times_reached (Fork n p a b) m = (if n == m then 1 else 0) + times_reached a m + times_reached b m

-- a pair without its key, which is no part of the tree
abbrev pub pair_without_key : p.Pair → p.Pair
pair_without_key p = record p { key = 0 }

abbrev pub bare_in : Window → Option p.Pair
bare_in w = option_map pair_without_key (pair_in w)

-- a window's parent and what it holds as a pair
abbrev pub node_of : List Window → ℕ → Option (ℕ × Option p.Pair)
node_of [] n = None
node_of (w ∷ ws) n = if w.number == n then Some (w.parent, bare_in w) else node_of ws n

-- the list spells this tree below a window
abbrev pub SpellsTree : List Window → ℕ → Shape → Type 0
SpellsTree ws up (Leaf n) = node_of ws n ≡ Some (up, None)
SpellsTree ws up (Fork n p a b) =
    (node_of ws n ≡ Some (up, Some p)) × (p.first ≡ top a) × (p.second ≡ top b)
    × SpellsTree ws n a × SpellsTree ws n b

-- a pair in the place of a window, with it and a new one below
abbrev pub tree_forked : ℕ → ℕ → p.Pair → ℕ → Shape → Shape
tree_forked from pair p new (Leaf n) = if n == from then Fork pair p (Leaf n) (Leaf new) else Leaf n
tree_forked from pair p new (Fork n q a b) =
    if n == from then Fork pair p (Fork n q a b) (Leaf new)
    else Fork n (pair_swapped q from pair) (tree_forked from pair p new a)
    (tree_forked from pair p new b)

-- each window is reached once, and nothing else is
abbrev pub Once : List Window → Shape → Type 0
Once ws s = (m : ℕ) → times_reached s m ≡ (if is_some (node_of ws m) then 1 else 0)

-- the windows are this tree, or there is none
abbrev pub IsTree : WindowTree → Option Shape → Type 0
IsTree t None = (t.root ≡ 0) × (t.slots ≡ [])
IsTree t (Some s) = (t.root ≡ top s) × SpellsTree t.slots 0 s × Once t.slots s

-- how many windows
abbrev pub tree_size : Shape → ℕ
tree_size (Leaf n) = 1
tree_size (Fork n p a b) = 1 + tree_size a + tree_size b

-- the part of the tree from a window on
abbrev pub below : ℕ → Shape → Shape
below n (Leaf m) = Leaf m
below n (Fork m p a b) =
    if m == n then Fork m p a b else (if nat_lt 0 (times_reached a n) then below n a else below n b)

-- the tree without a window, those below it and the pair above it
abbrev pub tree_without : ℕ → Shape → Shape
tree_without n (Leaf m) = Leaf m
tree_without n (Fork m p a b) =
    if top a == n then b
    else (if top b == n then a
    else (if nat_lt 0 (times_reached a n)
    then Fork m (record p { first = top (tree_without n a) }) (tree_without n a) b
    else Fork m (record p { second = top (tree_without n b) }) a (tree_without n b)))

-- what the pair above a window holds
abbrev pub pair_above : ℕ → Shape → p.Pair
pair_above n (Leaf m) = record { method = 0; size = 0; key = 0; first = 0; second = 0 }
pair_above n (Fork m p a b) =
    if top a == n then p
    else (if top b == n then p
    else (if nat_lt 0 (times_reached a n) then pair_above n a else pair_above n b))

abbrev pub shape_with : (ℕ → Shape) → ℕ → Option p.Pair → Shape
shape_with f n None = Leaf n
shape_with f n (Some p) = Fork n p (f p.first) (f p.second)

-- the tree that a list has from a window on, to a depth
unfoldable pub shape_of : ℕ → List Window → ℕ → Shape
shape_of zero ws n = Leaf n
shape_of (suc d) ws n = shape_with (shape_of d ws) n (option_map pair_without_key (pair_of ws n))

-- a window is there, under this one
abbrev pub is_under : ℕ → Option (ℕ × Option p.Pair) → Bool
is_under up None = false
is_under up (Some x) = x.0 == up

abbrev pub no_pair : Option (ℕ × Option p.Pair) → Bool
no_pair None = true
no_pair (Some (u, None)) = true
no_pair (Some (u, Some p)) = false

-- each window of a tree is there, under the one above it
abbrev pub tested : List Window → ℕ → Shape → Bool
tested ws up (Leaf n) = is_under up (node_of ws n) && no_pair (node_of ws n)
tested ws up (Fork n p a b) = is_under up (node_of ws n) && (tested ws n a && tested ws n b)

-- each window is reached once
abbrev pub once : List Window → Shape → Bool
once [] s = true
once (w ∷ ws) s = (times_reached s w.number == 1) && once ws s

-- the windows that there are, with this root, are this tree
abbrev pub is_tree_spelled : List Window → Shape → Bool
is_tree_spelled ws s = tested ws 0 s && once ws s

-- the windows with a root are one tree
abbrev pub is_tree : WindowTree → Bool
is_tree t = is_tree_spelled t.slots (shape_of (length t.slots) t.slots t.root)

-- the one tree of the windows
abbrev pub tree_of : WindowTree → Shape
tree_of t = shape_of (length t.slots) t.slots t.root

-- the key of a pair, or 0
abbrev pub key_in : Option p.Pair → ℕ
key_in None = 0
key_in (Some p) = p.key

abbrev pub pair_key : List Window → ℕ → ℕ
pair_key ws n = read_window 0 (λ w. key_in (pair_in w)) (window_at ws n)

-- a tree has this window, and it is no pair
abbrev pub has_leaf : Shape → ℕ → Bool
has_leaf (Leaf n) k = n == k
has_leaf (Fork n p a b) k = has_leaf a k || has_leaf b k

-- each pair's key is 0, or a window below it that is no pair
abbrev pub are_keyed : List Window → Shape → Bool
are_keyed ws (Leaf n) = true
are_keyed ws (Fork n p a b) =
    (pair_key ws n == 0 || (has_leaf a (pair_key ws n) || has_leaf b (pair_key ws n)))
    && (are_keyed ws a && are_keyed ws b)

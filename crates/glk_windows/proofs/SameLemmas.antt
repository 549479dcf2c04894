-- Output and placing leave the tree as it is.
use Rattle.std.proofs.Common.{◌≡◌, ℕ, List, [], ◌∷◌, map, refl, sym, ap, ◌∙◌, Option, Some, None}
use Rattle.std.proofs.Common.{is_some, option_map, arith, if◌then◌else◌}
use Rattle.std.proofs.lemmas.Grind.{common_steps}
use Rattle.glk_numbers.specs.Numbered.{found, changed_at}
use Rattle.glk_windows.specs.declared.window.Window.{Window}
use Rattle.glk_windows.specs.declared.window.Area.{Area}
use Rattle.glk_windows.specs.declared.window.Pair as p
use Rattle.glk_windows.specs.declared.window.Content.{Content}
use Rattle.glk_windows.specs.declared.window.Content.TheVariants.{Pair}
use Rattle.glk_windows.specs.Tree.{WindowTree, read_window, window_at, set_at, pair_content}
use Rattle.glk_windows.specs.Placing.{windows_placed, with_area}
use Rattle.glk_windows.specs.Resizing.{sized, content_sized}
use Rattle.glk_windows.specs.OneTree.{Shape, node_of, pair_without_key, bare_in, IsTree}
use Rattle.glk_windows.proofs.CutLemmas.{spells_on}
use Rattle.glk_windows.proofs.KeepLemmas.{placed_keeps}

pub same_tree : (t u : WindowTree) (s : Shape)
    → ((m : ℕ) → node_of u.slots m ≡ node_of t.slots m)
    → u.root ≡ t.root
    → IsTree t (Some s) → IsTree u (Some s)
same_tree t u s f e h = (
  e ∙ h.0,
  spells_on t.slots u.slots s 0 (λ m k. f m) h.1,
  λ m. h.2 m ∙ ap (λ o. if is_some o then 1 else 0) (sym (f m)),
)

-- what is read of a window stays, where a change of it touches nothing that is read
pub read_set_at : {A : Type 0} (none : A) (of : Window → A) (f : Window → Window)
    → ((w : Window) → (f w).number ≡ w.number) → ((w : Window) → of (f w) ≡ of w)
    → (ws : List Window) (n m : ℕ)
    → read_window none of (window_at (set_at f ws n) m) ≡ read_window none of (window_at ws m)
unfolding changed_at found
read_set_at none of f num e [] n m = refl
read_set_at none of f num e (w ∷ ws) n m =
    let i : _ = num w in
    let j : _ = e w in
    let k : _ = read_set_at none of f num e ws n m in
    grind (arith, common_steps)

pub read_map : {A : Type 0} (none : A) (of : Window → A) (f : Window → Window)
    → ((w : Window) → (f w).number ≡ w.number) → ((w : Window) → of (f w) ≡ of w)
    → (ws : List Window) (m : ℕ)
    → read_window none of (window_at (map f ws) m) ≡ read_window none of (window_at ws m)
unfolding found
read_map none of f num e [] m = refl
read_map none of f num e (w ∷ ws) m =
    let i : _ = num w in
    let j : _ = e w in
    let k : _ = read_map none of f num e ws m in
    grind (arith, common_steps)

pub read_placed : {A : Type 0} (none : A) (of : Window → A)
    → ((a : Area) (w : Window) → of (sized a w) ≡ of w)
    → (d : ℕ) (ws : List Window) (n : ℕ) (r : Area) (m : ℕ)
    → read_window none of (window_at (windows_placed d ws n r) m)
    ≡ read_window none of (window_at ws m)
read_placed none of e d ws n r m =
    placed_keeps
    (λ vs. read_window none of (window_at vs m) ≡ read_window none of (window_at ws m))
    (λ vs k a h. read_set_at none of (sized a) (λ w. refl) (e a) vs k m ∙ h) d ws n r refl

pub pair_sized : (a : Area) (c : Content) → pair_content (content_sized c a) ≡ pair_content c
pair_sized a (Pair p) = refl
pair_sized a c = refl

-- a window's parent and what it holds as a pair
abbrev pub node_in : Window → Option (ℕ × Option p.Pair)
node_in w = Some (w.parent, bare_in w)

pub node_read : (ws : List Window) (m : ℕ)
    → node_of ws m ≡ read_window None node_in (window_at ws m)
unfolding found
node_read [] m = refl
node_read (w ∷ ws) m = let k : _ = node_read ws m in grind (arith, common_steps)

-- windows that are read alike have the same place in the tree
pub node_alike : (ws vs : List Window) (m : ℕ)
    → read_window None node_in (window_at vs m) ≡ read_window None node_in (window_at ws m)
    → node_of vs m ≡ node_of ws m
node_alike ws vs m e = node_read vs m ∙ e ∙ sym (node_read ws m)

sized-node : (a : Area) (w : Window) → node_in (sized a w) ≡ node_in w
sized-node a w =
    ap (λ o. Some (w.parent, option_map pair_without_key o)) (pair_sized a w.content)

-- a rectangle leaves the tree as it is
pub node_with : (ws : List Window) (n : ℕ) (r : Area) (m : ℕ)
    → node_of (with_area ws n r) m ≡ node_of ws m
node_with ws n r m =
    node_alike ws _ m (read_set_at None node_in (sized r) (λ w. refl) (sized-node r) ws n m)

pub node_placed : (d : ℕ) (ws : List Window) (n : ℕ) (r : Area) (m : ℕ)
    → node_of (windows_placed d ws n r) m ≡ node_of ws m
node_placed d ws n r m = node_alike ws _ m (read_placed None node_in sized-node d ws n r m)
